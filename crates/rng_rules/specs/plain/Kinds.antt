-- Which kinds of pattern are not allowed where, as tests.
use Rattle.std.specs.Prelude.{Bool, true, false}
use Rattle.rng_model.specs.simple.Grammar as model
use Rattle.rng_model.specs.simple.Grammar.{not_allowed_kind, empty_kind, text_kind, ref_kind, attribute_kind, list_kind, data_kind, value_kind}
use Rattle.rng_model.specs.simple.Grammar.{one_or_more_kind, choice_kind, group_kind, interleave_kind}
use Rattle.rng_rules.specs.declared.kind.Kind.{Kind}
use Rattle.rng_rules.specs.declared.kind.Kind.TheVariants as kind

abbrev pub kind_seen : Kind → model.Kind
kind_seen kind.NotAllowed = not_allowed_kind
kind_seen kind.Empty = empty_kind
kind_seen kind.Text = text_kind
kind_seen kind.Ref = ref_kind
kind_seen kind.Attribute = attribute_kind
kind_seen kind.List = list_kind
kind_seen kind.Data = data_kind
kind_seen kind.Value = value_kind
kind_seen kind.OneOrMore = one_or_more_kind
kind_seen kind.Choice = choice_kind
kind_seen kind.Group = group_kind
kind_seen kind.Interleave = interleave_kind

abbrev pub is_not_allowed : model.Kind → Bool
is_not_allowed not_allowed_kind = true
is_not_allowed _ = false

abbrev pub is_text : model.Kind → Bool
is_text text_kind = true
is_text _ = false

abbrev pub is_interleave : model.Kind → Bool
is_interleave interleave_kind = true
is_interleave _ = false

abbrev pub is_attribute : model.Kind → Bool
is_attribute attribute_kind = true
is_attribute _ = false

abbrev pub is_one_or_more : model.Kind → Bool
is_one_or_more one_or_more_kind = true
is_one_or_more _ = false

abbrev pub is_list : model.Kind → Bool
is_list list_kind = true
is_list _ = false

abbrev pub is_data : model.Kind → Bool
is_data data_kind = true
is_data _ = false

-- a group or an interleave
abbrev pub is_between : model.Kind → Bool
is_between group_kind = true
is_between interleave_kind = true
is_between _ = false

abbrev pub is_barred_from_attribute : model.Kind → Bool
is_barred_from_attribute ref_kind = true
is_barred_from_attribute attribute_kind = true
is_barred_from_attribute _ = false

abbrev pub is_barred_from_list : model.Kind → Bool
is_barred_from_list list_kind = true
is_barred_from_list ref_kind = true
is_barred_from_list attribute_kind = true
is_barred_from_list text_kind = true
is_barred_from_list interleave_kind = true
is_barred_from_list _ = false

abbrev pub is_barred_from_except : model.Kind → Bool
is_barred_from_except attribute_kind = true
is_barred_from_except ref_kind = true
is_barred_from_except text_kind = true
is_barred_from_except list_kind = true
is_barred_from_except group_kind = true
is_barred_from_except interleave_kind = true
is_barred_from_except one_or_more_kind = true
is_barred_from_except empty_kind = true
is_barred_from_except _ = false

abbrev pub is_barred_from_start : model.Kind → Bool
is_barred_from_start attribute_kind = true
is_barred_from_start data_kind = true
is_barred_from_start value_kind = true
is_barred_from_start text_kind = true
is_barred_from_start list_kind = true
is_barred_from_start group_kind = true
is_barred_from_start interleave_kind = true
is_barred_from_start one_or_more_kind = true
is_barred_from_start empty_kind = true
is_barred_from_start _ = false
