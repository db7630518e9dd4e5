-- The facts of a pattern, from those of its children.
use Rattle.std.specs.Prelude.{Option, Some, None, false, ◌&&◌, ◌||◌}
use Rattle.rng_model.specs.names.Names.{NameClass}
use Rattle.rng_model.specs.simple.Grammar as model
use Rattle.rng_model.specs.simple.Grammar.{not_allowed_kind, empty_kind, text_kind, ref_kind, attribute_kind, one_or_more_kind, choice_kind}
use Rattle.rng_rules.specs.plain.Facts.{has_wildcard, of_attribute, of_both, of_either, nothing_held}
use Rattle.rng_rules.specs.plain.Kinds.{is_attribute, is_one_or_more, is_list, is_data, is_between, is_barred_from_attribute, is_barred_from_list}
use Rattle.rng_rules.specs.plain.Kinds.{is_barred_from_except, is_barred_from_start, is_not_allowed, is_text, is_interleave}
use Rattle.rng_rules.specs.declared.content.ContentType.{ContentType}
use Rattle.rng_rules.specs.declared.content.ContentType.TheVariants as content
use Rattle.rng_rules.specs.declared.facts.Facts.{Facts}
use Rattle.rng_rules.specs.declared.held.Held.{Held}

-- what one or the other contains
abbrev pub either_held : Held → Held → Held
either_held a b = record {
  attribute = a.attribute || b.attribute;
  joined_attribute = a.joined_attribute || b.joined_attribute;
  barred_from_attribute = a.barred_from_attribute || b.barred_from_attribute;
  barred_from_list = a.barred_from_list || b.barred_from_list;
  barred_from_except = a.barred_from_except || b.barred_from_except;
  barred_from_start = a.barred_from_start || b.barred_from_start;
  breaks_attribute = a.breaks_attribute || b.breaks_attribute;
  breaks_one_or_more = a.breaks_one_or_more || b.breaks_one_or_more;
  breaks_list = a.breaks_list || b.breaks_list;
  breaks_except = a.breaks_except || b.breaks_except;
}

-- what a pattern of a kind contains, from what is inside it
abbrev pub held_with : model.Kind → Held → Held
held_with kind a = record {
  attribute = is_attribute kind || a.attribute;
  joined_attribute = (is_between kind && a.attribute) || a.joined_attribute;
  barred_from_attribute = is_barred_from_attribute kind || a.barred_from_attribute;
  barred_from_list = is_barred_from_list kind || a.barred_from_list;
  barred_from_except = is_barred_from_except kind || a.barred_from_except;
  barred_from_start = is_barred_from_start kind || a.barred_from_start;
  breaks_attribute = (is_attribute kind && a.barred_from_attribute) || a.breaks_attribute;
  breaks_one_or_more = (is_one_or_more kind && a.joined_attribute) || a.breaks_one_or_more;
  breaks_list = (is_list kind && a.barred_from_list) || a.breaks_list;
  breaks_except = (is_data kind && a.barred_from_except) || a.breaks_except;
}

abbrev pub content_of_leaf : model.Kind → Option ContentType
content_of_leaf not_allowed_kind = None
content_of_leaf empty_kind = Some content.Empty
content_of_leaf text_kind = Some content.Complex
content_of_leaf ref_kind = Some content.Complex
content_of_leaf _ = Some content.Simple

abbrev pub facts_of_leaf : model.Kind → Facts
facts_of_leaf kind = record {
  held = held_with kind nothing_held;
  not_allowed = is_not_allowed kind;
  content = content_of_leaf kind;
  unrepeated_wildcard = false;
  text_occurs = is_text kind;
  breaks_text = false;
}

abbrev pub facts_of_attribute : NameClass → Facts → Facts
facts_of_attribute class body = record {
  held = held_with attribute_kind body.held;
  not_allowed = false;
  content = of_attribute body.content;
  unrepeated_wildcard = has_wildcard class || body.unrepeated_wildcard;
  text_occurs = false;
  breaks_text = body.breaks_text;
}

-- the facts of a list, or of a datatype with an except
abbrev pub facts_of_simple : model.Kind → Facts → Facts
facts_of_simple kind body = record {
  held = held_with kind body.held;
  not_allowed = false;
  content = Some content.Simple;
  unrepeated_wildcard = body.unrepeated_wildcard;
  text_occurs = false;
  breaks_text = body.breaks_text;
}

abbrev pub facts_of_repeated : Facts → Facts
facts_of_repeated body = record {
  held = held_with one_or_more_kind body.held;
  not_allowed = false;
  content = of_both body.content body.content;
  unrepeated_wildcard = false;
  text_occurs = body.text_occurs;
  breaks_text = body.breaks_text;
}

abbrev pub content_of_sides : model.Kind → Option ContentType → Option ContentType → Option ContentType
content_of_sides choice_kind t u = of_either t u
content_of_sides _ t u = of_both t u

abbrev pub facts_of_joined : model.Kind → Facts → Facts → Facts
facts_of_joined kind a b = record {
  held = held_with kind (either_held a.held b.held);
  not_allowed = false;
  content = content_of_sides kind a.content b.content;
  unrepeated_wildcard = a.unrepeated_wildcard || b.unrepeated_wildcard;
  text_occurs = a.text_occurs || b.text_occurs;
  breaks_text = (is_interleave kind && (a.text_occurs && b.text_occurs)) || (a.breaks_text || b.breaks_text);
}
