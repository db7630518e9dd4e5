-- What each kind of a type makes of its parameters.
use Rattle.std.specs.Prelude.{ℕ}
use Rattle.std.specs.Option.{option_map}
use Rattle.rng_model.specs.datatypes.Facets.{Lengths}
use Rattle.rng_model.specs.datatypes.Datatypes.{Meaning, Maker, without, xsd_string, xsd_token, xsd_ncname, xsd_nmtoken, xsd_boolean}
use Rattle.rng_model.specs.xsd.Types.{xsd_normalized, xsd_word, xsd_list, xsd_qname}
use Rattle.rng_model.specs.xsd.Uris.{xsd_any_uri}
use Rattle.rng_model.specs.xsd.Facets.{written_lengths}
use Rattle.rng_model.specs.xsd.Datatypes.{with_number_facets}
use Rattle.rng_model.specs.xsd.primitives.Durations.{durations}
use Rattle.rng_model.specs.xsd.primitives.Moments.{times}
use Rattle.rng_model.specs.xsd.primitives.Floats.{floats}
use Rattle.rng_model.specs.xsd.primitives.Types.{with_limits, with_decimal_facets}
use Rattle.rng_model.specs.xsd.primitives.Values.{float, moment, time, duration}
use Rattle.rng_model.specs.regexes.Patterns.{with_patterns}
use Rattle.xsd_floats.specs.views.Values.{format_of}
use Rattle.xsd_moments.specs.Views.{ordered_of}
use Rattle.xsd_automaton.specs.declared.white_space.WhiteSpace.{WhiteSpace}
use Rattle.xsd_automaton.specs.declared.white_space.WhiteSpace.TheVariants as white_space
use Rattle.xsd_automaton.specs.views.WhiteSpace.{treated}
use Rattle.xsd_types.specs.declared.kind.Kind.{Kind}
use Rattle.xsd_types.specs.declared.kind.Kind.TheVariants as kinds
use Rattle.xsd_types.specs.declared.kind.OrderedKind.{OrderedKind}
use Rattle.xsd_types.specs.declared.kind.OrderedKind.TheVariants as ordered
use Rattle.xsd_types.specs.declared.kind.TextKind.{TextKind}
use Rattle.xsd_types.specs.declared.kind.TextKind.TheVariants as texts
use Rattle.xsd_types.specs.views.Numbers.{written_range}
use Rattle.xsd_types.specs.views.Octets.{octets_by}
use Rattle.xsd_types.specs.views.View.{word_test, item_test}

abbrev pub text_meaning : TextKind → Lengths → Meaning
text_meaning texts.String l = xsd_string l
text_meaning texts.NormalizedString l = xsd_normalized l
text_meaning texts.Token l = xsd_token l
text_meaning texts.NcName l = xsd_ncname l
text_meaning texts.NmToken l = xsd_nmtoken l
text_meaning texts.Uri l = xsd_any_uri l
text_meaning (texts.Word k) l = xsd_word (word_test k) l
text_meaning (texts.List k) l = xsd_list (item_test k) l
text_meaning (texts.Octets k) l = octets_by k l

-- a list has one item at least
abbrev pub least_length : TextKind → ℕ
least_length (texts.List k) = 1
least_length _ = 0

abbrev pub ordered_maker : OrderedKind → Maker
ordered_maker ordered.Decimal = with_decimal_facets
ordered_maker (ordered.Float k) = with_limits float (floats (format_of k))
ordered_maker ordered.Duration = with_limits duration durations
ordered_maker ordered.Time = with_limits time times
ordered_maker (ordered.Moment k) = with_limits moment (ordered_of k)

-- what the type makes of the parameters that are no patterns
abbrev pub plain_maker : Kind → Maker
plain_maker (kinds.Text k) = λ ps. option_map (text_meaning k) (written_lengths (least_length k) ps)
plain_maker kinds.Boolean = without xsd_boolean
plain_maker kinds.QName = without xsd_qname
plain_maker (kinds.Integer r) = with_number_facets (written_range r)
plain_maker (kinds.Ordered k) = ordered_maker k

abbrev pub text_white_space : TextKind → WhiteSpace
text_white_space texts.String = white_space.Preserve
text_white_space texts.NormalizedString = white_space.Replace
text_white_space _ = white_space.Collapse

abbrev pub white_space_of : Kind → WhiteSpace
white_space_of (kinds.Text k) = text_white_space k
white_space_of _ = white_space.Collapse

-- and of all parameters
abbrev pub maker_of : Kind → Maker
maker_of k = with_patterns (treated (white_space_of k)) (plain_maker k)
