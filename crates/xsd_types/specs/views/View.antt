-- The values of texts in the datatypes of the code.
use Rattle.std.specs.Prelude.{ℕ, List, Bool}
use Rattle.std.specs.Str.{chars}
use Rattle.rng_model.specs.names.Names.{is_ncname}
use Rattle.rng_model.specs.datatypes.Datatypes.{Meaning, is_nmtoken, xsd_string, xsd_token, xsd_ncname, xsd_nmtoken, xsd_boolean}
use Rattle.rng_types.specs.views.View as builtin
use Rattle.rng_types.specs.views.View.{lengths_of}
use Rattle.rng_model.specs.xsd.Names.{is_name, is_language, is_qname}
use Rattle.rng_model.specs.xsd.Uris.{xsd_any_uri}
use Rattle.rng_model.specs.xsd.Types.{xsd_normalized, xsd_word, xsd_list}
use Rattle.xsd_types.specs.views.Numbers.{number_meaning}
use Rattle.xsd_types.specs.views.Octets.{octets_by}
use Rattle.xsd_types.specs.views.Ordered.{decimal_by, float_by, duration_by, time_by, moment_by}
use Rattle.xsd_types.specs.declared.words.WordKind.{WordKind}
use Rattle.xsd_types.specs.declared.words.WordKind.TheVariants as words
use Rattle.xsd_types.specs.declared.lists.ItemKind.{ItemKind}
use Rattle.xsd_types.specs.declared.lists.ItemKind.TheVariants as items
use Rattle.xsd_patterns.specs.views.Compiled.{restricted}
use Rattle.xsd_types.specs.declared.plain_type.PlainType.{PlainType}
use Rattle.xsd_types.specs.declared.plain_type.PlainType.TheVariants as types
use Rattle.xsd_types.specs.declared.xsd_type.XsdType.{XsdType}
use Rattle.xsd_types.specs.declared.known.KnownDatatype.{KnownDatatype}
use Rattle.xsd_types.specs.declared.known.KnownDatatype.TheVariants as known

-- the test of a word
abbrev pub word_test : WordKind → List ℕ → Bool
word_test words.Language = is_language
word_test words.Name = λ w. is_name (chars w)
word_test words.QName = is_qname

-- the test of an item
abbrev pub item_test : ItemKind → List ℕ → Bool
item_test items.NmToken = λ p. is_nmtoken (chars p)
item_test items.NcName = λ p. is_ncname (chars p)

-- the values of texts in a datatype without its patterns, and with them
abbrev pub plain_meaning : PlainType → Meaning
plain_meaning (types.String d) = xsd_string (lengths_of d.lengths)
plain_meaning (types.NormalizedString d) = xsd_normalized (lengths_of d.lengths)
plain_meaning (types.Token d) = xsd_token (lengths_of d.lengths)
plain_meaning (types.NcName d) = xsd_ncname (lengths_of d.lengths)
plain_meaning (types.NmToken d) = xsd_nmtoken (lengths_of d.lengths)
plain_meaning (types.Uri d) = xsd_any_uri (lengths_of d.lengths)
plain_meaning (types.Word d) = xsd_word (word_test d.kind) (lengths_of d.lengths)
plain_meaning (types.List d) = xsd_list (item_test d.kind) (lengths_of d.lengths)
plain_meaning (types.Boolean d) = xsd_boolean
plain_meaning (types.Octets d) = octets_by d.kind (lengths_of d.lengths)
plain_meaning (types.Integer d) = number_meaning d
plain_meaning (types.Decimal d) = decimal_by d
plain_meaning (types.Float d) = float_by d
plain_meaning (types.Duration d) = duration_by d
plain_meaning (types.Time d) = time_by d
plain_meaning (types.Moment d) = moment_by d

abbrev pub meaning_by : XsdType → Meaning
meaning_by d = restricted d.patterns (plain_meaning d.plain)

abbrev pub known_meaning : KnownDatatype → Meaning
known_meaning (known.Builtin d) = builtin.meaning_by d
known_meaning (known.Xsd d) = meaning_by d
