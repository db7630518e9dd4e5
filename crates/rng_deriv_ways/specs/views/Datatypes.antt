-- The meanings of the datatypes that a grammar names, by the positions of the patterns that name them.
use Rattle.std.specs.Prelude.{◌≡◌, ℕ, Box, Option, Some, None, length, slice_get, string_bytes}
use Rattle.rng_model.specs.datatypes.Datatypes.{Meaning}
use Rattle.rng_model.specs.schema.Patterns.{without_parameters}
use Rattle.rng_model.specs.simple.Table.{Table}
use Rattle.rng_model.specs.datatypes.DatatypeViews.{datatype_of}
use Rattle.rng_model.specs.declared.simple.Simple.{Simple}
use Rattle.rng_model.specs.declared.simple.Simple.TheVariants as simple
use Rattle.rng_model.specs.declared.type_set.TypeSet.{TypeSet}
use Rattle.rng_model.specs.xsd.TypeSets.{meaning_in}
use Rattle.xsd_types.specs.views.View.{known_meaning}
use Rattle.xsd_types.specs.declared.known.KnownDatatype.{KnownDatatype}
use Rattle.rng_deriv_ways.specs.declared.datatypes.Datatypes.{Datatypes}

-- the meaning of the datatype of a set that a pattern names, if it names one (RELAX NG Specification, sections 6.2.8 and 6.2.9)
abbrev pub meaning_named_by : TypeSet → Simple → Option Meaning
meaning_named_by types simple.NotAllowed = None
meaning_named_by types simple.Empty = None
meaning_named_by types simple.Text = None
meaning_named_by types (simple.Element e) = None
meaning_named_by types (simple.Attribute class body) = None
meaning_named_by types (simple.List body) = None
meaning_named_by types (simple.Data datatype) = meaning_in types (datatype_of datatype.value)
meaning_named_by types (simple.DataExcept datatype except) = meaning_in types (datatype_of datatype.value)
meaning_named_by types (simple.Value value) = meaning_in types (without_parameters (string_bytes value.value.library) (string_bytes value.value.name))
meaning_named_by types (simple.OneOrMore body) = None
meaning_named_by types (simple.Group a b) = None
meaning_named_by types (simple.Interleave a b) = None
meaning_named_by types (simple.Choice a b) = None

-- how many positions there are
abbrev pub position_count : Datatypes → ℕ
position_count datatypes = length datatypes.by_position.items

-- the meaning of what is kept, if there is one
abbrev pub meaning_kept : {Z : Type 0} → Option (Option (Box KnownDatatype Z)) → Option Meaning
meaning_kept None = None
meaning_kept (Some None) = None
meaning_kept (Some (Some datatype)) = Some (known_meaning datatype.value)

-- the meaning that is kept at a position
abbrev pub meaning_at : Datatypes → ℕ → Option Meaning
meaning_at datatypes k = meaning_kept (slice_get datatypes.by_position.items k)

-- for each pattern of the grammar the meaning of what it names is kept at its position
abbrev pub AreDatatypesOf : Table → Datatypes → Type 0
AreDatatypesOf t datatypes = (k : ℕ) (row : Simple) → slice_get t.patterns k ≡ Some row → meaning_at datatypes k ≡ meaning_named_by t.types row
