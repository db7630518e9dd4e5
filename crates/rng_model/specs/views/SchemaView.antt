-- What the parts of a schema of several grammars are, without their place in memory.
use Rattle.std.specs.Prelude.{ℕ, Bool, List, [], map, reverse, option_map, slice_index_or, string_bytes}
use Rattle.std.specs.List.{fold}
use Rattle.std.specs.Str.{bytes_eq}
use Rattle.rng_model.specs.declared.place.Place.{Place}
use Rattle.rng_model.specs.declared.schema_pattern.SchemaPattern.{SchemaPattern}
use Rattle.rng_model.specs.declared.schema_pattern.SchemaRow.{SchemaRow}
use Rattle.rng_model.specs.declared.schema_pattern.SchemaRow.TheVariants as row
use Rattle.rng_model.specs.declared.component.Component.{Component}
use Rattle.rng_model.specs.simple.Tree.{choice, group, interleave}
use Rattle.rng_model.specs.datatypes.DatatypeViews.{datatype_of}
use Rattle.rng_model.specs.names.NameViews.{class_of}
use Rattle.rng_model.specs.views.PlaceViews.{numbers_of}
use Rattle.rng_model.specs.views.ReplacedLists.{replaced}
use Rattle.rng_model.specs.schema.Patterns as pattern
use Rattle.rng_model.specs.schema.Schema as schema

-- the place as the numbers, the innermost first
abbrev pub place_of : Place → pattern.Place
place_of p = reverse (numbers_of p)

-- what `==` returns for two places; a map with places as its keys distinguishes them by it
abbrev pub place_eq : Place → Place → Bool
place_eq p q = bytes_eq (numbers_of p) (numbers_of q)

-- the entries of such a map, with the views of their places
abbrev pub by_place : {V : Type 0} → List (Place × V) → List (pattern.Place × V)
by_place es = map (λ e. (place_of e.0, e.1)) es

-- how many of the last patterns before a row are its children
abbrev pub row_arity : SchemaRow → ℕ
row_arity row.NotAllowed = 0
row_arity row.Empty = 0
row_arity row.Text = 0
row_arity (row.Data d) = 0
row_arity (row.Value v) = 0
row_arity (row.Ref y) = 0
row_arity (row.ParentRef y) = 0
row_arity (row.Grammar z) = 0
row_arity (row.Element c) = 1
row_arity (row.Attribute c) = 1
row_arity row.List = 1
row_arity (row.DataExcept d) = 1
row_arity row.Mixed = 1
row_arity row.Optional = 1
row_arity row.ZeroOrMore = 1
row_arity row.OneOrMore = 1
row_arity row.External = 1
row_arity (row.Group n) = n
row_arity (row.Interleave n) = n
row_arity (row.Choice n) = n

-- the only child; a child that is missing is notAllowed
abbrev pub child : List pattern.Pattern → pattern.Pattern
child ps = slice_index_or ps 0 pattern.not_allowed

-- the pattern of a row with these children
abbrev pub row_pattern : SchemaRow → List pattern.Pattern → pattern.Pattern
row_pattern row.NotAllowed ps = pattern.not_allowed
row_pattern row.Empty ps = pattern.empty
row_pattern row.Text ps = pattern.text
row_pattern (row.Element c) ps = pattern.element (class_of c.value) (child ps)
row_pattern (row.Attribute c) ps = pattern.attribute (class_of c.value) (child ps)
row_pattern row.List ps = pattern.list (child ps)
row_pattern (row.Data d) ps = pattern.data_of (datatype_of d.value)
row_pattern (row.DataExcept d) ps = pattern.data_except (datatype_of d.value) (child ps)
row_pattern (row.Value v) ps = pattern.value (string_bytes v.value.library) (string_bytes v.value.name) (string_bytes v.value.text)
row_pattern row.Mixed ps = pattern.mixed (child ps)
row_pattern row.Optional ps = pattern.optional (child ps)
row_pattern row.ZeroOrMore ps = pattern.zero_or_more (child ps)
row_pattern row.OneOrMore ps = pattern.one_or_more (child ps)
row_pattern (row.Group n) ps = pattern.joined_members group ps
row_pattern (row.Interleave n) ps = pattern.joined_members interleave ps
row_pattern (row.Choice n) ps = pattern.joined_members choice ps
row_pattern (row.Ref y) ps = pattern.ref (string_bytes y)
row_pattern (row.ParentRef y) ps = pattern.parent_ref (string_bytes y)
row_pattern (row.Grammar z) ps = pattern.grammar (place_of z)
row_pattern row.External ps = pattern.external (child ps)

-- a row replaces the last patterns, its children, by its own
abbrev pub with_row : List pattern.Pattern → SchemaRow → List pattern.Pattern
with_row ps r = replaced (row_arity r) (row_pattern r) ps

-- the patterns of a list of rows, in order
unfoldable pub patterns_in : List SchemaRow → List pattern.Pattern
patterns_in rows = fold with_row [] rows

abbrev pub schema_pattern_of : SchemaPattern → pattern.Pattern
schema_pattern_of p = child (patterns_in p.rows.items)

abbrev pub schema_component_of : Component → schema.Component
schema_component_of c =
    record { name = option_map (λ y. string_bytes y) c.name; method = c.method; pattern = schema_pattern_of c.pattern }
