-- Tests of the rows of a pattern, and the first pattern of a list for which a test passes.
use Rattle.std.specs.Prelude.{ℕ, zero, suc, min, List, [], ◌∷◌, Bool, true, false, if◌then◌else◌, Option, Some, None, option_map, string_bytes}
use Rattle.rng_model.specs.datatypes.DatatypeViews.{datatype_of}
use Rattle.rng_model.specs.names.NameViews.{class_of}
use Rattle.rng_model.specs.declared.schema_pattern.SchemaRow.{SchemaRow}
use Rattle.rng_model.specs.declared.schema_pattern.SchemaRow.TheVariants as row
use Rattle.rng_schema_checks.specs.plain.PatternTests.{PatternTest}

-- the test for the pattern of a row, without its children
abbrev pub row_passes : PatternTest → SchemaRow → Bool
row_passes t row.NotAllowed = false
row_passes t row.Empty = false
row_passes t row.Text = false
row_passes t (row.Element c) = t.element (class_of c.value)
row_passes t (row.Attribute c) = t.attribute (class_of c.value)
row_passes t row.List = false
row_passes t (row.Data d) = t.datatype (datatype_of d.value)
row_passes t (row.DataExcept d) = t.datatype (datatype_of d.value)
row_passes t (row.Value v) = t.value (string_bytes v.value.library) (string_bytes v.value.name) (string_bytes v.value.text)
row_passes t row.Mixed = false
row_passes t row.Optional = false
row_passes t row.ZeroOrMore = false
row_passes t row.OneOrMore = false
row_passes t (row.Group n) = false
row_passes t (row.Interleave n) = false
row_passes t (row.Choice n) = false
row_passes t (row.Ref y) = t.ref (string_bytes y)
row_passes t (row.ParentRef y) = t.parent_ref (string_bytes y)
row_passes t (row.Grammar z) = false
row_passes t row.External = false

-- the number of the first member for which the test passes
abbrev pub first_met : {A : Type 0} → (A → Bool) → List A → Option ℕ
first_met test [] = None
first_met test (x ∷ xs) = if test x then Some 0 else option_map (λ n. suc n) (first_met test xs)

-- this number when the members from `start` on are replaced by one, for which the test passes if it passed for one of
-- them, or if `passes` says so
abbrev pub met_with : Bool → ℕ → Option ℕ → Option ℕ
met_with passes start (Some n) = Some (min n start)
met_with passes start None = if passes then Some start else None

-- it is the first member of all
abbrev pub is_first : Option ℕ → Bool
is_first None = false
is_first (Some zero) = true
is_first (Some (suc n)) = false
