-- What a table of rows contains, and how it grows.
use Rattle.std.specs.Prelude.{◌≡◌, ℕ, ◌<◌, ◌≤◌, List, [], length, map, string_bytes}
use Rattle.std.proofs.Common.{Bor}
use Rattle.rng_model.specs.schema.Patterns.{without_parameters}
use Rattle.rng_model.specs.simple.Tree.{Datatype, Simple}
use Rattle.rng_model.specs.datatypes.DatatypeViews.{datatype_of}
use Rattle.rng_model.specs.names.NameViews.{class_of}
use Rattle.rng_model.specs.declared.datatype.DatatypeValue.{DatatypeValue}
use Rattle.rng_simple.specs.plain.InTwos.{nested}
use Rattle.rng_labels.specs.plain.LabelCodes.{Part, AreCodesApart, class_code, codes_of, datatype_code, value_code}
use Rattle.rng_simple.specs.views.RowIndex.{IsIndex}
use Rattle.rng_simple.specs.views.Rows.{Labels, tree_at, AreRows}
use Rattle.rng_simple.specs.plain.SimpleOf as sorts
use Rattle.rng_simple.specs.declared.row_table.FinishedRows.{FinishedRows}
use Rattle.rng_simple.specs.declared.row_table.RowTable.{RowTable}
use Rattle.rng_simple.specs.declared.row_table.Sort.{Sort}
use Rattle.rng_simple.specs.declared.row_table.Sort.TheVariants as seen

abbrev pub sort_seen : Sort → sorts.Sort
sort_seen seen.NotAllowed = sorts.nothing
sort_seen seen.Empty = sorts.blank
sort_seen seen.Proper = sorts.proper

abbrev pub value_of : Bor DatatypeValue → Datatype × List ℕ
value_of v = (without_parameters (string_bytes v.now.library) (string_bytes v.now.name), string_bytes v.now.text)

abbrev pub labels_of : RowTable → Labels
labels_of t = record {
  classes = map (λ c. nested (class_of c.now)) t.classes.items;
  datatypes = map (λ d. datatype_of d.now) t.datatypes.items;
  values = map value_of t.values.items;
}

abbrev pub finished_labels : FinishedRows → Labels
finished_labels t = record {
  classes = map (λ c. nested (class_of c.now)) t.classes.items;
  datatypes = map (λ d. datatype_of d.now) t.datatypes.items;
  values = map value_of t.values.items;
}

abbrev pub row_count : RowTable → ℕ
row_count t = length t.rows.items

-- the tree of a row
abbrev pub tree_of : RowTable → ℕ → Simple ℕ
tree_of t = tree_at (labels_of t) t.rows.items

-- the codes are those of the labels, and are distinct
pub record AreCodes (written codes : List (List Part)) : Type 0 where
  pub same : codes ≡ written
  pub apart : AreCodesApart codes

-- the labels of each kind have these codes
pub record AreCoded (t : RowTable) : Type 0 where
  pub classes : AreCodes (map (λ c. class_code (class_of c.now) []) t.classes.items) (codes_of t.class_codes)
  pub datatypes : AreCodes (map (λ d. datatype_code (datatype_of d.now)) t.datatypes.items) (codes_of t.datatype_codes)
  pub values : AreCodes (map (λ v. value_code (value_of v)) t.values.items) (codes_of t.value_codes)

-- the index has the numbers of the rows
pub record IsRowTable (t : RowTable) : Type 0 where
  pub index : IsIndex t.rows.items t.numbers
  pub rows : AreRows (labels_of t) t.rows.items
  pub coded : AreCoded t

-- rows may have been added
pub record IsGrown (old new : RowTable) : Type 0 where
  pub table : IsRowTable new
  pub long : row_count old ≤ row_count new
  pub stays : (i : ℕ) → i < row_count old → tree_of new i ≡ tree_of old i

-- labels may have been added
pub record IsRelabelled (old new : RowTable) : Type 0 where
  pub table : IsRowTable new
  pub count : row_count new ≡ row_count old
  pub same : (i : ℕ) → tree_of new i ≡ tree_of old i
