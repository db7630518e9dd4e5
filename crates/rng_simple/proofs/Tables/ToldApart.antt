-- The patterns of a grammar that is made of rows are distinguished by their trees.
use Rattle.std.proofs.Common.{◌≡◌, ap, ap₂, sym, ◌∙◌, ℕ, ◌<◌, List, [], length, Bool}
use Rattle.std.proofs.lemmas.Option.{same_Some}
use Rattle.rng_model.specs.names.Names.{any_name}
use Rattle.rng_model.specs.simple.Tree as tree
use Rattle.rng_model.specs.datatypes.DatatypeViews.{datatype_of}
use Rattle.rng_model.specs.names.NameViews.{class_of}
use Rattle.rng_model.specs.declared.simple.Simple.{Simple}
use Rattle.rng_simple.specs.plain.InTwos.{nested}
use Rattle.rng_simple.specs.plain.Copying.{AreCopied, listed_at, place_of, tree_numbered}
use Rattle.rng_labels.specs.plain.LabelCodes.{class_code, codes_of, datatype_code, value_code}
use Rattle.rng_simple.specs.plain.Renamed.{simple_renamed}
use Rattle.rng_simple.specs.views.RowTable.{AreCoded, IsRowTable, labels_of, row_count, value_of}
use Rattle.rng_simple.specs.views.Rows.{AreDistinctRows, no_datatype, tree_at}
use Rattle.rng_simple.specs.declared.row_table.RowTable.{RowTable}
use Rattle.rng_simple.proofs.Tables.NestedCodes.{same_class_codes}
use Rattle.rng_simple.proofs.Tables.OneNumber.{AreDistinctLabels, one_number}
use Rattle.rng_simple.proofs.Tables.RowLabels.{labels_apart}

distinct_labels : (t : RowTable) → AreCoded t → AreDistinctLabels (labels_of t)
distinct_labels t d = record {
  classes = labels_apart (λ k. class_code (class_of k.now) []) (λ k. nested (class_of k.now)) any_name t.classes.items (codes_of t.class_codes) d.classes
      (λ x y e. same_class_codes (class_of x.now) (class_of y.now) e);
  datatypes = labels_apart (λ k. datatype_code (datatype_of k.now)) (λ k. datatype_of k.now) no_datatype t.datatypes.items (codes_of t.datatype_codes)
      d.datatypes (λ x y e. ap datatype_code e);
  values = λ v w h k e f. labels_apart (λ v. value_code (value_of v)) value_of (no_datatype, []) t.values.items (codes_of t.value_codes) d.values
      (λ x y e. ap value_code e) v w h k (ap₂ (λ a b. (a, b)) e f);
}

distinct_rows : (t : RowTable) → IsRowTable t → AreDistinctRows t.rows.items
distinct_rows t is i j r e f = same_Some _ _ (sym ((is.index r i).1 e) ∙ (is.index r j).1 f)

pub patterns_apart : (t : RowTable) → IsRowTable t → (reached : List Bool) (places : List ℕ) (ps : List Simple) (listed : List ℕ)
    → AreCopied (labels_of t) t.rows.items reached (row_count t) places ps listed → (m n : ℕ) → m < length ps → n < length ps
    → tree_numbered ps m ≡ tree_numbered ps n → m ≡ n
patterns_apart t is reached places ps listed are m n h k e =
    let u = are.used m h in
    let w = are.used n k in
    let renamed : ℕ → tree.Simple ℕ = λ x. simple_renamed (listed_at listed) (tree_numbered ps x) in
    let same : tree_at (labels_of t) t.rows.items u.0 ≡ tree_at (labels_of t) t.rows.items w.0 =
    sym (are.copied u.0 u.1 u.2).is ∙ ap renamed u.3 ∙ ap (simple_renamed (listed_at listed)) e ∙ ap renamed (sym w.3) ∙ (are.copied w.0 w.1 w.2).is in
    let row = (one_number (labels_of t) (distinct_labels t is.coded) t.rows.items is.rows (distinct_rows t is) u.0 w.0 u.1 w.1).0 same in
    sym u.3 ∙ ap (place_of places) row ∙ w.3
