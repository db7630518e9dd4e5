-- Rows that are filled in along an order, and rows of bodies, one after another.
use Rattle.std.proofs.Common.{◌≡◌, inl, inr, ap, sym, ◌∙◌, subst, ℕ, ◌+◌, ◌<◌, ◌≤◌, List, [], ◌∷◌, ◌++◌, length, take, set, get_or, slice_get, slice_index_or}
use Rattle.std.proofs.Common.{Some, arith}
use Rattle.std.proofs.lemmas.Bool.{cases_lt, cases_eq}
use Rattle.std.proofs.lemmas.List.{take_more, get_or-set_same, get_or-set_other, get_or_past}
use Rattle.std.proofs.lemmas.Option.{slice_get-get_or, get_or_from_slice_get}
use Rattle.rng_model.specs.simple.Tree.{Tree, empty, s_empty, Simple}
use Rattle.rng_simple.specs.plain.Graph.{Spot, Graph, Mentions, IsOrderBy, IsFilledBy}
use Rattle.rng_simple.proofs.NumberedGraphs.TableEntries.{filled_more}
use Rattle.rng_simple.proofs.NumberedGraphs.Orders.{first_in_order, mentions_earlier}
use Rattle.rng_simple.specs.declared.row_table.RowTable.{RowTable}
use Rattle.rng_simple.specs.plain.GrammarBy.{spot_simple, content_simple}
use Rattle.rng_simple.specs.plain.SimpleWith.{simple_with}
use Rattle.rng_simple.specs.views.RowTable.{row_count, tree_of, IsRowTable, IsGrown}
use Rattle.rng_simple.specs.plain.SimpleParts.{AreRowsBelow, values_in}
use Rattle.rng_simple.proofs.Tables.SimpleParts.{at_front, at_last, empty_is, stay_below}
use Rattle.rng_simple.proofs.Grammars.SimpleTables.{simple_reads}

-- ---- one definition more

module _ (t u : RowTable) (grown : IsGrown t u) (rows : List ℕ) (below : AreRowsBelow (row_count t) rows) (j id : ℕ) (inside : j < length rows)
    (there : id < row_count u) where
  abbrev pub after : List ℕ
  after = set rows j id

  pub set_below : AreRowsBelow (row_count u) after
  set_below k = elim (cases_eq k j) [
    | inl e ↦ subst (λ n. n < row_count u) (sym (ap (λ i. get_or after i 0) e ∙ get_or-set_same rows j id 0 inside)) there
    | inr n ↦ subst (λ n. n < row_count u) (sym (get_or-set_other rows j k id 0 n)) (stay_below t u rows grown below k)
  ]

  module _ (g : Graph) (order : List ℕ) (o : IsOrderBy (Mentions g) order) (i : ℕ) (r : Tree Spot) (is_inside : i < length order) (at : j ≡ get_or order i 0)
      (body : slice_get g.bodies j ≡ Some r) (new : tree_of u id ≡ spot_simple (values_in t rows) r) where
    at_itself : j ≡ get_or order i j
    at_itself = at ∙ sym (get_or_from_slice_get order i (get_or order i 0) j (slice_get-get_or order i 0 is_inside))

    pub filled_next : IsFilledBy g (spot_simple (values_in t rows)) (values_in t rows) (take i order)
        → IsFilledBy g (spot_simple (values_in u after)) (values_in u after) (take (i + 1) order)
    filled_next filled =
        subst (IsFilledBy g (spot_simple (values_in u after)) (values_in u after))
        (sym (take_more order i 0 is_inside ∙ ap (λ k. take i order ++ k ∷ []) (sym at)))
        (filled_more spot_simple simple_reads g (take i order) (first_in_order (Mentions g) o i) (values_in t rows) (values_in u after) filled j r body
        (ap (tree_of u) (get_or-set_same rows j id 0 inside) ∙ new)
        (λ k different. ap (tree_of u) (get_or-set_other rows j k id 0 different) ∙ grown.stays (get_or rows k 0) (below k))
        (λ k m. mentions_earlier (Mentions g) o i is_inside j k at_itself m))

-- ---- one body more

empty_content : (g : Graph) (values : ℕ → Simple ℕ) (k : ℕ) → length g.contents ≤ k → s_empty ≡ content_simple g values k
unfolding simple_with
empty_content g values k h = sym (ap (spot_simple values) (get_or_past g.contents k empty h))

-- past the end of the rows is empty, and so is everything past the end of the bodies
pub contents_past : (g : Graph) (values : ℕ → Simple ℕ) (t : RowTable) (rows : List ℕ) (n k : ℕ) → IsRowTable t → length rows ≡ n → length g.contents ≡ n
    → n ≤ k
    → tree_of t (slice_index_or rows k 0) ≡ content_simple g values k
contents_past g values t rows n k is e f h =
    ap (tree_of t) (get_or_past rows k 0 (omega (arith, e))) ∙ empty_is t is ∙ empty_content g values k (omega (arith, f))

module _ (t u : RowTable) (grown : IsGrown t u) (rows new : List ℕ) (id n : ℕ) (more : new ≡ rows ++ id ∷ []) (long : length rows ≡ n)
    (below : AreRowsBelow (row_count t) rows) where
  pub contents_next : (tree : ℕ → Simple ℕ) → ((k : ℕ) → k < n → tree_of t (slice_index_or rows k 0) ≡ tree k) → tree_of u id ≡ tree n
      → (k : ℕ) → k < n + 1 → tree_of u (slice_index_or new k 0) ≡ tree k
  contents_next tree f e k h = elim (cases_lt k n) [
    | inl l ↦ ap (tree_of u) (at_front rows new id n more long k l) ∙ grown.stays (get_or rows k 0) (below k) ∙ f k l
    | inr l ↦ let last : k ≡ n = omega arith in ap (λ i. tree_of u (get_or new i 0)) last ∙ ap (tree_of u) (at_last rows new id n more long) ∙ e ∙ ap tree (sym last)
  ]
