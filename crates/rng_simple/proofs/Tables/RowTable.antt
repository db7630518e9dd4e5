-- A table of rows grows by a row or by labels.
use Rattle.std.proofs.Common.{◌≡◌, inl, inr, refl, ap, sym, ◌∙◌, subst, ℕ, ◌<◌, ◌≤◌, List, [], ◌∷◌, ◌++◌, length, get_or, slice_get, Option, Some, None, arith}
use Rattle.std.proofs.Common.{length-append}
use Rattle.std.proofs.lemmas.Bool.{cases_lt, cases_eq}
use Rattle.std.proofs.lemmas.List.{get_or_past, append-nil}
use Rattle.std.proofs.lemmas.Option.{slice_get_within, slice_get-get_or}
use Rattle.rng_model.proofs.Places.{before_or_at_end, none_at, in_front}
use Rattle.rng_model.specs.names.Names.{NameClass}
use Rattle.rng_model.specs.simple.Tree.{Datatype, Simple, s_not_allowed}
use Rattle.rng_simple.specs.plain.SimpleBodies.{IsPlainBody}
use Rattle.rng_simple.specs.plain.SimpleOf.{proper, sort_of}
use Rattle.rng_simple.specs.declared.rows.Row.{Row}
use Rattle.rng_simple.specs.declared.rows.Row.TheVariants as row
use Rattle.rng_simple.specs.declared.row_table.RowTable.{RowTable}
use Rattle.rng_simple.specs.views.RowIndex.{IsIndex, with_row}
use Rattle.rng_simple.specs.views.Rows.{Labels, row_tree, trees, tree_at, AreChildrenBelow, IsLabelled, AreRows, AreMoreLabels}
use Rattle.rng_simple.specs.views.RowTable.{labels_of, row_count, tree_of, IsRowTable, IsRelabelled, AreCoded}
use Rattle.rng_simple.proofs.Tables.RowTrees.{reads_below, tree_at-over_children, tree_of_pushed, tree_stays_after_push, length-trees, stay_labelled, trees_stay}

-- ---- one more row

module _ (l : Labels) (rs : List Row) (r : Row) (rows : AreRows l rs) (below : AreChildrenBelow (length rs) r) (labelled : IsLabelled l r)
    (simple : IsPlainBody (row_tree l (tree_at l rs) r)) where
  abbrev more : List Row
  more = rs ++ r ∷ []

  at_most : (P : ℕ → Row → Type 0) → ((i : ℕ) (q : Row) → slice_get rs i ≡ Some q → P i q) → P (length rs) r → (i : ℕ) (q : Row)
      → slice_get more i ≡ Some q → P i q
  at_most P f p i q e = elim (before_or_at_end rs r q i e) [
    | inl h ↦ f i q h
    | inr h ↦ subst (λ n. P n q) (sym h.0) (subst (P (length rs)) (sym h.1) p)
  ]

  simple_after : (i : ℕ) → IsPlainBody (tree_at l more i)
  simple_after i = elim (cases_lt i (length rs)) [
    | inl h ↦ subst IsPlainBody (sym (tree_stays_after_push l rs more r i refl h)) (rows.simple i)
    | inr h ↦ elim (cases_eq i (length rs)) [
      | inl e ↦ subst IsPlainBody (sym (tree_of_pushed l rs more r i refl e)) simple
      | inr n ↦
          let past : tree_at l more i ≡ s_not_allowed = get_or_past (trees l more) i s_not_allowed
          (omega (arith, length-trees l more, length-append rs (r ∷ []), h, n)) in
          subst IsPlainBody (sym past) tt
    ]
  ]

  rows_more : AreRows l more
  rows_more = record {
    first = in_front rs (r ∷ []) 0 row.Empty rows.first;
    falls = at_most (λ i q. AreChildrenBelow i q) rows.falls below;
    labelled = at_most (λ i q. IsLabelled l q) rows.labelled labelled;
    simple = simple_after;
  }

  -- the result of adding a row
  pub record IsPut (qs : List Row) (id : ℕ) : Type 0 where
    pub rows_after : AreRows l qs
    pub long : length rs ≤ length qs
    pub stays : (i : ℕ) → i < length rs → tree_at l qs i ≡ tree_at l rs i
    pub there : id < length qs
    pub tree : tree_at l qs id ≡ row_tree l (tree_at l rs) r

  pub put : (o : Option ℕ) (qs : List Row) (id : ℕ) → qs ≡ with_row rs r o → slice_get qs id ≡ Some r → IsPut qs id
  put (Some i) qs id e f =
      let at : slice_get rs id ≡ Some r = ap (λ xs. slice_get xs id) (sym e) ∙ f in record {
        rows_after = subst (AreRows l) (sym e) rows;
        long = omega (arith, ap length e);
        stays = λ j h. ap (λ xs. tree_at l xs j) e;
        there = slice_get_within qs id r f;
        tree = ap (λ xs. tree_at l xs id) e ∙ tree_at-over_children l rs id r rows.falls at;
      }
  put None qs id e f =
      let after : AreRows l qs = subst (AreRows l) (sym e) rows_more in
      let same : (i : ℕ) → i < length rs → tree_at l qs i ≡ tree_at l rs i = λ i h. tree_stays_after_push l rs qs r i e h in record {
        rows_after = after;
        long = omega (arith, ap length e, length-append rs (r ∷ []));
        stays = same;
        there = slice_get_within qs id r f;
        tree = tree_at-over_children l qs id r after.falls f ∙ reads_below l r (length rs) below (tree_at l qs) (tree_at l rs) same;
      }

-- ---- the first row

first_alone : (l : Labels) → AreRows l (row.Empty ∷ [])
unfolding trees
first_alone l = record {
  first = refl;
  falls = λ i q e. elim (before_or_at_end [] row.Empty q i e) [
    | inl h ↦ absurd (none_at i q h)
    | inr h ↦ subst (AreChildrenBelow i) (sym h.1) tt
  ];
  labelled = λ i q e. elim (before_or_at_end [] row.Empty q i e) [
    | inl h ↦ absurd (none_at i q h)
    | inr h ↦ subst (IsLabelled l) (sym h.1) tt
  ];
  simple = λ i. elim (cases_eq i 0) [
    | inl h ↦ subst (λ n. IsPlainBody (tree_at l (row.Empty ∷ []) n)) (sym h) tt
    | inr h ↦ subst IsPlainBody (sym (get_or_past (trees l (row.Empty ∷ [])) i s_not_allowed (omega (arith, length-trees l (row.Empty ∷ []), h)))) tt
  ];
}

pub first_row : (l : Labels) (o : Option ℕ) (rs qs : List Row) (i : ℕ) → rs ≡ [] → qs ≡ with_row rs row.Empty o → slice_get qs i ≡ Some row.Empty → AreRows l qs
first_row l None rs qs i n e f = subst (AreRows l) (sym (e ∙ ap (λ xs. xs ++ row.Empty ∷ []) n)) (first_alone l)
first_row l (Some j) rs qs i n e f = absurd (none_at i row.Empty (ap (λ xs. slice_get xs i) (sym (e ∙ n)) ∙ f))

-- ---- one more label

pub rows_relabelled : (l m : Labels) (rs : List Row) → AreRows l rs → AreMoreLabels l m → AreRows m rs
rows_relabelled l m rs rows more = record {
  first = rows.first;
  falls = rows.falls;
  labelled = stay_labelled l m more rs rows.labelled;
  simple = λ i. subst IsPlainBody (sym (trees_stay l m more rs rows.labelled i)) (rows.simple i);
}

module _ (l m : Labels) where
  pub class_more : (c : NameClass) → m.classes ≡ l.classes ++ c ∷ [] → m.datatypes ≡ l.datatypes → m.values ≡ l.values → AreMoreLabels l m
  class_more c e f g = record {
    classes = c ∷ [];
    datatypes = [];
    values = [];
    more_classes = e;
    more_datatypes = f ∙ sym (append-nil l.datatypes);
    more_values = g ∙ sym (append-nil l.values);
  }

  pub datatype_more : (d : Datatype) → m.classes ≡ l.classes → m.datatypes ≡ l.datatypes ++ d ∷ [] → m.values ≡ l.values → AreMoreLabels l m
  datatype_more d e f g = record {
    classes = [];
    datatypes = d ∷ [];
    values = [];
    more_classes = e ∙ sym (append-nil l.classes);
    more_datatypes = f;
    more_values = g ∙ sym (append-nil l.values);
  }

  pub value_more : (v : Datatype × List ℕ) → m.classes ≡ l.classes → m.datatypes ≡ l.datatypes → m.values ≡ l.values ++ v ∷ [] → AreMoreLabels l m
  value_more v e f g = record {
    classes = [];
    datatypes = [];
    values = v ∷ [];
    more_classes = e ∙ sym (append-nil l.classes);
    more_datatypes = f ∙ sym (append-nil l.datatypes);
    more_values = g;
  }

-- the same rows under more labels
pub relabelled : (t u : RowTable) → IsRowTable t → AreMoreLabels (labels_of t) (labels_of u) → u.rows.items ≡ t.rows.items → IsIndex u.rows.items u.numbers
    → AreCoded u → IsRelabelled t u
relabelled t u is more same index coded = record {
  table = record {
    index = index;
    coded = coded;
    rows = subst (AreRows (labels_of u)) (sym same) (rows_relabelled (labels_of t) (labels_of u) t.rows.items is.rows more);
  };
  count = ap length same;
  same = λ i. ap (λ rs. tree_at (labels_of u) rs i) same ∙ trees_stay (labels_of t) (labels_of u) more t.rows.items is.rows.labelled i;
}

-- ---- a row as a side

pub row_sort : (l : Labels) (of : ℕ → Simple ℕ) (r : Row) → (r ≡ row.NotAllowed → ⊥) → (r ≡ row.Empty → ⊥) → proper ≡ sort_of (row_tree l of r)
row_sort l of row.NotAllowed n e = absurd (n refl)
row_sort l of row.Empty n e = absurd (e refl)
row_sort l of _ n e = refl

pub tree_found : (t : RowTable) (id : ℕ) (r : Row) → IsRowTable t → id < row_count t → r ≡ get_or t.rows.items id r
    → tree_of t id ≡ row_tree (labels_of t) (tree_of t) r
tree_found t id r is h e = tree_at-over_children (labels_of t) t.rows.items id r is.rows.falls (slice_get-get_or t.rows.items id r h ∙ ap Some (sym e))

-- the same labels
pub same_labels : (l m : Labels) → m.classes ≡ l.classes → m.datatypes ≡ l.datatypes → m.values ≡ l.values → AreMoreLabels l m
same_labels l m e f g = record {
  classes = [];
  datatypes = [];
  values = [];
  more_classes = e ∙ sym (append-nil l.classes);
  more_datatypes = f ∙ sym (append-nil l.datatypes);
  more_values = g ∙ sym (append-nil l.values);
}
