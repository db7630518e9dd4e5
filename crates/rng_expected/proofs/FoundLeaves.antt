-- Leaves that are found in a table, one pattern at a time, from the last one down.
use Rattle.std.proofs.Common.{◌≡◌, ◌∙◌, ◌⊎◌, inl, inr, ℕ, ◌+◌, ◌<◌, List, [], ◌∷◌, ◌++◌, length, map, All, Bool, true, false, refl, sym, ap, subst, ⊎_elim}
use Rattle.std.proofs.Common.{Contains, Some, slice_get, arith}
use Rattle.std.proofs.lemmas.Bool.{cases_eq}
use Rattle.std.proofs.lemmas.List.{append-nil}
use Rattle.std.proofs.lemmas.List.Elements.{All-append, All-contains, All-cons, All-nil, Contains-append_cases, Contains-append_left, Contains-append_right}
use Rattle.std.proofs.lemmas.List.Elements.{Contains-get_or}
use Rattle.std.proofs.lemmas.Option.{get_or_from_slice_get}
use Rattle.rng_model.proofs.Members.{contains_mapped, first_or_later, not_in_none, one_only}
use Rattle.rng_model.specs.simple.Table.{Table}
use Rattle.rng_model.specs.simple.Tree.{Simple, s_text}
use Rattle.rng_deriv_table.specs.plain.Selecting.{IsMarked, node_at}
use Rattle.rng_deriv_table.specs.views.Node.{Node, node_of}
use Rattle.rng_deriv_table.specs.views.Node as node
use Rattle.rng_deriv_table.specs.views.PatternTable.{IsPatternTable}
use Rattle.rng_deriv_table.specs.views.Trees.{tree_of, tree_over}
use Rattle.rng_deriv_table.specs.declared.pattern.Pattern.{Pattern}
use Rattle.rng_deriv_table.specs.declared.pattern.Pattern.TheVariants as pattern
use Rattle.rng_deriv_table.specs.declared.pattern.PatternNumber.{PatternNumber}
use Rattle.rng_deriv_ways.proofs.PatternNodes.{is_over}
use Rattle.rng_expected.specs.plain.Leaves.{AddsMarks, AddsRow, AreFoundDownTo, AreLeaves, IsLeafAt, IsOneOf, Stands, StandsBelow, StandsIn}
use Rattle.rng_expected.specs.plain.Leaves.{is_leaf, nullable_in, parts_where}
use Rattle.rng_expected.specs.declared.leaves.Standing.{Standing}
use Rattle.rng_expected.specs.declared.leaves.Standing.TheVariants as standings
use Rattle.rng_expected.proofs.Marks.{no_marks}
use Rattle.rng_expected.proofs.Standings.{parts_below, stands_in_parts, stands_itself}

-- a member of a list that is mapped
pub member_before : {A B : Type 0} (f : A → B) (y : B) (xs : List A) → Contains (map f xs) y → (x : A) × Contains xs x × (f x ≡ y)
member_before f y [] c = absurd (not_in_none c)
member_before f y (x ∷ xs) c = ⊎_elim
    (λ e. (x, Contains-get_or (x ∷ xs) 0 x (omega arith), e))
    (λ d. let m = member_before f y xs d in (m.0, Contains-append_right (x ∷ []) xs m.0 m.1, m.2))
    (first_or_later (f x) (map f xs) y c)

-- ---- one pattern of a table

pub node_is : (ns : List Node) (i : ℕ) (p q : Pattern) → slice_get ns i ≡ Some (node_of p) → p ≡ q → node_at ns i ≡ node_of q
node_is ns i p q found is = get_or_from_slice_get ns i (node_of p) node.not_allowed found ∙ ap node_of is

-- other patterns have no parts
pub no_parts_there : (s : Standing) (nullable : ℕ → Bool) (ns : List Node) (i : ℕ) (p : Pattern) → slice_get ns i ≡ Some (node_of p)
    → ((ms : _) → p ≡ pattern.Choice ms → ⊥) → ((a b : _) → p ≡ pattern.Group a b → ⊥) → ((a b : _) → p ≡ pattern.Interleave a b → ⊥)
    → ((a : _) → p ≡ pattern.OneOrMore a → ⊥) → parts_where s nullable (node_at ns i) ≡ []
no_parts_there s nullable ns i p found c g j o =
    ap (parts_where s nullable) (get_or_from_slice_get ns i (node_of p) node.not_allowed found) ∙ none p c g j o
  where
    none : (p : Pattern) → ((ms : _) → p ≡ pattern.Choice ms → ⊥) → ((a b : _) → p ≡ pattern.Group a b → ⊥)
        → ((a b : _) → p ≡ pattern.Interleave a b → ⊥) → ((a : _) → p ≡ pattern.OneOrMore a → ⊥) → parts_where s nullable (node_of p) ≡ []
    none pattern.NotAllowed c g j o = refl
    none pattern.Empty c g j o = refl
    none pattern.Text c g j o = refl
    none (pattern.Choice ms) c g j o = absurd (c ms refl)
    none (pattern.Group a b) c g j o = absurd (g a b refl)
    none (pattern.Interleave a b) c g j o = absurd (j a b refl)
    none (pattern.OneOrMore a) c g j o = absurd (o a refl)
    none (pattern.Element e) c g j o = refl
    none (pattern.Attribute a) c g j o = refl
    none (pattern.Data d) c g j o = refl

-- a leaf that is neither an element nor a list, a data or a value is text
pub leaf_is_text : (t : Table) (ns : List Node) (n : PatternNumber) (p : Pattern) → IsPatternTable ns → slice_get ns n.0 ≡ Some (node_of p)
    → IsLeafAt standings.First ns n → ((e : _) → p ≡ pattern.Element e → ⊥) → ((d : _) → p ≡ pattern.Data d → ⊥) → tree_of t ns n.0 ≡ s_text
leaf_is_text t ns n p table found leaf e d =
    is_over t ns n.0 p p table found refl
    ∙ ap (tree_over t (tree_of t ns)) (only p (sym (ap (is_leaf standings.First) (get_or_from_slice_get ns n.0 (node_of p) node.not_allowed found)) ∙ leaf.leaf) e d)
  where
    only : (p : Pattern) → is_leaf standings.First (node_of p) ≡ true → ((e : _) → p ≡ pattern.Element e → ⊥) → ((d : _) → p ≡ pattern.Data d → ⊥)
        → node_of p ≡ node.text
    only pattern.NotAllowed is e d = absurd cc
    only pattern.Empty is e d = absurd cc
    only pattern.Text is e d = refl
    only (pattern.Choice ms) is e d = absurd cc
    only (pattern.Group a b) is e d = absurd cc
    only (pattern.Interleave a b) is e d = absurd cc
    only (pattern.OneOrMore a) is e d = absurd cc
    only (pattern.Element x) is e d = absurd (e x refl)
    only (pattern.Attribute a) is e d = absurd cc
    only (pattern.Data x) is e d = absurd (d x refl)

module _ (s : Standing) (t : Table) (ns : List Node) (n : PatternNumber) (p : Pattern) (table : IsPatternTable ns) (found : slice_get ns n.0 ≡ Some (node_of p)) where
  at : node_at ns n.0 ≡ node_of p
  at = get_or_from_slice_get ns n.0 (node_of p) node.not_allowed found

  over : tree_of t ns n.0 ≡ tree_over t (tree_of t ns) (node_of p)
  over = is_over t ns n.0 p p table found refl

  -- a leaf is found
  pub adds_leaf : (marks : List Bool) (before after : List PatternNumber) → n.0 < length ns → is_leaf s (node_of p) ≡ true → after ≡ before ++ n ∷ []
      → AddsRow s t ns n.0 marks marks before after
  adds_leaf marks before after inside leaf more = record {
    parts = [];
    found = n ∷ [];
    below = All-nil (λ m. m < n.0);
    leaves = All-cons (IsLeafAt s ns) n [] (record { inside = inside; leaf = ap (is_leaf s) at ∙ leaf }) (All-nil (IsLeafAt s ns));
    marks = no_marks marks;
    more = more;
    law = λ l. let same = stands_itself s (tree_of t ns) l t (node_of p) leaf in (
      λ h. inr (n, Contains-get_or (n ∷ []) 0 n (omega arith), same.0 (subst (λ q. Stands s q l) over h) ∙ sym over),
      λ d. ⊎_elim
          (λ c. absurd (not_in_none c.1))
          (λ c. subst (λ q. Stands s q l) (sym over) (same.1 (c.2 ∙ ap (λ (m : PatternNumber). tree_of t ns m.0) (sym (one_only n c.0 c.1)) ∙ over)))
          d,
    );
  }

  -- the parts of another pattern are marked
  pub adds_parts : (old new : List Bool) (before : List PatternNumber) → is_leaf s (node_of p) ≡ false
      → AddsMarks old new (parts_where s (nullable_in t ns) (node_at ns n.0)) → AddsRow s t ns n.0 old new before before
  adds_parts old new before other marked = record {
    parts = parts_where s (nullable_in t ns) (node_of p);
    found = [];
    below = parts_below s (nullable_in t ns) (node_of p) n.0 (table.falls n.0 (node_of p) found);
    leaves = All-nil (IsLeafAt s ns);
    marks = subst (λ m. AddsMarks old new (parts_where s (nullable_in t ns) m)) at marked;
    more = sym (append-nil before);
    law = λ l. let same = stands_in_parts s (tree_of t ns) l t (node_of p) other in (
      λ h. inl (same.0 (subst (λ q. Stands s q l) over h)),
      λ d. ⊎_elim (λ c. subst (λ q. Stands s q l) (sym over) (same.1 c)) (λ c. absurd (not_in_none c.1)) d,
    );
  }

-- ---- from the last pattern down

module _ (s : Standing) (t : Table) (ns : List Node) (ps : List PatternNumber) where
  of : ℕ → Simple ℕ
  of = tree_of t ns

  -- what one more pattern adds
  pub one_more_found : (n : ℕ) (old new : List Bool) (before after : List PatternNumber) → AreFoundDownTo s t ns ps (n + 1) old before
      → IsMarked old n → AddsRow s t ns n old new before after → AreFoundDownTo s t ns ps n new after
  unfolding of
  one_more_found n old new before after f marked row = record {
    leaves = subst (All (IsLeafAt s ns)) (sym row.more) (All-append (IsLeafAt s ns) before row.found f.leaves row.leaves);
    law = λ l. (λ h. on l ((f.law l).0 h), λ d. (f.law l).1 (back l d));
  }
    where
      kept : (l : Simple ℕ) → IsOneOf of before l → IsOneOf of after l
      kept l o = (o.0, subst (λ xs. Contains xs o.0) (sym row.more) (Contains-append_left before row.found o.0 o.1), o.2)

      own : (l : Simple ℕ) → StandsIn s of row.parts l ⊎ IsOneOf of row.found l → StandsBelow s of n new l ⊎ IsOneOf of after l
      own l d = ⊎_elim
          (λ c. inl (c.0, All-contains (λ m. m < n) row.parts c.0 row.below c.1, (row.marks.which c.0).1 (inl c.1), c.2))
          (λ c. inr (c.0, subst (λ xs. Contains xs c.0) (sym row.more) (Contains-append_right before row.found c.0 c.1), c.2))
          d

      on : (l : Simple ℕ) → StandsBelow s of (n + 1) old l ⊎ IsOneOf of before l → StandsBelow s of n new l ⊎ IsOneOf of after l
      on l d = ⊎_elim
          (λ b. ⊎_elim
          (λ e. own l ((row.law l).0 (subst (λ k. Stands s (of k) l) e b.3)))
          (λ ne. inl (b.0, omega (arith, b.1, ne), (row.marks.which b.0).1 (inr b.2), b.3))
          (cases_eq b.0 n))
          (λ o. inr (kept l o))
          d

      back : (l : Simple ℕ) → StandsBelow s of n new l ⊎ IsOneOf of after l → StandsBelow s of (n + 1) old l ⊎ IsOneOf of before l
      back l d = ⊎_elim
          (λ b. ⊎_elim
          (λ c. inl (n, omega arith, marked, (row.law l).1 (inl (b.0, c, b.3))))
          (λ m. inl (b.0, omega (arith, b.1), m, b.3))
          ((row.marks.which b.0).0 b.2))
          (λ o. ⊎_elim
          (λ c. inr (o.0, c, o.2))
          (λ c. inl (n, omega arith, marked, (row.law l).1 (inr (o.0, c, o.2))))
          (Contains-append_cases before row.found o.0 (subst (λ xs. Contains xs o.0) row.more o.1)))
          d

  -- a pattern that is not marked
  pub none_more_found : (n : ℕ) (marks : List Bool) (found : List PatternNumber) → (IsMarked marks n → ⊥) → AreFoundDownTo s t ns ps (n + 1) marks found
      → AreFoundDownTo s t ns ps n marks found
  unfolding of
  none_more_found n marks found unmarked f = record {
    leaves = f.leaves;
    law = λ l. (
      λ h. ⊎_elim
          (λ b. ⊎_elim (λ e. absurd (unmarked (subst (IsMarked marks) e b.2))) (λ ne. inl (b.0, omega (arith, b.1, ne), b.2, b.3)) (cases_eq b.0 n))
          (λ o. inr o)
          ((f.law l).0 h),
      λ d. (f.law l).1 (⊎_elim (λ b. inl (b.0, omega (arith, b.1), b.2, b.3)) (λ o. inr o) d),
    );
  }

  -- before the first pattern is looked at
  pub none_found : (unmarked marks : List Bool) → ((k : ℕ) → IsMarked unmarked k → ⊥) → AddsMarks unmarked marks (map (λ m. m.0) ps)
      → All (λ m. m.0 < length ns) ps → AreFoundDownTo s t ns ps (length ns) marks []
  unfolding of
  none_found unmarked marks none marked inside = record {
    leaves = All-nil (IsLeafAt s ns);
    law = λ l. (
      λ h. inl (
        h.0.0,
        All-contains (λ (m : PatternNumber). m.0 < length ns) ps h.0 inside h.1,
        (marked.which h.0.0).1
            (inl (contains_mapped (λ (m : PatternNumber). m.0) ps h.0 h.1)),
        h.2,
      ),
      λ d. ⊎_elim
          (λ b. ⊎_elim (λ c. let m = member_before (λ (m : PatternNumber). m.0) b.0 ps c in (m.0, m.1, subst (λ k. Stands s (of k) l) (sym m.2) b.3)) (λ m. absurd (none b.0 m)) ((marked.which b.0).0 b.2))
          (λ o. absurd (not_in_none o.1))
          d,
    );
  }

  -- after all
  pub all_found : (marks : List Bool) (found : List PatternNumber) → AreFoundDownTo s t ns ps 0 marks found → AreLeaves s t ns ps found
  unfolding of
  all_found marks found f = record {
    leaves = f.leaves;
    law = λ l. (
      λ h. ⊎_elim (λ b. let no : ⊥ = omega (arith, b.1) in absurd no) (λ o. o) ((f.law l).0 h),
      λ o. (f.law l).1 (inr o),
    );
  }
