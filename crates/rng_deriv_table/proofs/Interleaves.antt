-- Interleaves of the same members, nested in another way, take the same and obey the same restrictions.
use Rattle.std.proofs.Common.{◌≡◌, ◌⊎◌, ℕ, ◌+◌, ◌<◌, List, Some, length, slice_get, refl, sym, subst, ap, ◌∙◌, ⊎_elim, inl, arith}
use Rattle.std.proofs.lemmas.Option.{same_Some}
use Rattle.rng_deriv_laws.proofs.Restricted.{greater_itself}
use Rattle.rng_model.specs.simple.Tree.{Simple, interleave, s_joined}
use Rattle.rng_model.specs.restrictions.Contents.{ContentType, greater}
use Rattle.rng_model.specs.simple.Table.{Table}
use Rattle.rng_deriv_laws.specs.plain.Derivatives.{joined_of}
use Rattle.rng_model.specs.matching.GrammarMatching.{Reading}
use Rattle.rng_deriv_laws.specs.plain.Restricted.{HasNoAttribute, HasTexts, MayBeListed, RepeatsWell, content_type, type_of_both}
use Rattle.rng_deriv_laws.specs.plain.Taking.{Same}
use Rattle.rng_deriv_laws.proofs.SamePatterns.{interleave_associative, interleave_commutative, same, same_back, same_interleave, same_through}
use Rattle.rng_deriv_table.specs.plain.Kept.{HasContentWithin, HasNoLists, Interleaves, IsInterleaveOf}
use Rattle.rng_deriv_table.specs.views.Node.{Node}
use Rattle.rng_deriv_table.specs.views.Node as node
use Rattle.rng_deriv_table.specs.views.PatternTable.{Adds, IsPatternTable, Longer}
use Rattle.rng_deriv_table.specs.views.Trees.{tree_of}
use Rattle.rng_deriv_table.specs.declared.pattern.PatternNumber.{PatternNumber}
use Rattle.rng_deriv_table.proofs.ContentTypes.{both_have, both_regrouped, both_swapped, both_within, less_together, together_greater}
use Rattle.rng_deriv_table.proofs.ContentTypes.{within_first, within_second}
use Rattle.rng_deriv_table.proofs.KeptRestrictions.{content_wider, joined_content, joined_has}
use Rattle.rng_deriv_table.proofs.Trees.{tree_of-over_parts, tree_stays}

-- ---- the restrictions

-- the two as they are
is_of_two : (p q : Simple ℕ) → IsInterleaveOf p q (joined_of interleave p q)
is_of_two p q = record {
  bare = λ h i. joined_has HasNoAttribute interleave p q tt h i (h, i);
  repeats = λ h i. joined_has RepeatsWell interleave p q tt h i (h, i);
  texts = λ h i. joined_has (HasTexts MayBeListed) interleave p q tt h i (h, i);
  unlisted = λ h i. joined_has HasNoLists interleave p q tt h i (h, i);
  content = λ u v c e h i. joined_content interleave p q u v c refl e h i;
}

is_of_swapped : (p q whole : Simple ℕ) → IsInterleaveOf q p whole → IsInterleaveOf p q whole
is_of_swapped p q whole is = record {
  bare = λ h i. is.bare i h;
  repeats = λ h i. is.repeats i h;
  texts = λ h i. is.texts i h;
  unlisted = λ h i. is.unlisted i h;
  content = λ u v c e h i. is.content v u c (both_swapped (Some v) (Some u) ∙ e) i h;
}

-- the sides of the first one in the other order
is_of_turned : (a b q whole : Simple ℕ) → IsInterleaveOf (s_joined interleave b a) q whole → IsInterleaveOf (s_joined interleave a b) q whole
is_of_turned a b q whole is = record {
  bare = λ h i. is.bare (h.1, h.0) i;
  repeats = λ h i. is.repeats (h.1, h.0) i;
  texts = λ h i. is.texts (h.1, h.0) i;
  unlisted = λ h i. is.unlisted (h.1, h.0) i;
  content = λ u v c e h i. is.content u v c e (⊎_elim (λ t. inl (t.0, both_swapped (content_type b) (content_type a) ∙ t.1, t.2)) (λ f. absurd (cc)) h) i;
}

-- what is beside an interleave is moved beside its second side
is_of_nested : (a b q inner whole : Simple ℕ) → IsInterleaveOf b q inner → IsInterleaveOf a inner whole → IsInterleaveOf (s_joined interleave a b) q whole
is_of_nested a b q inner whole within is = record {
  bare = λ h i. is.bare h.0 (within.bare h.1 i);
  repeats = λ h i. is.repeats h.0 (within.repeats h.1 i);
  texts = λ h i. is.texts h.0 (within.texts h.1 i);
  unlisted = λ h i. is.unlisted h.0 (within.unlisted h.1 i);
  content = λ u v c e h i. ⊎_elim (λ t. typed u v c t.0 e t.1 t.2 i) (λ f. absurd (cc)) h;
}
  where
    typed : (u v c most : ContentType) → type_of_both (Some u) (Some v) ≡ Some c → type_of_both (content_type a) (content_type b) ≡ Some most
        → greater most u ≡ u → HasContentWithin v q → HasContentWithin c whole
    typed u v c most e f less i =
        let sides = both_have (content_type a) (content_type b) most f in
        let together : type_of_both (Some most) (Some v) ≡ Some (greater most v) = less_together u v c most v e less (greater_itself v) in
        let nested : type_of_both (Some sides.0) (type_of_both (Some sides.1) (Some v)) ≡ Some (greater most v) =
        sym (both_regrouped sides.0 sides.1 v) ∙ ap (λ o. type_of_both o (Some v)) sides.4 ∙ together in
        let parts = both_have (Some sides.0) (type_of_both (Some sides.1) (Some v)) (greater most v) nested in
        let top = together_greater u v c e in
        let up : greater (greater most v) c ≡ c = subst (λ c. greater (greater most v) c ≡ c) top
        (both_within most v (greater u v) (within_first most u v less) (within_second v u v (greater_itself v))) in
        content_wider whole (greater most v) c (λ x h. subst (λ z. greater x z ≡ z) up (within_first x (greater most v) c h))
        (is.content parts.0 parts.1 (greater most v) parts.4
        (inl (sides.0, sides.2, subst (λ z. greater sides.0 z ≡ z) (same_Some sides.0 parts.0 parts.2) (greater_itself sides.0)))
        (within.content sides.1 v parts.1 parts.3 (inl (sides.1, sides.3, greater_itself sides.1)) i))

-- ---- what they take

module _ (g : Reading) where
  same_swapped : (p q r : Simple ℕ) → Same g r (s_joined interleave q p) → Same g r (s_joined interleave p q)
  same_swapped p q r s = same_through g s (interleave_commutative g q p)

  same_turned : (a b q r : Simple ℕ) → Same g r (s_joined interleave (s_joined interleave b a) q) → Same g r (s_joined interleave (s_joined interleave a b) q)
  same_turned a b q r s = same_through g s (same_interleave g (interleave_commutative g b a) (same g q))

  same_nested : (a b q inner r : Simple ℕ) → Same g inner (s_joined interleave b q) → Same g r (s_joined interleave a inner)
      → Same g r (s_joined interleave (s_joined interleave a b) q)
  same_nested a b q inner r s u = same_through g u (same_through g (same_interleave g (same g a) s) (same_back g (interleave_associative g a b q)))

-- ---- in a table

-- the two as they are
pub as_given : (old new : List Node) (first second number : ℕ) → Adds old new number (λ t. joined_of interleave (tree_of t old first) (tree_of t old second))
    → ((t : Table) (g : Reading) → Same g (tree_of t new number) (s_joined interleave (tree_of t old first) (tree_of t old second)))
    → Interleaves old new first second number
as_given old new first second number added takes = record {
  inside = added.inside;
  same = takes;
  made = λ t. subst (IsInterleaveOf (tree_of t old first) (tree_of t old second)) (sym (added.is t)) (is_of_two (tree_of t old first) (tree_of t old second));
}

-- the two in the other order
swapped : (old new : List Node) (first second number : ℕ) → Interleaves old new second first number → Interleaves old new first second number
swapped old new first second number is = record {
  inside = is.inside;
  same = λ t g. same_swapped g _ _ _ (is.same t g);
  made = λ t. is_of_swapped _ _ _ (is.made t);
}

pub ordered : (old new : List Node) (first second : PatternNumber) (pair : PatternNumber × PatternNumber) (number : ℕ)
    → (pair ≡ (first, second)) ⊎ (pair ≡ (second, first)) → Interleaves old new pair.0.0 pair.1.0 number → Interleaves old new first.0 second.0 number
ordered old new first second pair number is both =
    let P : PatternNumber × PatternNumber → Type 0 = λ pair. Interleaves old new pair.0.0 pair.1.0 number in
    ⊎_elim (λ e. subst P e both) (λ e. swapped old new first.0 second.0 number (subst P e both)) is

-- the second one beside one side of the first
module _ (old mid new : List Node) (big small inner number : ℕ) (table : IsPatternTable old) (longer : Longer old mid) where
  is_over : (a b : ℕ) → slice_get old big ≡ Some (node.interleave a b) → (t : Table)
      → tree_of t old big ≡ s_joined interleave (tree_of t old a) (tree_of t old b)
  is_over a b found t = tree_of-over_parts t old big (node.interleave a b) (table.falls big (node.interleave a b) found) found

  beside : (a b : ℕ) → slice_get old big ≡ Some (node.interleave a b) → a < length old → Interleaves old mid b small inner
      → Interleaves mid new a inner number → Interleaves old new big small number
  beside a b found within in_side whole = record {
    inside = whole.inside;
    same = λ t g. subst (λ p. Same g (tree_of t new number) (s_joined interleave p (tree_of t old small))) (sym (is_over a b found t))
        (same_nested g (tree_of t old a) (tree_of t old b) (tree_of t old small) (tree_of t mid inner) (tree_of t new number) (in_side.same t g)
        (subst (λ p. Same g (tree_of t new number) (s_joined interleave p (tree_of t mid inner))) (tree_stays t old mid a longer within) (whole.same t g)));
    made = λ t. subst (λ p. IsInterleaveOf p (tree_of t old small) (tree_of t new number)) (sym (is_over a b found t))
        (is_of_nested (tree_of t old a) (tree_of t old b) (tree_of t old small) (tree_of t mid inner) (tree_of t new number) (in_side.made t)
        (subst (λ p. IsInterleaveOf p (tree_of t mid inner) (tree_of t new number)) (tree_stays t old mid a longer within) (whole.made t)));
  }

  beside_second : (a b : ℕ) → slice_get old big ≡ Some (node.interleave a b) → b < length old → Interleaves old mid a small inner
      → Interleaves mid new b inner number → Interleaves old new big small number
  beside_second a b found within in_side whole = record {
    inside = whole.inside;
    same = λ t g. subst (λ p. Same g (tree_of t new number) (s_joined interleave p (tree_of t old small))) (sym (is_over a b found t))
        (same_turned g (tree_of t old a) (tree_of t old b) (tree_of t old small) (tree_of t new number)
        (same_nested g (tree_of t old b) (tree_of t old a) (tree_of t old small) (tree_of t mid inner) (tree_of t new number) (in_side.same t g)
        (subst (λ p. Same g (tree_of t new number) (s_joined interleave p (tree_of t mid inner))) (tree_stays t old mid b longer within) (whole.same t g))));
    made = λ t. subst (λ p. IsInterleaveOf p (tree_of t old small) (tree_of t new number)) (sym (is_over a b found t))
        (is_of_turned (tree_of t old a) (tree_of t old b) (tree_of t old small) (tree_of t new number)
        (is_of_nested (tree_of t old b) (tree_of t old a) (tree_of t old small) (tree_of t mid inner) (tree_of t new number) (in_side.made t)
        (subst (λ p. IsInterleaveOf p (tree_of t mid inner) (tree_of t new number)) (tree_stays t old mid b longer within) (whole.made t))));
  }

  -- beside either of its sides
  pub at_side : (a b : PatternNumber) (pair : PatternNumber × PatternNumber) → (pair ≡ (a, b)) ⊎ (pair ≡ (b, a))
      → slice_get old big ≡ Some (node.interleave a.0 b.0) → a.0 < length old → b.0 < length old → Interleaves old mid pair.1.0 small inner
      → Interleaves mid new pair.0.0 inner number → Interleaves old new big small number
  at_side a b pair is found first second in_side whole =
      let In : PatternNumber × PatternNumber → Type 0 = λ pair. Interleaves old mid pair.1.0 small inner in
      let Over : PatternNumber × PatternNumber → Type 0 = λ pair. Interleaves mid new pair.0.0 inner number in
      ⊎_elim
      (λ e. beside a.0 b.0 found first (subst In e in_side) (subst Over e whole))
      (λ e. beside_second a.0 b.0 found second (subst In e in_side) (subst Over e whole))
      is

-- what holds for two, in either order
pub of_pair : (P : PatternNumber → Type 0) (a b : PatternNumber) (pair : PatternNumber × PatternNumber) → (pair ≡ (a, b)) ⊎ (pair ≡ (b, a)) → P a → P b
    → P pair.0 × P pair.1
of_pair P a b pair is h i =
    let Both : PatternNumber × PatternNumber → Type 0 = λ pair. P pair.0 × P pair.1 in
    ⊎_elim (λ e. subst Both (sym e) (h, i)) (λ e. subst Both (sym e) (i, h)) is

pub sum_of_pair : (a b : PatternNumber) (pair : PatternNumber × PatternNumber) → (pair ≡ (a, b)) ⊎ (pair ≡ (b, a)) → pair.0.0 + pair.1.0 ≡ a.0 + b.0
sum_of_pair a b pair is =
    let Sum : PatternNumber × PatternNumber → Type 0 = λ pair. pair.0.0 + pair.1.0 ≡ a.0 + b.0 in
    ⊎_elim (λ e. subst Sum (sym e) refl) (λ e. subst Sum (sym e) (omega arith)) is

-- where the sides of the first of two are
pub opened : (old : List Node) (first second : PatternNumber) (pair : PatternNumber × PatternNumber) (a b : ℕ)
    → (pair ≡ (first, second)) ⊎ (pair ≡ (second, first)) → first.0 < length old → second.0 < length old → IsPatternTable old
    → slice_get old pair.0.0 ≡ Some (node.interleave a b) → (a < pair.0.0) × (b < pair.0.0) × (pair.0.0 < length old) × (pair.1.0 < length old)
opened old first second pair a b is h i table found =
    let below = table.falls pair.0.0 (node.interleave a b) found in
    let inside = of_pair (λ n. n.0 < length old) first second pair is h i in (below.0, below.1, inside.0, inside.1)
