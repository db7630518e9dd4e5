-- A choice of two groups or two interleaves that have a side in common.
use Rattle.std.proofs.Common.{◌≡◌, ◌⊎◌, ◌↔◌, inl, inr, ⊎_elim, ◌∷◌, [], ℕ, List, arith, refl, sym, subst}
use Rattle.rng_model.specs.matching.Document.{Attribute, Item}
use Rattle.rng_model.specs.matching.GrammarMatching.{Reading}
use Rattle.rng_model.specs.simple.Tree.{Simple, Connector, group, interleave, s_joined}
use Rattle.rng_deriv_laws.specs.plain.Derivatives.{joined_of}
use Rattle.rng_deriv_laws.specs.plain.Restricted.{HasTexts, IsRestricted, MayBeListed, RepeatsWell}
use Rattle.rng_deriv_laws.specs.plain.Taking.{Same, Takes}
use Rattle.rng_deriv_laws.specs.plain.Taking as t
use Rattle.rng_model.specs.simple.Table.{Table}
use Rattle.rng_deriv_table.specs.views.Choices.{IsEither, SomeTakes}
use Rattle.rng_deriv_table.specs.views.Node.{Node}
use Rattle.rng_deriv_table.specs.views.Trees.{tree_of}
use Rattle.rng_deriv_table.specs.declared.pattern.PatternNumber.{PatternNumber}
use Rattle.rng_deriv_table.proofs.KeptRestrictions.{joined_has}
use Rattle.rng_deriv_table.proofs.WiderParts.{of_two}

-- ---- what is taken

-- a choice of two, as the choice of a list
pub either_of_two : (t : Table) (old new : List Node) (m n number : PatternNumber)
    → ((g : Reading) (xs : List Attribute) (is : List Item) → Takes g (tree_of t new number.0) xs is ↔ SomeTakes g (tree_of t old) (m ∷ n ∷ []) xs is)
    → IsEither (tree_of t old m.0) (tree_of t old n.0) (tree_of t new number.0)
either_of_two t old new m n number takes = λ g xs is. (
  λ d. of_two (λ (k : PatternNumber). Takes g (tree_of t old k.0) xs is) m n ((takes g xs is).0 d),
  λ h. (takes g xs is).1 (⊎_elim
      (λ d. (m, (0, omega arith, refl), d))
      (λ d. (n, (1, omega arith, refl), d))
      h),
)

-- what takes the same as something that takes what one of the two takes
through : (p q made whole : Simple ℕ) → ((g : Reading) → Same g whole made) → IsEither p q made → IsEither p q whole
through p q made whole is either = λ g xs ns. (λ d. (either g xs ns).0 ((is g).to xs ns d), λ h. (is g).back xs ns ((either g xs ns).1 h))

module _ (a b c : Simple ℕ) (rest whole : Simple ℕ) (either : IsEither b c rest) where
  -- the first side is in common
  pub interleave_first : ((g : Reading) → Same g whole (s_joined interleave a rest)) → IsEither (s_joined interleave a b) (s_joined interleave a c) whole
  interleave_first is = through _ _ _ whole is (λ g xs ns. (to g, back g)) where
    to : (g : Reading) {xs : List Attribute} {ns : List Item} → Takes g (s_joined interleave a rest) xs ns
        → Takes g (s_joined interleave a b) xs ns ⊎ Takes g (s_joined interleave a c) xs ns
    to g (t.interleaved d e i k) = ⊎_elim (λ l. inl (t.interleaved d l i k)) (λ r. inr (t.interleaved d r i k)) ((either g _ _).0 e)

    by_first : (g : Reading) {xs : List Attribute} {ns : List Item} → Takes g (s_joined interleave a b) xs ns → Takes g (s_joined interleave a rest) xs ns
    by_first g (t.interleaved d e i k) = t.interleaved d ((either g _ _).1 (inl e)) i k

    by_second : (g : Reading) {xs : List Attribute} {ns : List Item} → Takes g (s_joined interleave a c) xs ns → Takes g (s_joined interleave a rest) xs ns
    by_second g (t.interleaved d e i k) = t.interleaved d ((either g _ _).1 (inr e)) i k

    back : (g : Reading) {xs : List Attribute} {ns : List Item}
        → (Takes g (s_joined interleave a b) xs ns ⊎ Takes g (s_joined interleave a c) xs ns) → Takes g (s_joined interleave a rest) xs ns
    back g h = ⊎_elim (by_first g) (by_second g) h

  pub group_first : ((g : Reading) → Same g whole (s_joined group a rest)) → IsEither (s_joined group a b) (s_joined group a c) whole
  group_first is = through _ _ _ whole is (λ g xs ns. (to g, back g)) where
    to : (g : Reading) {xs : List Attribute} {ns : List Item} → Takes g (s_joined group a rest) xs ns
        → Takes g (s_joined group a b) xs ns ⊎ Takes g (s_joined group a c) xs ns
    to g (t.grouped d e i k) = ⊎_elim (λ l. inl (t.grouped d l i k)) (λ r. inr (t.grouped d r i k)) ((either g _ _).0 e)

    by_first : (g : Reading) {xs : List Attribute} {ns : List Item} → Takes g (s_joined group a b) xs ns → Takes g (s_joined group a rest) xs ns
    by_first g (t.grouped d e i k) = t.grouped d ((either g _ _).1 (inl e)) i k

    by_second : (g : Reading) {xs : List Attribute} {ns : List Item} → Takes g (s_joined group a c) xs ns → Takes g (s_joined group a rest) xs ns
    by_second g (t.grouped d e i k) = t.grouped d ((either g _ _).1 (inr e)) i k

    back : (g : Reading) {xs : List Attribute} {ns : List Item}
        → (Takes g (s_joined group a b) xs ns ⊎ Takes g (s_joined group a c) xs ns) → Takes g (s_joined group a rest) xs ns
    back g h = ⊎_elim (by_first g) (by_second g) h

  -- the second side is in common
  pub interleave_second : ((g : Reading) → Same g whole (s_joined interleave rest a)) → IsEither (s_joined interleave b a) (s_joined interleave c a) whole
  interleave_second is = through _ _ _ whole is (λ g xs ns. (to g, back g)) where
    to : (g : Reading) {xs : List Attribute} {ns : List Item} → Takes g (s_joined interleave rest a) xs ns
        → Takes g (s_joined interleave b a) xs ns ⊎ Takes g (s_joined interleave c a) xs ns
    to g (t.interleaved d e i k) = ⊎_elim (λ l. inl (t.interleaved l e i k)) (λ r. inr (t.interleaved r e i k)) ((either g _ _).0 d)

    by_first : (g : Reading) {xs : List Attribute} {ns : List Item} → Takes g (s_joined interleave b a) xs ns → Takes g (s_joined interleave rest a) xs ns
    by_first g (t.interleaved d e i k) = t.interleaved ((either g _ _).1 (inl d)) e i k

    by_second : (g : Reading) {xs : List Attribute} {ns : List Item} → Takes g (s_joined interleave c a) xs ns → Takes g (s_joined interleave rest a) xs ns
    by_second g (t.interleaved d e i k) = t.interleaved ((either g _ _).1 (inr d)) e i k

    back : (g : Reading) {xs : List Attribute} {ns : List Item}
        → (Takes g (s_joined interleave b a) xs ns ⊎ Takes g (s_joined interleave c a) xs ns) → Takes g (s_joined interleave rest a) xs ns
    back g h = ⊎_elim (by_first g) (by_second g) h

  pub group_second : ((g : Reading) → Same g whole (s_joined group rest a)) → IsEither (s_joined group b a) (s_joined group c a) whole
  group_second is = through _ _ _ whole is (λ g xs ns. (to g, back g)) where
    to : (g : Reading) {xs : List Attribute} {ns : List Item} → Takes g (s_joined group rest a) xs ns
        → Takes g (s_joined group b a) xs ns ⊎ Takes g (s_joined group c a) xs ns
    to g (t.grouped d e i k) = ⊎_elim (λ l. inl (t.grouped l e i k)) (λ r. inr (t.grouped r e i k)) ((either g _ _).0 d)

    by_first : (g : Reading) {xs : List Attribute} {ns : List Item} → Takes g (s_joined group b a) xs ns → Takes g (s_joined group rest a) xs ns
    by_first g (t.grouped d e i k) = t.grouped ((either g _ _).1 (inl d)) e i k

    by_second : (g : Reading) {xs : List Attribute} {ns : List Item} → Takes g (s_joined group c a) xs ns → Takes g (s_joined group rest a) xs ns
    by_second g (t.grouped d e i k) = t.grouped ((either g _ _).1 (inr d)) e i k

    back : (g : Reading) {xs : List Attribute} {ns : List Item}
        → (Takes g (s_joined group b a) xs ns ⊎ Takes g (s_joined group c a) xs ns) → Takes g (s_joined group rest a) xs ns
    back g h = ⊎_elim (by_first g) (by_second g) h

-- ---- restrictions

pub side_first : (k : Connector) (a b c rest made : Simple ℕ) → made ≡ joined_of k a rest → (IsRestricted b → IsRestricted c → IsRestricted rest)
    → IsRestricted (s_joined k a b) → IsRestricted (s_joined k a c) → IsRestricted made
side_first k a b c rest made e both h i =
    let r = both (record { repeats = h.repeats.1; texts = h.texts.1 }) (record { repeats = i.repeats.1; texts = i.texts.1 }) in
    subst IsRestricted (sym e) (record {
      repeats = joined_has RepeatsWell k a rest tt h.repeats.0 r.repeats (h.repeats.0, r.repeats);
      texts = joined_has (HasTexts MayBeListed) k a rest tt h.texts.0 r.texts (h.texts.0, r.texts);
    })

pub side_second : (k : Connector) (a b c rest made : Simple ℕ) → made ≡ joined_of k rest a → (IsRestricted b → IsRestricted c → IsRestricted rest)
    → IsRestricted (s_joined k b a) → IsRestricted (s_joined k c a) → IsRestricted made
side_second k a b c rest made e both h i =
    let r = both (record { repeats = h.repeats.0; texts = h.texts.0 }) (record { repeats = i.repeats.0; texts = i.texts.0 }) in
    subst IsRestricted (sym e) (record {
      repeats = joined_has RepeatsWell k rest a tt r.repeats h.repeats.1 (r.repeats, h.repeats.1);
      texts = joined_has (HasTexts MayBeListed) k rest a tt r.texts h.texts.1 (r.texts, h.texts.1);
    })
