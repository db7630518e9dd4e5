-- A choice of one pattern, where each other member is the same or notAllowed.
use Rattle.std.proofs.Common.{◌≡◌, ◌⊎◌, ◌↔◌, ℕ, ◌+◌, ◌<◌, All, Bool, true, false, Contains, List, [], ◌∷◌, length, take, get_or, subst, sym, ⊎_elim}
use Rattle.std.proofs.Common.{inl, inr, ap, ◌∙◌, ◌==◌}
use Rattle.std.proofs.lemmas.Bool.Decides.{Decides-eqb}
use Rattle.std.proofs.lemmas.List.{take_more}
use Rattle.std.proofs.lemmas.List.Elements.{Contains-append_cases}
use Rattle.rng_model.specs.matching.Document.{Attribute, Item}
use Rattle.rng_model.specs.simple.Table.{Table}
use Rattle.rng_model.specs.simple.Tree.{Simple, s_not_allowed}
use Rattle.rng_model.specs.matching.GrammarMatching.{Reading}
use Rattle.rng_deriv_laws.specs.plain.Restricted.{IsRestricted, IsTyped}
use Rattle.rng_deriv_laws.specs.plain.Taking.{Takes}
use Rattle.rng_deriv_table.specs.views.Choices.{IsAllowed, IsAlternativeOf, IsOnlyMember, SomeTakes}
use Rattle.rng_deriv_table.specs.views.Node.{Node}
use Rattle.rng_deriv_table.specs.plain.Reduced.{HasAlternative, IsReducedChoice}
use Rattle.rng_deriv_table.specs.views.Trees.{tree_of}
use Rattle.rng_deriv_table.specs.declared.pattern.PatternNumber.{PatternNumber}
use Rattle.rng_deriv_table.proofs.Alternatives.{choice_restricted, choice_typed, each_of, no_alternatives}
use Rattle.rng_deriv_table.proofs.Choices.{only_one}

pub number_is : (m n : PatternNumber) → (m.0 == n.0) ≡ true → m ≡ n
number_is m n e = ap (λ k. record { 0 = k }) ((Decides-eqb m.0 n.0).0 e)

-- each of these is this one or notAllowed
abbrev pub StandsAlone : List Node → List PatternNumber → PatternNumber → Type 0
StandsAlone ns ms only = (t : Table) (m : PatternNumber) → Contains ms m → (m ≡ only) ⊎ (tree_of t ns m.0 ≡ s_not_allowed)

-- one more member
pub alone_more : (ns : List Node) (ms : List PatternNumber) (i : ℕ) (d only : PatternNumber) → i < length ms → StandsAlone ns (take i ms) only
    → ((t : Table) → (get_or ms i d ≡ only) ⊎ (tree_of t ns (get_or ms i d).0 ≡ s_not_allowed)) → StandsAlone ns (take (i + 1) ms) only
alone_more ns ms i d only inside alone own =
    subst (λ ks. StandsAlone ns ks only) (sym (take_more ms i d inside)) (λ t m h. ⊎_elim
    (λ l. alone t m l)
    (λ r. subst (λ k. (k ≡ only) ⊎ (tree_of t ns k.0 ≡ s_not_allowed)) (only_one (get_or ms i d) m r) (own t))
    (Contains-append_cases (take i ms) (get_or ms i d ∷ []) m h))

-- if this one is notAllowed, another one may replace it
pub alone_other : (ns : List Node) (ms : List PatternNumber) (only other : PatternNumber) → StandsAlone ns ms only
    → ((t : Table) → tree_of t ns only.0 ≡ s_not_allowed) → StandsAlone ns ms other
alone_other ns ms only other alone none = λ t m h. inr (⊎_elim (λ e. ap (λ (k : PatternNumber). tree_of t ns k.0) e ∙ none t) (λ e. e) (alone t m h))

pub is_reduced : (b : Bool) (p : Simple ℕ) → IsAllowed b p → IsReducedChoice p
is_reduced true p h = inr h
is_reduced false p h = inl h

module _ (ns : List Node) (members : List PatternNumber) (only : PatternNumber) (is : IsOnlyMember ns members only) where
  pub only_inside : All (λ m. m.0 < length ns) members → only.0 < length ns
  only_inside inside = each_of (λ m. m.0 < length ns) members inside only is.member

  pub only_among : (t : Table) (s : Simple ℕ) → HasAlternative (tree_of t ns only.0) s → IsAlternativeOf (tree_of t ns) members s
  only_among t s h = (only, is.member, h)

  pub only_takes : (t : Table) (g : Reading) (xs : List Attribute) (ks : List Item)
      → Takes g (tree_of t ns only.0) xs ks ↔ SomeTakes g (tree_of t ns) members xs ks
  only_takes t g xs ks = (
    λ d. (only, is.member, d),
    λ d. ⊎_elim
        (λ e. subst (λ (k : PatternNumber). Takes g (tree_of t ns k.0) xs ks) e d.2)
        (λ e. nothing (subst (λ p. Takes g p xs ks) e d.2))
        (is.others t d.0 d.1),
  )
    where
      nothing : Takes g s_not_allowed xs ks → Takes g (tree_of t ns only.0) xs ks
      nothing d = elim d [ ]

  pub only_none : (t : Table) → ((s : Simple ℕ) → IsAlternativeOf (tree_of t ns) members s → ⊥) → tree_of t ns only.0 ≡ s_not_allowed
  only_none t = no_alternatives (tree_of t ns) members (tree_of t ns only.0) (is.reduced t) (only_among t)

  pub only_restricted : (t : Table) → All (λ m. IsRestricted (tree_of t ns m.0)) members → IsRestricted (tree_of t ns only.0)
  only_restricted t = choice_restricted (tree_of t ns) members (tree_of t ns only.0) (is.reduced t) (only_among t)

  pub only_typed : (t : Table) → All (λ m. IsTyped (tree_of t ns m.0)) members → IsTyped (tree_of t ns only.0)
  only_typed t = choice_typed (tree_of t ns) members (tree_of t ns only.0) (is.reduced t) (only_among t)
