-- Properties that a pattern and its alternatives share.
use Rattle.std.proofs.Common.{◌≡◌, ℕ, List, [], ◌∷◌, All, Contains, map, refl, sym, subst, ap₂, Some, inl, inr, ⊎_elim, true≢false, arith}
use Rattle.std.proofs.lemmas.List.Elements.{All-map, All-tail}
use Rattle.rng_deriv_laws.proofs.DropBlanks.{both_typed}
use Rattle.rng_model.specs.simple.Tree.{Simple, choice, group, interleave, s_not_allowed, s_empty, s_text, s_leaf, s_attribute, s_list, s_data, s_data_except}
use Rattle.rng_model.specs.simple.Tree.{s_value, s_one_or_more, s_joined}
use Rattle.rng_model.specs.restrictions.Contents.{ContentType, greater}
use Rattle.rng_deriv_laws.specs.plain.Restricted.{IsRestricted, IsTyped, content_type, type_of_choice}
use Rattle.rng_deriv_laws.proofs.KeptRestrictions.{IsRestricted-hereditary}
use Rattle.rng_deriv_table.specs.views.Choices.{IsAlternativeOf}
use Rattle.rng_deriv_table.specs.plain.Reduced.{HasAlternative, HasAllowedMembers, IsReducedChoice, MayBeMember}
use Rattle.rng_deriv_table.specs.views.Trees.{choice_from, choice_over}
use Rattle.rng_deriv_table.specs.declared.pattern.PatternNumber.{PatternNumber}

-- a choice has Q exactly if both sides have it
pub record IsOfChoices (Q : Simple ℕ → Type 0) : Type 0 where
  pub of_both : (p q : Simple ℕ) → Q p → Q q → Q (s_joined choice p q)
  pub sides : (p q : Simple ℕ) → Q (s_joined choice p q) → Q p × Q q

module _ (Q : Simple ℕ → Type 0) (of_choices : IsOfChoices Q) where
  -- alternatives have the property of the pattern
  pub alternative_has : (p s : Simple ℕ) → Q p → HasAlternative p s → Q s
  alternative_has s_not_allowed s h a = absurd a
  alternative_has s_empty s h a = subst Q (sym a) h
  alternative_has s_text s h a = subst Q (sym a) h
  alternative_has (s_leaf k) s h a = subst Q (sym a) h
  alternative_has (s_attribute c p) s h a = subst Q (sym a) h
  alternative_has (s_list p) s h a = subst Q (sym a) h
  alternative_has (s_data d) s h a = subst Q (sym a) h
  alternative_has (s_data_except d p) s h a = subst Q (sym a) h
  alternative_has (s_value d v) s h a = subst Q (sym a) h
  alternative_has (s_one_or_more p) s h a = subst Q (sym a) h
  alternative_has (s_joined choice p q) s h (inl a) = alternative_has p s (of_choices.sides p q h).0 a
  alternative_has (s_joined choice p q) s h (inr a) = alternative_has q s (of_choices.sides p q h).1 a
  alternative_has (s_joined group p q) s h a = subst Q (sym a) h
  alternative_has (s_joined interleave p q) s h a = subst Q (sym a) h

  -- the pattern has the property that all alternatives have
  pub has_of_alternatives : (p : Simple ℕ) → HasAllowedMembers p → ((s : Simple ℕ) → HasAlternative p s → Q s) → Q p
  has_of_alternatives s_not_allowed allowed each = absurd allowed
  has_of_alternatives s_empty allowed each = each s_empty refl
  has_of_alternatives s_text allowed each = each s_text refl
  has_of_alternatives (s_leaf k) allowed each = each (s_leaf k) refl
  has_of_alternatives (s_attribute c p) allowed each = each (s_attribute c p) refl
  has_of_alternatives (s_list p) allowed each = each (s_list p) refl
  has_of_alternatives (s_data d) allowed each = each (s_data d) refl
  has_of_alternatives (s_data_except d p) allowed each = each (s_data_except d p) refl
  has_of_alternatives (s_value d v) allowed each = each (s_value d v) refl
  has_of_alternatives (s_one_or_more p) allowed each = each (s_one_or_more p) refl
  has_of_alternatives (s_joined choice p q) allowed each =
      of_choices.of_both p q (has_of_alternatives p allowed.0 (λ s a. each s (inl a))) (has_of_alternatives q allowed.1 (λ s a. each s (inr a)))
  has_of_alternatives (s_joined group p q) allowed each = each (s_joined group p q) refl
  has_of_alternatives (s_joined interleave p q) allowed each = each (s_joined interleave p q) refl

-- a choice that is not notAllowed has an alternative
pub some_alternative : (p : Simple ℕ) → HasAllowedMembers p → (s : Simple ℕ) × HasAlternative p s
some_alternative s_not_allowed allowed = absurd allowed
some_alternative s_empty allowed = (s_empty, refl)
some_alternative s_text allowed = (s_text, refl)
some_alternative (s_leaf k) allowed = (s_leaf k, refl)
some_alternative (s_attribute c p) allowed = (s_attribute c p, refl)
some_alternative (s_list p) allowed = (s_list p, refl)
some_alternative (s_data d) allowed = (s_data d, refl)
some_alternative (s_data_except d p) allowed = (s_data_except d p, refl)
some_alternative (s_value d v) allowed = (s_value d v, refl)
some_alternative (s_one_or_more p) allowed = (s_one_or_more p, refl)
some_alternative (s_joined choice p q) allowed = let a = some_alternative p allowed.0 in (a.0, inl a.1)
some_alternative (s_joined group p q) allowed = (s_joined group p q, refl)
some_alternative (s_joined interleave p q) allowed = (s_joined interleave p q, refl)

pub none_is_not_allowed : (p : Simple ℕ) → IsReducedChoice p → ((s : Simple ℕ) → HasAlternative p s → ⊥) → p ≡ s_not_allowed
none_is_not_allowed p reduced none = ⊎_elim (λ e. e) (λ allowed. let a = some_alternative p allowed in absurd (none a.0 a.1)) reduced

-- ---- choices that are made

pub member_allowed : (p : Simple ℕ) → MayBeMember p → HasAllowedMembers p
member_allowed s_not_allowed may = absurd (true≢false may.not_not_allowed)
member_allowed s_empty may = tt
member_allowed s_text may = tt
member_allowed (s_leaf k) may = tt
member_allowed (s_attribute c p) may = tt
member_allowed (s_list p) may = tt
member_allowed (s_data d) may = tt
member_allowed (s_data_except d p) may = tt
member_allowed (s_value d v) may = tt
member_allowed (s_one_or_more p) may = tt
member_allowed (s_joined choice p q) may = absurd (true≢false may.not_choice)
member_allowed (s_joined group p q) may = tt
member_allowed (s_joined interleave p q) may = tt

pub each_of : (P : PatternNumber → Type 0) (ms : List PatternNumber) → All P ms → (m : PatternNumber) → Contains ms m → P m
each_of P ms all m h = subst P h.2 (all h.0 m h.1)

abbrev numbers : List PatternNumber → List ℕ
numbers ms = map (λ (m : PatternNumber). m.0) ms

pub members_allowed : (f : ℕ → Simple ℕ) (m : ℕ) (ms : List ℕ) → All (λ n. MayBeMember (f n)) (m ∷ ms) → HasAllowedMembers (choice_from f m ms)
members_allowed f m [] may = member_allowed (f m) (may 0 m (omega arith))
members_allowed f m (n ∷ ms) may =
    (member_allowed (f m) (may 0 m (omega arith)), members_allowed f n ms (All-tail (λ n. MayBeMember (f n)) m (n ∷ ms) may))

pub choice_reduced : (f : ℕ → Simple ℕ) (ms : List PatternNumber) → All (λ n. MayBeMember (f n.0)) ms → IsReducedChoice (choice_over f (numbers ms))
choice_reduced f [] may = inl refl
choice_reduced f (m ∷ ms) may = inr (members_allowed f m.0 (numbers ms) (All-map (λ n. MayBeMember (f n)) (λ n. n.0) (m ∷ ms) may))

pub one_reduced : (p : Simple ℕ) → MayBeMember p → IsReducedChoice p
one_reduced p may = inr (member_allowed p may)

-- ---- the restrictions

IsRestricted-of_choices : IsOfChoices IsRestricted
IsRestricted-of_choices = record {
  of_both = λ p q h k. IsRestricted-hereditary.of_both choice p q h k;
  sides = λ p q h. IsRestricted-hereditary.sides choice p q h;
}

abbrev HasType : Simple ℕ → Type 0
HasType p = (t : ContentType) × (content_type p ≡ Some t)

HasType-of_choices : IsOfChoices HasType
HasType-of_choices = record {
  of_both = λ p q h k. (greater h.0 k.0, ap₂ type_of_choice h.1 k.1);
  sides = λ p q h. both_typed (content_type p) (content_type q) h.0 h.1;
}

module _ (tree : ℕ → Simple ℕ) (ms : List PatternNumber) (p : Simple ℕ) (reduced : IsReducedChoice p)
    (among : (s : Simple ℕ) → HasAlternative p s → IsAlternativeOf tree ms s) where
  -- if no member has an alternative
  pub no_alternatives : ((s : Simple ℕ) → IsAlternativeOf tree ms s → ⊥) → p ≡ s_not_allowed
  no_alternatives none = none_is_not_allowed p reduced (λ s a. none s (among s a))

  -- the choice is restricted if all of its members are
  pub choice_restricted : All (λ m. IsRestricted (tree m.0)) ms → IsRestricted p
  choice_restricted each = ⊎_elim
      (λ e. subst IsRestricted (sym e) (IsRestricted-hereditary.of_not_allowed))
      (λ allowed. has_of_alternatives IsRestricted IsRestricted-of_choices p allowed (λ s a.
      let h = among s a in
      alternative_has IsRestricted IsRestricted-of_choices (tree h.0.0) s (each_of (λ m. IsRestricted (tree m.0)) ms each h.0 h.1) h.2))
      reduced

  -- the choice has a content type if each of the members has one or is notAllowed
  pub choice_typed : All (λ m. IsTyped (tree m.0)) ms → IsTyped p
  choice_typed each = ⊎_elim
      (λ e. inr e)
      (λ allowed. inl (has_of_alternatives HasType HasType-of_choices p allowed (λ s a.
      let h = among s a in
      ⊎_elim
      (λ t. alternative_has HasType HasType-of_choices (tree h.0.0) s t h.2)
      (λ e. absurd (subst (λ q. HasAlternative q s) e h.2))
      (each_of (λ m. IsTyped (tree m.0)) ms each h.0 h.1))))
      reduced
