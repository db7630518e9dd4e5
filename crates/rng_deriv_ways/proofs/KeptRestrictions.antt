-- Ways and choices keep the restrictions of a place.
use Rattle.std.proofs.Common.{ℕ, inl, inr, List, [], ◌∷◌, ◌++◌, refl, sym, subst}
use Rattle.std.specs.List.{Contains}
use Rattle.rng_model.specs.simple.Tree.{Simple, choice, group, interleave, s_not_allowed, s_empty, s_text, s_leaf, s_attribute, s_list, s_data, s_data_except}
use Rattle.rng_model.specs.simple.Tree.{s_value, s_one_or_more, s_joined}
use Rattle.rng_deriv_laws.specs.plain.Derivatives.{Way}
use Rattle.rng_deriv_laws.specs.plain.Ways.{EachWay}
use Rattle.rng_deriv_laws.proofs.KeptRestrictions.{IsHereditary, IsRestricted-hereditary, HasTexts-hereditary}
use Rattle.rng_deriv_table.specs.views.Choices.{IsAlternativeOf}
use Rattle.rng_deriv_table.specs.plain.Reduced.{HasAlternative}
use Rattle.rng_deriv_table.specs.declared.pattern.PatternNumber.{PatternNumber}
use Rattle.rng_deriv_ways.specs.plain.Kinds.{Obeys}
use Rattle.rng_deriv_ways.specs.declared.way.Place.{Place}
use Rattle.rng_deriv_ways.specs.declared.way.Place.TheVariants as places

pub Obeys-hereditary : (place : Place) → IsHereditary (Obeys place)
Obeys-hereditary places.Content = IsRestricted-hereditary
Obeys-hereditary places.List = HasTexts-hereditary (λ q. ⊥)

module _ (Q : Simple ℕ → Type 0) (hereditary : IsHereditary Q) where
  -- alternatives have the property of the pattern
  pub alternative_has : (p s : Simple ℕ) → Q p → HasAlternative p s → Q s
  alternative_has s_not_allowed s h a = absurd a
  alternative_has s_empty s h a = subst Q (sym a) h
  alternative_has s_text s h a = subst Q (sym a) h
  alternative_has (s_leaf k) s h a = subst Q (sym a) h
  alternative_has (s_attribute c p) s h a = subst Q (sym a) h
  alternative_has (s_list p) s h a = subst Q (sym a) h
  alternative_has (s_data d) s h a = subst Q (sym a) h
  alternative_has (s_data_except d p) s h a = subst Q (sym a) h
  alternative_has (s_value d v) s h a = subst Q (sym a) h
  alternative_has (s_one_or_more p) s h a = subst Q (sym a) h
  alternative_has (s_joined choice p q) s h (inl a) = alternative_has p s (hereditary.sides choice p q h).0 a
  alternative_has (s_joined choice p q) s h (inr a) = alternative_has q s (hereditary.sides choice p q h).1 a
  alternative_has (s_joined group p q) s h a = subst Q (sym a) h
  alternative_has (s_joined interleave p q) s h a = subst Q (sym a) h

  -- the pattern has the property that all alternatives have
  pub has_of_alternatives : (p : Simple ℕ) → ((s : Simple ℕ) → HasAlternative p s → Q s) → Q p
  has_of_alternatives s_not_allowed each = hereditary.of_not_allowed
  has_of_alternatives s_empty each = each s_empty refl
  has_of_alternatives s_text each = each s_text refl
  has_of_alternatives (s_leaf k) each = each (s_leaf k) refl
  has_of_alternatives (s_attribute c p) each = each (s_attribute c p) refl
  has_of_alternatives (s_list p) each = each (s_list p) refl
  has_of_alternatives (s_data d) each = each (s_data d) refl
  has_of_alternatives (s_data_except d p) each = each (s_data_except d p) refl
  has_of_alternatives (s_value d v) each = each (s_value d v) refl
  has_of_alternatives (s_one_or_more p) each = each (s_one_or_more p) refl
  has_of_alternatives (s_joined choice p q) each =
      hereditary.of_both choice p q (has_of_alternatives p (λ s a. each s (inl a))) (has_of_alternatives q (λ s a. each s (inr a)))
  has_of_alternatives (s_joined group p q) each = each (s_joined group p q) refl
  has_of_alternatives (s_joined interleave p q) each = each (s_joined interleave p q) refl

  -- a choice has the property that all of its members have
  pub choice_has : (tree : ℕ → Simple ℕ) (ms : List PatternNumber) (p : Simple ℕ) → ((s : Simple ℕ) → HasAlternative p s → IsAlternativeOf tree ms s)
      → ((m : PatternNumber) → Contains ms m → Q (tree m.0)) → Q p
  choice_has tree ms p of each = has_of_alternatives p (λ s a. let h = of s a in alternative_has (tree h.0.0) s (each h.0 h.1) h.2)

module _ (P Q : Simple ℕ → Type 0) where
  pub each_first : (ws vs : List Way) → EachWay P Q (ws ++ vs) → EachWay P Q ws
  each_first [] vs h = tt
  each_first (w ∷ ws) vs h = (h.0, each_first ws vs h.1)

  pub each_second : (ws vs : List Way) → EachWay P Q (ws ++ vs) → EachWay P Q vs
  each_second [] vs h = h
  each_second (w ∷ ws) vs h = each_second ws vs h.1

  pub each_both : (ws vs : List Way) → EachWay P Q ws → EachWay P Q vs → EachWay P Q (ws ++ vs)
  each_both [] vs h k = k
  each_both (w ∷ ws) vs h k = (h.0, each_both ws vs h.1 k)
