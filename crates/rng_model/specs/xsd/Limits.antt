-- The four bounds on the values of an ordered type: which parameters the type takes, and which values are within the bounds
-- that they write (XML Schema Part 2, Second Edition, sections 4.2.2 and 4.3.7 to 4.3.10).
use Rattle.std.specs.Prelude.{codes, ℕ, List, [], ◌∷◌, ◌++◌, Bool, Option, Some, None, not, ◌&&◌, ◌||◌, is_none, if◌then◌else◌}
use Rattle.std.specs.Option.{option_and_then}
use Rattle.rng_model.specs.datatypes.Facets.{passes, Parameter}
use Rattle.rng_model.specs.xsd.Facets.{Facets, are_facets, written, is_read, clash}

-- A type whose values are ordered, some of them or all. Where two values are not comparable, neither test passes (section
-- 4.2.2).
pub record Ordered (A : Type 0) : Type 0 where
  -- the value that a text writes
  pub value_of : List ℕ → Option A
  -- whether the value is one of the type, where the type has bounds of its own
  pub has : A → Bool
  -- whether the first value is at most the second, and whether it is less
  pub is_at_most : A → A → Bool
  pub is_less : A → A → Bool

pub record Limits (A : Type 0) : Type 0 where
  pub min_inclusive : Option A
  pub min_exclusive : Option A
  pub max_inclusive : Option A
  pub max_exclusive : Option A

-- one bound at each end (sections 4.3.8.4 and 4.3.9.4)
abbrev pub is_one : {A : Type 0} → Option A → Option A → Bool
is_one a b = is_none a || is_none b

abbrev pub are_single : {A : Type 0} → Limits A → Bool
are_single l = is_one l.min_inclusive l.min_exclusive && is_one l.max_inclusive l.max_exclusive

module _ {A : Type 0} (t : Ordered A) where
  -- ---- which values are within the bounds: a value that is not comparable with a bound is not (sections 3.2.4 and 3.2.6.3)

  abbrev pub is_above_lower : Limits A → A → Bool
  is_above_lower l a = passes (λ b. t.is_at_most b a) l.min_inclusive && passes (λ b. t.is_less b a) l.min_exclusive

  abbrev pub is_below_upper : Limits A → A → Bool
  is_below_upper l a = passes (λ b. t.is_at_most a b) l.max_inclusive && passes (λ b. t.is_less a b) l.max_exclusive

  abbrev pub is_within_limits : Limits A → A → Bool
  is_within_limits l a = is_above_lower l a && is_below_upper l a

  -- ---- which bounds agree with each other

  -- the lower bound is at most the upper one (sections 4.3.7.4 to 4.3.10.4)
  abbrev pub is_inclusive_in_order : Limits A → Bool
  is_inclusive_in_order l = not (clash t.is_at_most l.min_inclusive l.max_inclusive) && not (clash t.is_less l.min_inclusive l.max_exclusive)

  abbrev pub is_exclusive_in_order : Limits A → Bool
  is_exclusive_in_order l = not (clash t.is_less l.min_exclusive l.max_inclusive) && not (clash t.is_at_most l.min_exclusive l.max_exclusive)

  abbrev pub are_in_order : Limits A → Bool
  are_in_order l = is_inclusive_in_order l && is_exclusive_in_order l

  -- ---- which parameters the type takes

  -- a bound is a value of the type itself (sections 4.3.7 to 4.3.10)
  abbrev pub if_has : A → Option A
  if_has a = if t.has a then Some a else None

  abbrev pub bound_of : List ℕ → Option A
  bound_of s = option_and_then if_has (t.value_of s)

  abbrev pub limit_facets : Facets
  limit_facets =
      (codes "minInclusive", is_read bound_of) ∷ (codes "minExclusive", is_read bound_of) ∷
      (codes "maxInclusive", is_read bound_of) ∷ (codes "maxExclusive", is_read bound_of) ∷ []

  abbrev pub limits_of : List Parameter → Limits A
  limits_of ps = record {
    min_inclusive = written t.value_of (codes "minInclusive") ps;
    min_exclusive = written t.value_of (codes "minExclusive") ps;
    max_inclusive = written t.value_of (codes "maxInclusive") ps;
    max_exclusive = written t.value_of (codes "maxExclusive") ps;
  }

  -- these are the bounds that the parameters write, if a type that takes these other facets too takes the parameters
  unfoldable pub written_limits : Facets → List Parameter → Option (Limits A)
  written_limits others ps =
      let l = limits_of ps in
      if are_facets (limit_facets ++ others) ps && (are_single l && are_in_order l)
      then Some l else None
