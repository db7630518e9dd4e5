-- The orders of moments and of durations are partial orders, and decimals are in one line (XML Schema Part 2, Second Edition,
-- section 4.2.2).
use Rattle.std.proofs.Common.{◌≡◌, ◌<◌, ℕ, ◌+◌, ◌-◌, ◌*◌, List, [], ◌∷◌, length, Bool, true, false, ◌&&◌, ◌==◌, refl, ap, ap₂, ◌∙◌, rules, arith}
use Rattle.std.proofs.Common.{nat_lt, nat_le, not, cond, ℤ, pos, negsuc, int_lt, int_le}
use Rattle.std.specs.Bool.{beq}
use Rattle.std.specs.List.{list_all}
use Rattle.std.proofs.lemmas.Bool.{and_parts, and_from, and_left, eqb-true, ltb-true, lt-ltb, le-ltb}
use Rattle.std.proofs.lemmas.Bool.Decides.{nat_tests}
use Rattle.rng_model.specs.xsd.primitives.Calendar.{hour}
use Rattle.rng_model.specs.xsd.primitives.Decimals.{Decimal, scaled, decimals}
use Rattle.rng_model.specs.xsd.primitives.Zones.{Moment, is_before}
use Rattle.rng_model.specs.xsd.primitives.Durations.{Duration, is_less, is_as_long, months_in, time_in, month_begins, added_to, four_months}

-- ---- numbers

self : (n : ℕ) → nat_lt n n ≡ false
self n = le-ltb n n (omega arith)

chain : (a b c : ℕ) → nat_lt a b ≡ true → nat_lt b c ≡ true → nat_lt a c ≡ true
chain a b c p q = lt-ltb a c (omega (arith, ltb-true a b p, ltb-true b c q))

-- ---- moments (section 3.2.7.4)

abbrev later : Bool → Bool → ℕ → ℕ → Bool
later y z m n = cond (beq y z) (nat_lt m n) (nat_lt (m + 14 * hour) n)

later_self : (z : Bool) (n : ℕ) → later z z n n ≡ false
later_self true n = self n
later_self false n = self n

later_chain : (x y z : Bool) (a b c : ℕ) → later x y a b ≡ true → later y z b c ≡ true → later x z a c ≡ true
later_chain true true true a b c p q = chain a b c p q
later_chain true true false a b c p q = lt-ltb _ _ (omega (arith, ltb-true a b p, ltb-true (b + 14 * hour) c q))
later_chain true false true a b c p q = lt-ltb _ _ (omega (arith, ltb-true (a + 14 * hour) b p, ltb-true (b + 14 * hour) c q))
later_chain true false false a b c p q = lt-ltb _ _ (omega (arith, ltb-true (a + 14 * hour) b p, ltb-true b c q))
later_chain false true true a b c p q = lt-ltb _ _ (omega (arith, ltb-true (a + 14 * hour) b p, ltb-true b c q))
later_chain false true false a b c p q = lt-ltb _ _ (omega (arith, ltb-true (a + 14 * hour) b p, ltb-true (b + 14 * hour) c q))
later_chain false false true a b c p q = lt-ltb _ _ (omega (arith, ltb-true a b p, ltb-true (b + 14 * hour) c q))
later_chain false false false a b c p q = chain a b c p q

pub not_before_itself : (a : Moment) → is_before a a ≡ false
not_before_itself a = later_self a.zoned a.at

pub before_transitive : (a b c : Moment) → is_before a b ≡ true → is_before b c ≡ true → is_before a c ≡ true
before_transitive a b c p q = later_chain a.zoned b.zoned c.zoned a.at b.at c.at p q

-- ---- durations (section 3.2.6.2)

all_chain : (ks : List ℕ) (f g h : ℕ → ℕ) → list_all (λ k. nat_lt (f k) (g k)) ks ≡ true → list_all (λ k. nat_lt (g k) (h k)) ks ≡ true
    → list_all (λ k. nat_lt (f k) (h k)) ks ≡ true
all_chain [] f g h p q = refl
all_chain (k ∷ ks) f g h p q =
    let first = and_parts (nat_lt (f k) (g k)) (list_all (λ k. nat_lt (f k) (g k)) ks) p in
    let second = and_parts (nat_lt (g k) (h k)) (list_all (λ k. nat_lt (g k) (h k)) ks) q in
    and_from (nat_lt (f k) (h k)) (list_all (λ k. nat_lt (f k) (h k)) ks) (chain (f k) (g k) (h k) first.0 second.0) (all_chain ks f g h first.1 second.1)

fails_on : (ks : List ℕ) (f : ℕ → ℕ) → 0 < length ks → list_all (λ k. nat_lt (f k) (f k)) ks ≡ false
fails_on [] f h = absurd (omega (arith, h))
fails_on (k ∷ ks) f h = and_left (nat_lt (f k) (f k)) (list_all (λ k. nat_lt (f k) (f k)) ks) (self (f k))

pub not_less_than_itself : (a : Duration) → is_less a a ≡ false
not_less_than_itself a = fails_on four_months (λ k. added_to k a) (omega arith)

pub less_transitive : (a b c : Duration) → is_less a b ≡ true → is_less b c ≡ true → is_less a c ≡ true
less_transitive a b c p q = all_chain four_months (λ k. added_to k a) (λ k. added_to k b) (λ k. added_to k c) p q

-- Two that are as long end together, whatever they are added to: neither is less.
pub as_long_together : (a b : Duration) → is_as_long a b ≡ true → (k : ℕ) → added_to k a ≡ added_to k b
as_long_together a b e k =
    let sign = and_parts (beq a.negative b.negative) ((months_in a == months_in b) && (time_in a == time_in b)) e in
    let both = and_parts (months_in a == months_in b) (time_in a == time_in b) sign.1 in
    ap (λ s. ends s (months_in a) (time_in a)) (truth_is a.negative b.negative sign.0)
    ∙ ap₂ (λ m t. ends b.negative m t) (eqb-true (months_in a) (months_in b) both.0) (eqb-true (time_in a) (time_in b) both.1)
  where
    ends : Bool → ℕ → ℕ → ℕ
    ends s m t = cond s (month_begins (k - m) - t) (month_begins (k + m) + t)

    truth_is : (s t : Bool) → beq s t ≡ true → s ≡ t
    truth_is true true e = refl
    truth_is true false e = search rules
    truth_is false true e = search rules
    truth_is false false e = refl

-- ---- decimals: each two can be compared

one_or_other : (m n : ℕ) → nat_lt m n ≡ not (nat_le n m)
one_or_other m n = grind (arith, nat_tests)

less_or_not : (x y : ℤ) → int_lt x y ≡ not (int_le y x)
less_or_not (pos m) (pos n) = one_or_other m n
less_or_not (pos m) (negsuc n) = refl
less_or_not (negsuc m) (pos n) = refl
less_or_not (negsuc m) (negsuc n) = one_or_other n m

pub decimal_total : (a b : Decimal) → decimals.is_less a b ≡ not (decimals.is_at_most b a)
decimal_total a b = less_or_not (scaled a b) (scaled b a)
