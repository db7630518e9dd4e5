-- Which alternatives may end, as bits.
use Rattle.std.proofs.Common.{◌≡◌, ◌↔◌, ◌∙◌, ◌&&◌, ◌||◌, ℕ, ◌+◌, ◌<◌, zero, suc, List, [], ◌∷◌, ◌++◌, length, map, slice_index_or, take, refl, sym, ap, ap₂}
use Rattle.std.proofs.Common.{subst, arith, Bool, true, false, Some, slice_get}
use Rattle.std.specs.List.{AllZip, list_all, list_any}
use Rattle.std.proofs.lemmas.List.{length-map, take_more}
use Rattle.std.proofs.lemmas.Option.{none-some, same_Some}
use Rattle.rng_model.specs.simple.Tree.{Simple}
use Rattle.rng_model.specs.datatypes.Texts.{is_blank}
use Rattle.rng_model.specs.matching.GrammarMatching.{Reading}
use Rattle.rng_deriv_laws.specs.plain.Derivatives.{is_nullable}
use Rattle.rng_deriv_laws.specs.plain.LevelStates.{EndsNow, EndsWith, IsAfterText}
use Rattle.rng_deriv_laws.proofs.Levels.States.{may_end_with, nullable_may_end}
use Rattle.rng_deriv_table.specs.declared.pattern.PatternNumber.{PatternNumber}
use Rattle.rng_deriv_events.specs.plain.Bits.{bits_of, with_bit}
use Rattle.rng_deriv_events.specs.declared.level_table.link.Link.{Link}
use Rattle.rng_deriv_events.specs.views.KeptLevels.{ends_by, nullable_in}
use Rattle.rng_deriv_events.specs.views.Levels.{AddsEnded}
use Rattle.rng_deriv_events.specs.views.Numbers.{tree_of}
use Rattle.rng_deriv_events.proofs.Numbers.{map_push}

-- ---- what the tests mean

pub which_null : (g : Reading) (trees : List (Simple ℕ)) (ps : List PatternNumber)
    → AllZip (λ p b. (b ≡ true) ↔ EndsNow g p) (map (tree_of trees) ps) (nullable_in trees ps)
which_null g trees [] = tt
which_null g trees (p ∷ ps) = (nullable_may_end g (tree_of trees p), which_null g trees ps)

pub which_by : (g : Reading) (trees : List (Simple ℕ)) (now after : List PatternNumber) (blank : Bool) (t : List ℕ) → is_blank t ≡ blank
    → AllZip (IsAfterText g t) (map (tree_of trees) now) (map (tree_of trees) after)
    → AllZip (λ p b. (b ≡ true) ↔ EndsWith g t p) (map (tree_of trees) now) (ends_by blank (nullable_in trees now) (nullable_in trees after))
which_by g trees [] [] blank t e h = tt
which_by g trees [] (a ∷ after) blank t e h = absurd h
which_by g trees (n ∷ now) [] blank t e h = absurd h
which_by g trees (n ∷ now) (a ∷ after) blank t e h = (
  subst (λ b. ((is_nullable (tree_of trees a) || (is_nullable (tree_of trees n) && b)) ≡ true) ↔ EndsWith g t (tree_of trees n)) e
      (may_end_with g t (tree_of trees n) (tree_of trees a) h.0),
  which_by g trees now after blank t e h.1,
)

pub tests_long : (trees : List (Simple ℕ)) (ps : List PatternNumber) → length (nullable_in trees ps) ≡ length ps
tests_long trees ps = length-map (map (tree_of trees) ps) is_nullable ∙ length-map ps (tree_of trees)

-- a test of each pattern is a test of each tree
pub all_mapped : (test : Simple ℕ → Bool) (f : PatternNumber → Simple ℕ) (ns : List PatternNumber) → list_all test (map f ns) ≡ list_all (λ n. test (f n)) ns
all_mapped test f [] = refl
all_mapped test f (n ∷ ns) = ap (λ b. test (f n) && b) (all_mapped test f ns)

pub any_mapped : (test : Simple ℕ → Bool) (f : PatternNumber → Simple ℕ) (ns : List PatternNumber) → list_any test (map f ns) ≡ list_any (λ n. test (f n)) ns
any_mapped test f [] = refl
any_mapped test f (n ∷ ns) = ap (λ b. test (f n) || b) (any_mapped test f ns)

pub nullable_more : (trees : List (Simple ℕ)) (ps : List PatternNumber) (i : ℕ) (d : PatternNumber) (bs items : List Bool) (b : Bool)
    → bs ≡ nullable_in trees (take i ps) → i < length ps → b ≡ is_nullable (tree_of trees (slice_index_or ps i d)) → items ≡ bs ++ b ∷ []
    → items ≡ nullable_in trees (take (i + 1) ps)
nullable_more trees ps i d bs items b first lt is pushed =
    let p = slice_index_or ps i d in
    pushed ∙ ap₂ (λ xs x. xs ++ x ∷ []) first is
    ∙ sym (ap (nullable_in trees) (take_more ps i d lt) ∙ ap (map is_nullable) (map_push (tree_of trees) (take i ps) p)
    ∙ map_push is_nullable (map (tree_of trees) (take i ps)) (tree_of trees p))

-- ---- bits

with_bit_same : (a b : ℕ) (x y : Bool) → with_bit a x ≡ with_bit b y → (x ≡ y) × (a ≡ b)
with_bit_same a b true true e = (refl, omega (arith, e))
with_bit_same a b true false e = absurd (omega (arith, e))
with_bit_same a b false true e = absurd (omega (arith, e))
with_bit_same a b false false e = (refl, omega (arith, e))

with_bit_zero : (a : ℕ) (x : Bool) → with_bit a x ≡ 0 → (x ≡ false) × (a ≡ 0)
with_bit_zero a true e = absurd (omega (arith, e))
with_bit_zero a false e = (refl, omega (arith, e))

true_not_false : true ≡ false → ⊥
true_not_false e = cc

-- what passes by some tests passes by others with the same bits
pub same_bits : (xs ys : List Bool) → bits_of xs ≡ bits_of ys → (i : ℕ) → slice_get xs i ≡ Some true → slice_get ys i ≡ Some true
same_bits [] ys e i h = absurd (none-some true h)
same_bits (x ∷ xs) [] e zero h = absurd (true_not_false (sym (same_Some x true h) ∙ (with_bit_zero (bits_of xs) x e).0))
same_bits (x ∷ xs) [] e (suc i) h = same_bits xs [] (with_bit_zero (bits_of xs) x e).1 i h
same_bits (x ∷ xs) (y ∷ ys) e zero h = ap Some (sym (with_bit_same (bits_of xs) (bits_of ys) x y e).0) ∙ h
same_bits (x ∷ xs) (y ∷ ys) e (suc i) h = same_bits xs ys (with_bit_same (bits_of xs) (bits_of ys) x y e).1 i h

pub ended_as : (g : Reading) (good other : List Bool) (around : ℕ) (old new : List (Simple ℕ)) (links : List Link) (outside : List PatternNumber)
    → bits_of good ≡ bits_of other → AddsEnded g good around old new links outside → AddsEnded g other around old new links outside
ended_as g good other around old new links outside b e = record {
  longer = e.longer;
  inside = e.inside;
  count = e.count;
  ended = record {
    to = λ l ns c is d. e.ended.to l ns c (same_bits other good (sym b) l.inner is) d;
    back = λ i r ns f d. let k = e.ended.back i r ns f d in (k.0, k.1, k.2, same_bits good other b k.0.inner k.3, k.4);
  };
}

-- ---- an element with only a string

or_none : (a n : Bool) → (a || (n && false)) ≡ a
or_none true n = refl
or_none false true = refl
or_none false false = refl

pub or_false : (a b : Bool) → (a || (false && b)) ≡ a
or_false true b = refl
or_false false b = refl

or_both : (a b : Bool) → (a || (a && b)) ≡ a
or_both true b = refl
or_both false b = refl

false_or : (n : Bool) → (false || (n && true)) ≡ n
false_or true = refl
false_or false = refl

pub ends_not_blank : (ns rs : List Bool) → length ns ≡ length rs → ends_by false ns rs ≡ rs
ends_not_blank [] [] e = refl
ends_not_blank [] (a ∷ rs) e = absurd (omega (arith, e))
ends_not_blank (n ∷ ns) [] e = absurd (omega (arith, e))
ends_not_blank (n ∷ ns) (a ∷ rs) e = ap₂ (λ b bs. b ∷ bs) (or_none a n) (ends_not_blank ns rs (omega (arith, e)))

pub ends_none_before : (blank : Bool) (ns rs : List Bool) → length ns ≡ length rs → bits_of ns ≡ 0 → ends_by blank ns rs ≡ rs
ends_none_before blank [] [] e z = refl
ends_none_before blank [] (a ∷ rs) e z = absurd (omega (arith, e))
ends_none_before blank (n ∷ ns) [] e z = absurd (omega (arith, e))
ends_none_before blank (n ∷ ns) (a ∷ rs) e z =
    let zs = with_bit_zero (bits_of ns) n z in
    ap₂ (λ b bs. b ∷ bs) (ap (λ n. a || (n && blank)) zs.0 ∙ or_false a blank) (ends_none_before blank ns rs (omega (arith, e)) zs.1)

pub ends_both : (blank : Bool) (ns rs : List Bool) → length ns ≡ length rs → bits_of ns ≡ bits_of rs → ends_by blank ns rs ≡ rs
ends_both blank [] [] e s = refl
ends_both blank [] (a ∷ rs) e s = absurd (omega (arith, e))
ends_both blank (n ∷ ns) [] e s = absurd (omega (arith, e))
ends_both blank (n ∷ ns) (a ∷ rs) e s =
    let both = with_bit_same (bits_of ns) (bits_of rs) n a s in
    ap₂ (λ b bs. b ∷ bs) (ap (λ n. a || (n && blank)) both.0 ∙ or_both a blank) (ends_both blank ns rs (omega (arith, e)) both.1)

pub ends_none_after : (ns rs : List Bool) → length ns ≡ length rs → bits_of rs ≡ 0 → ends_by true ns rs ≡ ns
ends_none_after [] [] e z = refl
ends_none_after [] (a ∷ rs) e z = absurd (omega (arith, e))
ends_none_after (n ∷ ns) [] e z = absurd (omega (arith, e))
ends_none_after (n ∷ ns) (a ∷ rs) e z =
    let zs = with_bit_zero (bits_of rs) a z in
    ap₂ (λ b bs. b ∷ bs) (ap (λ a. a || (n && true)) zs.0 ∙ false_or n) (ends_none_after ns rs (omega (arith, e)) zs.1)
