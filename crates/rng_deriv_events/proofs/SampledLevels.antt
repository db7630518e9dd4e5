-- What is left after the sample string of a level is left after each string that it is an example for.
use Rattle.std.proofs.Common.{◌≡◌, ◌∙◌, inl, inr, ℕ, ◌<◌, List, [], ◌∷◌, map, refl, sym, ap, subst, Bool, true, false, Some, slice_get, codes, All, length}
use Rattle.std.proofs.Common.{if◌then◌else◌, Option, None}
use Rattle.std.specs.List.{AllZip, list_any}
use Rattle.rng_model.proofs.Places.{all_at as all_there}
use Rattle.rng_names.specs.plain.Keys.{Keys}
use Rattle.rng_model.specs.simple.Tree.{Simple}
use Rattle.rng_model.specs.datatypes.Texts.{is_blank}
use Rattle.rng_model.specs.matching.GrammarMatching.{Reading}
use Rattle.rng_deriv_laws.specs.plain.Derivatives.{has_data}
use Rattle.rng_deriv_laws.specs.plain.LevelStates.{IsAfterText}
use Rattle.rng_deriv_laws.proofs.AnyTexts.{after_any_text, not_first, not_second}
use Rattle.rng_deriv_table.specs.declared.pattern.PatternNumber.{PatternNumber}
use Rattle.rng_deriv_events.specs.views.LevelTable.{levels_in, numbers_in, numbers_or_none, sample_in, sample_of, tests_in, tests_or_true}
use Rattle.rng_deriv_events.specs.declared.level_table.level.Level.{Level}
use Rattle.rng_deriv_events.specs.declared.level_table.level.LevelNumber.{LevelNumber}
use Rattle.rng_deriv_events.specs.declared.level_table.table.LevelTable.{LevelTable}
use Rattle.rng_deriv_events.specs.views.KeptLevels.{AddsAfter, AreKept, IsLevelKept, IsLikeSample}
use Rattle.rng_deriv_events.specs.views.Numbers.{tree_of}
use Rattle.rng_deriv_events.proofs.KeptLevels.{numbers_inside}
use Rattle.rng_deriv_events.proofs.Numbers.{trees_stay}

-- where no alternative contains a data, a value or a list
zip_any : (g : Reading) (s r : List ℕ) → is_blank s ≡ false → (ps qs : List (Simple ℕ)) → list_any has_data ps ≡ false → AllZip (IsAfterText g s) ps qs
    → AllZip (IsAfterText g r) ps qs
zip_any g s r full [] [] none h = h
zip_any g s r full [] (q ∷ qs) none h = h
zip_any g s r full (p ∷ ps) [] none h = h
zip_any g s r full (p ∷ ps) (q ∷ qs) none h = (
  after_any_text g s r full p q (not_first (has_data p) (list_any has_data ps) none) h.0,
  zip_any g s r full ps qs (not_second (has_data p) (list_any has_data ps) none) h.1,
)

tests_none : (trees : List (Simple ℕ)) (levels : List Level) (n : ℕ) (l : Level) → All (IsLevelKept trees) levels → slice_get levels n ≡ Some l
    → l.tests_strings ≡ false → list_any has_data (map (tree_of trees) (numbers_in levels n)) ≡ false
tests_none trees levels n l all at none =
    ap (λ o. list_any has_data (map (tree_of trees) (numbers_or_none o))) at ∙ sym (all_there (IsLevelKept trees) levels n l all at).tests ∙ none

-- a level of which no alternative tests what a string says
pub untested : (levels : List Level) (n : ℕ) → tests_in levels n ≡ false → (l : Level) × (slice_get levels n ≡ Some l) × (l.tests_strings ≡ false)
untested levels n none = by (slice_get levels n) refl none where
  by : (o : Option Level) → slice_get levels n ≡ o → tests_or_true o ≡ false → (l : Level) × (slice_get levels n ≡ Some l) × (l.tests_strings ≡ false)
  by None is none = absurd (cc)
  by (Some l) is none = (l, is, none)

module _ (g : Reading) (keys : Keys) (old new : List (Simple ℕ)) (t u : LevelTable) (n : ℕ) (l : Level) (s : List ℕ) (m : LevelNumber)
    (kept : AreKept g keys old t) (lt : n < length (levels_in t)) (at : slice_get (levels_in t) n ≡ Some l) (like : IsLikeSample (Some l) s)
    (a : AddsAfter (IsAfterText g (sample_in (levels_in t) n)) old new (numbers_in (levels_in t) n) u m) where
  abbrev pub ps : List PatternNumber
  ps = numbers_in (levels_in t) n

  sample_is : (b : Bool) → l.tests_strings ≡ b → sample_in (levels_in t) n ≡ (if b then [] else codes "x")
  sample_is b e = ap sample_of at ∙ ap (λ b. if b then [] else codes "x") e

  empty_only : l.tests_strings ≡ true → IsLikeSample (Some l) s → s ≡ []
  empty_only e (inl h) = h
  empty_only e (inr h) = absurd (cc)

  by_tests : (b : Bool) → l.tests_strings ≡ b → AddsAfter (IsAfterText g s) old new ps u m
  by_tests true e =
      subst (λ s. AddsAfter (IsAfterText g s) old new ps u m) (sample_is true e ∙ sym (empty_only e like)) a
  by_tests false e =
      let inside = numbers_inside old (levels_in t) n kept.levels lt in
      let same = trees_stay old new a.after.longer ps inside in
      let none = ap (list_any has_data) same ∙ tests_none old (levels_in t) n l kept.levels at e in
      record {
        there = a.there;
        after = record {
          longer = a.after.longer;
          inside = a.after.inside;
          each = zip_any g (codes "x") s refl (map (tree_of new) ps) (map (tree_of new) (numbers_in (levels_in u) m.0)) none
              (subst (λ s. AllZip (IsAfterText g s) (map (tree_of new) ps) (map (tree_of new) (numbers_in (levels_in u) m.0))) (sample_is false e)
              a.after.each);
        };
      }

  pub sample_serves : AddsAfter (IsAfterText g s) old new ps u m
  sample_serves = by_tests l.tests_strings refl
