-- Properties of one of the places of a schema.
use Rattle.std.proofs.Common.{◌≡◌, refl, sym, ap, ◌∙◌, ℕ, List, [], ◌∷◌, map, Bool, true, false, cond, ◌||◌, ◌&&◌}
use Rattle.std.specs.Cmp.{both_ways}
use Rattle.std.specs.Cmp.Derive.{both_true}
use Rattle.std.specs.List.{list_any}
use Rattle.std.specs.Str.{bytes_eq}
use Rattle.std.proofs.lemmas.Bool.{and_parts}
use Rattle.std.proofs.lemmas.List.Folds.{list_any_at}
use Rattle.std.proofs.lemmas.Slice.Eq.{bytes_eq-Decides}
use Rattle.rng_model.specs.schema.Patterns.{Place}
use Rattle.rng_model.specs.schema.Schema.{Schema}
use Rattle.rng_load.specs.plain.SchemaPlaces.{AreItsPlaces}
use Rattle.rng_schema_checks.specs.plain.GrammarTests.{defines}
use Rattle.rng_schema_checks.proofs.WrittenInGrammars.{defined_found}

pub any_mapped : {A B : Type 0} (test : B → Bool) (f : A → B) (xs : List A) → list_any test (map f xs) ≡ list_any (λ x. test (f x)) xs
any_mapped test f [] = refl
any_mapped test f (x ∷ xs) = ap (λ b. test (f x) || b) (any_mapped test f xs)

-- ---- definitions, place by place

-- one more place is visited, which may be the given one
pub one_more_place : (a b f n d new : Bool) → d ≡ (a && f) → (b ≡ true → n ≡ f) → new ≡ cond b n d → new ≡ ((a || b) && f)
one_more_place true true f n d new before here e = e ∙ here refl
one_more_place false true f n d new before here e = e ∙ here refl
one_more_place true false f n d new before here e = e ∙ before
one_more_place false false f n d new before here e = e ∙ before

-- what is defined at a place is found once each place is visited
pub defined_at_all : (s : Schema) (xs : List Place) → AreItsPlaces s xs → (x : Place) (y : List ℕ) → (list_any (bytes_eq x) xs && defines s x y) ≡ defines s x y
defined_at_all s xs places x y = both_ways (list_any (bytes_eq x) xs && defines s x y) (defines s x y) to from where
  to : (list_any (bytes_eq x) xs && defines s x y) ≡ true → defines s x y ≡ true
  to e = (and_parts (list_any (bytes_eq x) xs) (defines s x y) e).1

  from : defines s x y ≡ true → (list_any (bytes_eq x) xs && defines s x y) ≡ true
  from e =
      let there = (defined_found s x y e).1 in
      let at = places.all x there.components there.there in
      both_true (list_any_at (bytes_eq x) xs at.0 x at.1 ((bytes_eq-Decides x _).1 (sym at.2))) e
