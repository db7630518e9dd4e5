-- The keys of a set after one more is inserted.
use Rattle.std.proofs.Common.{◌≡◌, refl, sym, ap, ◌∙◌, ℕ, List, [], ◌∷◌, ◌++◌, Bool, false, cond, ◌||◌, Option, Some, None, map, Bor}
use Rattle.std.specs.List.{list_any}
use Rattle.std.specs.Option.{option_eq}
use Rattle.std.specs.Str.{bytes_eq}
use Rattle.std.proofs.lemmas.List.{map-append}
use Rattle.indexmap.specs.IndexSet.{insert_key}
use Rattle.rng_model.specs.schema.Schema.{same_component_name}
use Rattle.rng_schema_checks.specs.plain.GrammarTests.{Name, has, seen_name}
use Rattle.rng_overrides.proofs.InsertedKeys.{any_inserted}
use Rattle.rng_schema_checks.proofs.ListTests.{same_name-found}

-- ---- names; a start has none

abbrev KeptName : Type 0
KeptName = Option (Bor (List ℕ))

abbrev pub kept_eq : KeptName → KeptName → Bool
kept_eq = option_eq (λ a b. bytes_eq a.now b.now)

kept_eq-is : (k m : KeptName) → kept_eq k m ≡ same_component_name (seen_name k) (seen_name m)
kept_eq-is None None = refl
kept_eq-is None (Some m) = refl
kept_eq-is (Some k) None = refl
kept_eq-is (Some k) (Some m) = refl

-- a name is looked up
pub is_kept : (k : KeptName) (ks : List KeptName) → list_any (kept_eq k) ks ≡ has (map seen_name ks) (seen_name k)
is_kept k [] = refl
is_kept k (m ∷ ks) = ap (λ b. b || list_any (kept_eq k) ks) (kept_eq-is k m) ∙ ap (λ b. same_component_name (seen_name k) (seen_name m) || b) (is_kept k ks)

test_of_names : (y : Name) (ks : List KeptName) → list_any (λ k. same_component_name y (seen_name k)) ks ≡ has (map seen_name ks) y
test_of_names y [] = refl
test_of_names y (k ∷ ks) = ap (λ b. same_component_name y (seen_name k) || b) (test_of_names y ks)

pub one_more_kept : (ks : List KeptName) (k : KeptName) (y : Name) →
    has (map seen_name (insert_key kept_eq ks k)) y ≡ (has (map seen_name ks) y || same_component_name y (seen_name k))
one_more_kept ks k y =
    sym (test_of_names y (insert_key kept_eq ks k)) ∙ any_inserted kept_eq (λ k. same_component_name y (seen_name k))
    (λ k m e. ap (same_component_name y) (same_name-found (seen_name k) (seen_name m) (sym (kept_eq-is k m) ∙ e))) ks k
    ∙ ap (λ b. b || same_component_name y (seen_name k)) (test_of_names y ks)

pub new_goes_last : (ks : List KeptName) (k : KeptName) → has (map seen_name ks) (seen_name k) ≡ false
    → map seen_name (insert_key kept_eq ks k) ≡ map seen_name ks ++ seen_name k ∷ []
new_goes_last ks k e = ap (λ b. map seen_name (cond b ks (ks ++ k ∷ []))) (is_kept k ks ∙ e) ∙ map-append seen_name ks (k ∷ [])
