-- The names of the overriding components: one more is added, and one is looked up.
use Rattle.std.proofs.Common.{◌≡◌, refl, sym, ap, ◌∙◌, ℕ, Bool, ◌||◌, List, [], ◌∷◌, map, Option, Some, None, Bor}
use Rattle.std.specs.Cmp.{both_ways}
use Rattle.std.specs.List.{list_any}
use Rattle.std.specs.Str.{bytes_eq}
use Rattle.std.proofs.Math.Bool.{or-false}
use Rattle.std.proofs.lemmas.Slice.Eq.{bytes_eq-Decides}
use Rattle.indexmap.specs.IndexSet.{insert_key}
use Rattle.rng_model.specs.schema.Schema.{same_component_name}
use Rattle.rng_overrides.specs.declared.overriding_names.OverridingNames.{OverridingNames}
use Rattle.rng_overrides.specs.views.OverridingNames.{has_name}
use Rattle.rng_overrides.proofs.InsertedKeys.{one_more_text}

abbrev Name : Type 0
Name = List ℕ

-- equality of texts, seen from the other one
bytes_eq-turned : (y n : Name) → bytes_eq y n ≡ bytes_eq n y
bytes_eq-turned y n =
    both_ways (bytes_eq y n) (bytes_eq n y) (λ t. (bytes_eq-Decides n y).1 (sym ((bytes_eq-Decides y n).0 t)))
    (λ t. (bytes_eq-Decides y n).1 (sym ((bytes_eq-Decides n y).0 t)))

-- the texts themselves, and the borrowed texts
seen : (test : Name → Bool) (ks : List (Bor Name)) → list_any test (map (λ k. k.now) ks) ≡ list_any (λ k. test k.now) ks
seen test [] = refl
seen test (k ∷ ks) = ap (λ b. test k.now || b) (seen test ks)

-- a define is added
module _ (old new : OverridingNames) (n : Bor Name) (keys : new.defines.keys ≡ insert_key (λ a b. bytes_eq a.now b.now) old.defines.keys n)
    (starts : new.has_start ≡ old.has_start) where
  one_added : (y : Option Name) → has_name new y ≡ (has_name old y || same_component_name (Some n.now) y)
  one_added None = starts ∙ sym (or-false old.has_start)
  one_added (Some y) =
      seen (bytes_eq y) new.defines.keys ∙ ap (list_any (λ k. bytes_eq y k.now)) keys ∙ one_more_text old.defines.keys n y
      ∙ ap (λ b. b || bytes_eq y n.now) (sym (seen (bytes_eq y) old.defines.keys))
      ∙ ap (λ b. list_any (bytes_eq y) (map (λ k. k.now) old.defines.keys) || b) (bytes_eq-turned y n.now)

  pub define_added : (o : Option Name) → o ≡ Some n.now → (y : Option Name) → has_name new y ≡ (has_name old y || same_component_name o y)
  define_added o is y = one_added y ∙ ap (λ o. has_name old y || same_component_name o y) (sym is)

-- a name is looked up
pub looked_up : (names : OverridingNames) (n : Bor Name) (o : Option Name) (b : Bool) → b ≡ list_any (λ m. bytes_eq n.now m.now) names.defines.keys
    → o ≡ Some n.now → b ≡ has_name names o
looked_up names n o b e is = e ∙ sym (seen (bytes_eq n.now) names.defines.keys) ∙ ap (has_name names) (sym is)
