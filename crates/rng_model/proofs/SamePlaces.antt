-- Distinct places have distinct numbers, so places serve as the keys of a map.
use Rattle.std.proofs.Common.{◌≡◌, ◌↔◌, ℕ, Bool, true, false, cond, List, [], ◌∷◌, reverse, map, Option, Some, option_map, refl, sym, ap, ap₂, ◌∙◌}
use Rattle.std.specs.Map.{lookup}
use Rattle.std.specs.Str.{bytes_eq}
use Rattle.std.specs.Cmp.Lexicographic.{bytes_decides}
use Rattle.std.proofs.lemmas.List.{reverse-reverse}
use Rattle.rng_model.proofs.Truths.{same_truth}
use Rattle.rng_model.specs.declared.place.Place.{Place}
use Rattle.rng_model.specs.views.PlaceViews.{numbers_of}
use Rattle.rng_model.specs.views.SchemaView.{place_of, place_eq, by_place}

-- numbers from the outermost are equal exactly if those from the innermost are
same_reversed : (a b : List ℕ) → bytes_eq a b ≡ bytes_eq (reverse a) (reverse b)
same_reversed a b = same_truth _ _ (λ e. (bytes_decides (reverse a) (reverse b)).1 (ap reverse ((bytes_decides a b).0 e)))
    (λ e. (bytes_decides a b).1 (sym (reverse-reverse a) ∙ ap reverse ((bytes_decides (reverse a) (reverse b)).0 e) ∙ reverse-reverse b))

-- `==` compares the numbers
pub compares_numbers : (p q : Place) → place_eq p q ≡ bytes_eq (place_of p) (place_of q)
compares_numbers p q = same_reversed (numbers_of p) (numbers_of q)

-- so it is true only of equal places
pub same_place : (p q : Place) → (place_eq p q ≡ true) ↔ (place_of p ≡ place_of q)
same_place p q =
    let decides = bytes_decides (place_of p) (place_of q) in
    (λ e. decides.0 (sym (compares_numbers p q) ∙ e), λ e. compares_numbers p q ∙ decides.1 e)

-- what a map finds at a place is what its entries have at the numbers of that place
pub lookup_place : {V : Type 0} (p : Place) (es : List (Place × V)) → lookup (place_eq p) es ≡ lookup (bytes_eq (place_of p)) (by_place es)
lookup_place p [] = refl
lookup_place p (e ∷ es) = ap₂ (λ b found. cond b (Some e.1) found) (compares_numbers p e.0) (lookup_place p es)

-- the same, with `f` as the view of the values
pub lookup_place_seen : {V W : Type 0} (f : V → W) (p : Place) (es : List (Place × V)) →
    option_map f (lookup (place_eq p) es) ≡ lookup (bytes_eq (place_of p)) (map (λ e. (place_of e.0, f e.1)) es)
lookup_place_seen f p [] = refl
lookup_place_seen f p (e ∷ es) =
    chosen f e.1 _ (place_eq p e.0) ∙ ap₂ (λ b found. cond b (Some (f e.1)) found) (compares_numbers p e.0) (lookup_place_seen f p es)
  where
    chosen : {V W : Type 0} (f : V → W) (v : V) (o : Option V) (b : Bool) → option_map f (cond b (Some v) o) ≡ cond b (Some (f v)) (option_map f o)
    chosen f v o true = refl
    chosen f v o false = refl
