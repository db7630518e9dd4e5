-- Lists whose members are mapped.
use Rattle.std.proofs.Common.{◌≡◌, refl, sym, ◌∙◌, ℕ, List, map, slice_get, Option, Some, None}
use Rattle.std.proofs.Common.{option_map}
use Rattle.std.proofs.lemmas.Option.{slice_get-map}

found_some : {A B : Type 0} (f : A → B) (xs : List A) (k : ℕ) (y : B) (o : Option A) → slice_get xs k ≡ o → option_map f o ≡ Some y
    → (x : A) × (slice_get xs k ≡ Some x) × (f x ≡ y)
found_some f xs k y None e h = cc
found_some f xs k y (Some x) e h = (x, e, cc)

-- what is found is the image of a member
pub found_mapped : {A B : Type 0} (f : A → B) (xs : List A) (k : ℕ) (y : B) → slice_get (map f xs) k ≡ Some y → (x : A) × (slice_get xs k ≡ Some x) × (f x ≡ y)
found_mapped f xs k y found = found_some f xs k y (slice_get xs k) refl (sym (slice_get-map f xs k) ∙ found)
