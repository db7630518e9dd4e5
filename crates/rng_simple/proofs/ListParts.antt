-- Parts of lists.
use Rattle.std.proofs.Common.{◌≡◌, ap, ◌∙◌, ℕ, List, map}
use Rattle.std.proofs.Common.{slice_get, option_map, Some}
use Rattle.std.proofs.lemmas.Option.{slice_get-map}

-- the member of a mapped list at an index
pub map_at : {A B : Type 0} (f : A → B) (xs : List A) (i : ℕ) (x : A) → slice_get xs i ≡ Some x → slice_get (map f xs) i ≡ Some (f x)
map_at f xs i x e = slice_get-map f xs i ∙ ap (option_map f) e
