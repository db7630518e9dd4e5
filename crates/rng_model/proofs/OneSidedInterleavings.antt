-- Interleavings with an empty side.
use Rattle.std.proofs.Common.{◌≡◌, List, [], ◌∷◌, refl, ap}
use Rattle.rng_model.specs.matching.Document.{Interleaves, done, left, right}

pub left_alone : {A : Type 0} (xs : List A) → Interleaves xs [] xs
left_alone [] = done
left_alone (x ∷ xs) = left (left_alone xs)

pub right_alone : {A : Type 0} (xs : List A) → Interleaves [] xs xs
right_alone [] = done
right_alone (x ∷ xs) = right (right_alone xs)

-- if one side is empty, the other has everything
pub left_is_all : {A : Type 0} {xs zs : List A} → Interleaves xs [] zs → xs ≡ zs
left_is_all done = refl
left_is_all (left {x} i) = ap (λ zs. x ∷ zs) (left_is_all i)

pub right_is_all : {A : Type 0} {xs zs : List A} → Interleaves [] xs zs → xs ≡ zs
right_is_all done = refl
right_is_all (right {y} i) = ap (λ zs. y ∷ zs) (right_is_all i)

-- if the whole is empty, both sides are empty
pub left_is_none : {A : Type 0} {xs ys : List A} → Interleaves xs ys [] → xs ≡ []
left_is_none done = refl

pub right_is_none : {A : Type 0} {xs ys : List A} → Interleaves xs ys [] → ys ≡ []
right_is_none done = refl
