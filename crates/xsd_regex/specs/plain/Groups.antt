-- A class in brackets as a list: its members, and where its groups end.
use Rattle.std.specs.Prelude.{ℕ, List, [], ◌∷◌, Bool, false, not, ◌||◌, true}
use Rattle.rng_model.specs.regexes.Expressions.{Class, no_char, either_class, minus, holds}
use Rattle.rng_model.specs.regexes.plain.Spelling.{negated_if}

pub data Mark : Type 0 where
  member : Class → Mark
  -- the end of a group, and whether `^` begins it
  ends : Bool → Mark

-- The class that is written so far with these marks behind it. What is behind the end of a group is subtracted from it.
unfoldable pub class_with : Class → List Mark → Class
class_with k [] = k
class_with k (member l ∷ ms) = class_with (either_class k l) ms
class_with k (ends neg ∷ []) = negated_if neg k
class_with k (ends neg ∷ m ∷ ms) = minus (negated_if neg k) (class_with no_char (m ∷ ms))

abbrev pub class_of_marks : List Mark → Class
class_of_marks ms = class_with no_char ms

-- whether it holds a character, if what is written so far does or not
unfoldable pub holds_with : Bool → List Mark → ℕ → Bool
holds_with b [] c = b
holds_with b (member l ∷ ms) c = holds_with (b || holds l c) ms c
holds_with true (ends true ∷ ms) c = false
holds_with true (ends false ∷ ms) c = not (holds_with false ms c)
holds_with false (ends true ∷ ms) c = not (holds_with false ms c)
holds_with false (ends false ∷ ms) c = false
