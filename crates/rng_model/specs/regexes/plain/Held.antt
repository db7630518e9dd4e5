-- The classes and expressions that are read so far, the last one first.
use Rattle.std.specs.Prelude.{List, [], ◌∷◌}
use Rattle.rng_model.specs.regexes.Expressions.{Class, Regex, one_of}

-- what is left so far
pub record Held : Type 0 where
  pub classes : List Class
  pub regexes : List Regex

abbrev pub nothing_held : Held
nothing_held = record { classes = []; regexes = [] }

-- the last one replaced, and the last two
module _ {X : Type 0} where
  abbrev pub with_last : (X → X) → List X → List X
  with_last f [] = []
  with_last f (x ∷ xs) = f x ∷ xs

  abbrev pub with_last_two : (X → X → X) → List X → List X
  with_last_two f [] = []
  with_last_two f (y ∷ []) = []
  with_last_two f (y ∷ x ∷ xs) = f x y ∷ xs

abbrev pub on_classes : (List Class → List Class) → Held → Held
on_classes f h = record { classes = f h.classes; regexes = h.regexes }

abbrev pub on_regexes : (List Regex → List Regex) → Held → Held
on_regexes f h = record { classes = h.classes; regexes = f h.regexes }

-- the last class as an expression
abbrev pub taken_class : List Class → List Regex → Held
taken_class [] rs = record { classes = []; regexes = rs }
taken_class (k ∷ ks) rs = record { classes = ks; regexes = one_of k ∷ rs }
