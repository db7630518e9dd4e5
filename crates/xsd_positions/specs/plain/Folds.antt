-- A state that goes through a list, if it goes on at each item.
use Rattle.std.specs.Prelude.{List, [], ◌∷◌, Bool, true, false, Option, Some, None}
use Rattle.std.specs.Option.{option_and_then}

unfoldable pub folded : {X S : Type 0} → (X → S → Option S) → List X → S → Option S
folded step [] s = Some s
folded step (x ∷ xs) s = option_and_then (folded step xs) (step x s)

-- the state, if it goes on
abbrev pub kept : {S : Type 0} → Bool → S → Option S
kept true s = Some s
kept false s = None
