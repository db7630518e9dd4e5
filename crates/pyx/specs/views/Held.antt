-- How many bytes are kept, as they are counted.
use Rattle.std.specs.Prelude.{ℕ, List, [], ◌∷◌, length}
use Rattle.rng_model.specs.documents.PyxHeld.{name_length}
use Rattle.pyx.specs.plain.Held.{declarations_held, plus}
use Rattle.pyx.specs.plain.DocumentReader.{Open, State, tag_bytes}
use Rattle.pyx.specs.plain.Pieces.{Progress}

unfoldable pub opened_held : List Open → ℕ
opened_held [] = 0
opened_held (o ∷ outer) = plus (plus (name_length o.name) (declarations_held o.declared)) (opened_held outer)

abbrev pub state_held : State → ℕ
state_held s = plus (plus (tag_bytes s.tag) (opened_held s.opened)) (length s.joined)

abbrev pub held : Progress → ℕ
held p = plus (length p.begun) (state_held p.state)
