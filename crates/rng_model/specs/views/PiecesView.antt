-- The view of an iterator over the pieces of a text.
use Rattle.std.specs.Prelude.{ℕ, List}
use Rattle.rng_model.specs.declared.blanks.Pieces.{Pieces}
use Rattle.rng_model.specs.datatypes.Texts.{pieces}

-- the pieces that are still to come
abbrev pub pieces_left : Pieces → List (List ℕ)
pieces_left p = pieces p.rest.now
