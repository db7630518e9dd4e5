use Rattle.std.proofs.Common.{◌≡◌, string_bytes}
use Rattle.rng_model.specs.datatypes.Texts.{collapse}
use Rattle.rng_model.specs.views.PiecesView.{pieces_left}
use Rattle.rng_model.proofs.BlankRuns.{join_onto}
use Rattle.rng_model.proofs.blanks.collapse.Given as goal

abbrev pub invariant-loop-piece : goal.invariant-loop-piece
invariant-loop-piece l = join_onto (string_bytes l.collapsed) (pieces_left l.piece-iterator) ≡ collapse l.text
