use Rattle.std.proofs.Common.{◌≡◌, ◌+◌, ◌≤◌, length}
use Rattle.std.specs.Str.{chars}
use Rattle.rng_model.specs.datatypes.Texts.{collapse}
use Rattle.rng_model.specs.views.PiecesView.{pieces_left}
use Rattle.rng_types.proofs.OnePiece.{spaced_count}
use Rattle.rng_types.proofs.collapsed.collapsed_char_count.Given as goal

abbrev pub invariant-loop-piece : goal.invariant-loop-piece
invariant-loop-piece l = record {
  counted : l.count + spaced_count (pieces_left l.piece-iterator) ≡ length (chars (collapse l.text));
  fits : l.count + spaced_count (pieces_left l.piece-iterator) ≤ length l.text;
}
