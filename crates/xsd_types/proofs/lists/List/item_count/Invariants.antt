use Rattle.std.proofs.Common.{◌≡◌, ◌+◌, ◌≤◌, length}
use Rattle.std.specs.List.{list_all}
use Rattle.rng_model.specs.datatypes.Texts.{pieces}
use Rattle.rng_model.specs.views.PiecesView.{pieces_left}
use Rattle.xsd_types.specs.views.View.{item_test}
use Rattle.xsd_types.proofs.lists.List.item_count.Given as goal

abbrev pub invariant-loop-piece : goal.invariant-loop-piece
invariant-loop-piece l = record {
  all : list_all (item_test l.self.kind) (pieces_left l.piece-iterator) ≡ list_all (item_test l.self.kind) (pieces l.text);
  counted : l.count + length (pieces_left l.piece-iterator) ≡ length (pieces l.text);
  few : l.count + length (pieces_left l.piece-iterator) ≤ length l.text + 1;
}
