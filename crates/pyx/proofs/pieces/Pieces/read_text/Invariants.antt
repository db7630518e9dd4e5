use Rattle.std.proofs.Common.{◌≡◌, true, ◌+◌, ◌<◌, ◌≤◌, ◌^◌, length}
use denote.Shadow.{shadow}
use denote.Text.{Utf8}
use Rattle.std.specs.List.{list_all}
use Rattle.pyx.specs.plain.PlainBytes.{is_plain}
use Rattle.pyx.specs.views.View.{progress_of}
use Rattle.rng_model.specs.documents.EventViews.{Hands}
use Rattle.pyx.specs.plain.Pieces.{read, weight}
use Rattle.pyx.proofs.Input.LineTurns.{Goes}
use Rattle.pyx.proofs.pieces.Pieces.read_text.Given as goal

abbrev pub invariant-lines : goal.invariant-lines
invariant-lines g l = record {
  goes : Goes (Hands g.E.Events.stands l.fn.events l.events) (read l.fn.text (progress_of l.fn.self)) l.rest (progress_of l.self);
  begun : length l.self.begun.items ≤ 65536;
  utf8 : shadow (Utf8 l.rest);
  plain : list_all is_plain l.rest ≡ true;
  room : weight (progress_of l.self) + length l.rest < 2 ^ 63;
}

abbrev pub decreases-lines : goal.decreases-lines
decreases-lines g l = length l.rest
