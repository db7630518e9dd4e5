use Rattle.std.proofs.Common.{ap, sym, subst, rules}
use Rattle.pyx.specs.views.HeldCalls.{IsHeld}
use Rattle.pyx.specs.views.ReaderAfterPiece.{Kept}
use Rattle.pyx.specs.views.View.{progress_of}
use Rattle.pyx.proofs.HeldBytes.{is_held, none_held}
use Rattle.pyx.proofs.reader.Reader.held.Goals as goal

pub returns-then-is_some-clause-held : goal.returns-then-is_some-clause-held
returns-then-is_some-clause-held c = none_held c.args.self.now (search rules)

pub returns-clause-held : goal.returns-clause-held
returns-clause-held c = subst (IsHeld c.args.self.now) (sym c.held.ensures)
    (is_held c.args.self.now (progress_of c.self.inside.pieces) (ap (λ (h : Kept). h.progress) c.self.view_is) (search rules))
