use Rattle.std.proofs.Common.{rules, refl}
use Rattle.std.proofs.lemmas.Result.{err_from_is_err_and}
use Rattle.pyx.specs.plain.DocumentReader.{silent, line_read}
use Rattle.pyx.specs.plain.Pieces.{open_line}
use Rattle.rng_model.specs.documents.EventViews.{Hands}
use Rattle.pyx.specs.views.View.{progress_of, state_of}
use Rattle.pyx.proofs.Documents.Ends.{concludes, refused, finished_none, finished_some}
use Rattle.pyx.proofs.Input.LineTurns.{hands_nothing}
use Rattle.pyx.proofs.pieces.Pieces.finish.Goals as goal

pub returns-then-is_empty : goal.returns-then-is_empty
returns-then-is_empty g c =
    rw (finished_none (progress_of c.args.self) (search rules))
    (concludes (Unit {0}) (Hands g.E.Events.stands c.args.events.now c.args.events.now) c.finish.result (silent (state_of c.args.self.state))
    (state_of c.args.self.state) refl
    (hands_nothing g.E.Events.stands c.args.events.now) c.finish.ensures)

pub returns-in_err-line : goal.returns-in_err-line
returns-in_err-line g c =
    let p = err_from_is_err_and c.from_residual.result c.from_residual.ensures.1 in
    rw (p.1, p.2, finished_some (progress_of c.args.self) (search rules))
    (refused (Unit {0}) (Hands g.E.Events.stands c.args.events.now c.line.new.events) c.in_err-line.field-0.0 (state_of c.line.new.self)
    (line_read (open_line c.args.self.begun.items) (state_of c.args.self.state)) (search rules))

pub returns : goal.returns
returns g c =
    rw (finished_some (progress_of c.args.self) (search rules))
    (concludes (Unit {0}) (Hands g.E.Events.stands c.args.events.now c.line.new.events) c.finish-2.result
    (line_read (open_line c.args.self.begun.items) (state_of c.args.self.state))
    (state_of c.line.new.self) (search rules) (search rules) c.finish-2.ensures)
