use Rattle.std.proofs.Common.{ap, rules}
use Rattle.pyx.specs.views.ReaderAfterPiece.{Kept}
use Rattle.pyx.specs.views.View.{progress_of}
use Rattle.rng_model.specs.documents.EventViews.{Hands}
use Rattle.pyx.proofs.ReaderOutcome.{finishes, finishes_stuck}
use Rattle.pyx.proofs.reader.Reader.finish.Goals as goal

pub returns-in-Some-clause-document : goal.returns-in-Some-clause-document
returns-in-Some-clause-document g c = finishes_stuck (Unit {0}) g.E.Events.stands c.args.events.now c.args.self c.in-Some.fault (search rules)

pub returns-clause-document : goal.returns-clause-document
returns-clause-document g c = finishes (Unit {0}) (Hands g.E.Events.stands c.args.events.now c.finish.new.events) c.args.self
    (progress_of c.self.inside.pieces) c.finish.result
    (ap (λ (h : Kept). h.progress) c.self.view_is) (search rules) c.finish.ensures
