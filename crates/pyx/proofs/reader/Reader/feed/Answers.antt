use Rattle.std.proofs.Common.{◌≤◌, length, ap, refl, arith, rules}
use Rattle.pyx.specs.plain.Pieces.{weight}
use Rattle.pyx.specs.views.ReaderAfterPiece.{Kept}
use Rattle.pyx.specs.views.View.{progress_of}
use Rattle.rng_model.specs.documents.EventViews.{Hands}
use Rattle.pyx.proofs.Input.ReaderAfterPiece.{fed_ok, fed_err, fed_stuck}
use Rattle.pyx.proofs.ReaderOutcome.{is_fault_after}
use Rattle.pyx.proofs.Input.PieceCounts.{read_counts}
use Rattle.pyx.proofs.reader.Reader.feed.Goals as goal

pub returns-in-Some-clause-stands : goal.returns-in-Some-clause-stands
returns-in-Some-clause-stands g c = fed_stuck (Unit {0}) g.E.Events.stands c.args.events.now c.args.self.now c.args.piece.now c.in-Some.fault (search rules)

pub invariant_of-self : goal.invariant_of-self
invariant_of-self g c =
    let before : (weight (progress_of c.self.inside.pieces) ≤ c.self.inside.fed) × (length c.self.inside.pieces.begun.items ≤ 65536) = c.self.invariant.1
    (search rules) in
    let n = read_counts c.args.piece.now (progress_of c.self.inside.pieces) (progress_of c.read.new.self) c.in-Ok.ensures.0 before.1 in
    (search rules, λ e. (omega (arith, n.1, before.0), n.0))

pub returns-in-Ok-clause-stands : goal.returns-in-Ok-clause-stands
returns-in-Ok-clause-stands g c = fed_ok (Hands g.E.Events.stands c.args.events.now c.read.new.events) c.args.self.now _ c.args.piece.now
    (progress_of c.self.inside.pieces)
    (ap (λ (h : Kept). h.progress) c.self.view_is) (search rules) (search rules) c.in-Ok.ensures

pub returns-in-Err-clause-stands : goal.returns-in-Err-clause-stands
returns-in-Err-clause-stands g c = fed_err (Unit {0}) (Hands g.E.Events.stands c.args.events.now c.read.new.events) c.args.self.now _ c.args.piece.now
    (progress_of c.self.inside.pieces)
    (progress_of c.read.new.self) c.in-Err.fault (ap (λ (h : Kept). h.progress) c.self.view_is) (search rules) refl c.in-Err.ensures

pub returns-in-Some-clause-fault : goal.returns-in-Some-clause-fault
returns-in-Some-clause-fault g c = (search rules, is_fault_after c.args.self.now c.in-Some.fault (search rules))

pub returns-in-Err-clause-fault : goal.returns-in-Err-clause-fault
returns-in-Err-clause-fault g c = (search rules, is_fault_after _ c.in-Err.fault (search rules))
