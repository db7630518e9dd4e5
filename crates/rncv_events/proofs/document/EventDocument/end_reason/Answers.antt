use Rattle.std.proofs.Common.{subst}
use Rattle.rng_model.specs.matching.GrammarMatching.{reading_of}
use Rattle.rng_model.specs.simple.Table.{Table}
use Rattle.rng_deriv.specs.views.Followers.{HasEndReason}
use Rattle.rng_deriv_events.specs.views.NextEnds.{TellsEnd}
use Rattle.rncv_events.proofs.document.EventDocument.end_reason.Goals as goal

pub returns-then-branch-clause-reason : goal.returns-then-branch-clause-reason
returns-then-branch-clause-reason c = λ calls taken.
    let d = c.args.self.now in
    record {
      tells = subst (λ b. TellsEnd (reading_of d.grammar) d.matching.progress b taken.events) c.if-branch.true (c.in_ok-may_end.ensures.tells calls taken);
      why = tt;
    }

pub returns-clause-reason : goal.returns-clause-reason
returns-clause-reason c = λ calls taken.
    let d = c.args.self.now in
    let e = c.may_end.new.self in
    let knows = c.in_ok-may_end.ensures.knows in
    record {
      tells = subst (λ b. TellsEnd (reading_of d.grammar) d.matching.progress b taken.events) c.if-branch.false (c.in_ok-may_end.ensures.tells calls taken);
      why = subst (λ (g : Table). HasEndReason (reading_of g) e.matching c.in_ok-reason.reason taken.events) knows.grammar
          (c.in_ok-reason.ensures taken.events (knows.knows taken.events taken.knows));
    }
