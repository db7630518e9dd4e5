use Rattle.std.proofs.Common.{◌≡◌, Err, Ok, Result, Some, refl, rules, subst, sym}
use Rattle.element_events.specs.declared.fault.EventFault.{EventFault}
use Rattle.element_events.specs.declared.fault.EventFault.TheVariants as faults
use Rattle.rncv_events.specs.views.Settled.{IsSettled}
use Rattle.rncv_events.proofs.settling.settle.Goals as goal

pub returns-in-Ok-clause-settled : goal.returns-in-Ok-clause-settled
returns-in-Ok-clause-settled c =
    let is : c.args.answer ≡ Ok tt = search rules in
    subst (λ (r : Result Unit EventFault). IsSettled r c.args.matcher c.args.fault.now c.put_back.new.place c.args.fault.now) (sym is) (
      record { kept = c.into_state.result; is = c.put_back.ensures; state = c.into_state.ensures.state; same = c.into_state.ensures.same },
      refl,
    )

pub returns-in-Err-NotWellFormed-clause-settled : goal.returns-in-Err-NotWellFormed-clause-settled
returns-in-Err-NotWellFormed-clause-settled c =
    let is : c.args.answer ≡ Err faults.NotWellFormed = search rules in
    subst
    (λ (r : Result Unit EventFault). IsSettled r c.args.matcher c.args.fault.now c.put_back-in-Err-NotWellFormed.new.place (Some faults.NotWellFormed))
    (sym is) (
      record {
        kept = c.into_state-in-Err-NotWellFormed.result;
        is = c.put_back-in-Err-NotWellFormed.ensures;
        state = c.into_state-in-Err-NotWellFormed.ensures.state;
        same = c.into_state-in-Err-NotWellFormed.ensures.same;
      },
      refl,
    )
