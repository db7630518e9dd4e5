use Rattle.std.proofs.Common.{◌∙◌, length, sym}
use Rattle.rnc_places.proofs.FaultSteps.{broken_at, ended_at}
use Rattle.rnc_places.proofs.declarations.fault_number.Goals as goal

pub returns-in-Err-Broken : goal.returns-in-Err-Broken
returns-in-Err-Broken c =
    sym (c.loop-declaration.invariant.number ∙ broken_at _ _ c.args.declarations.now c.loop-declaration.declaration-index c.loop-declaration.rest.now
    c.declaration-item.result c.loop-declaration-test.true c.declaration-item.is
    (rw c.in-Err-Broken.field-0-is at c.in-Err-Broken.ensures))

pub returns : goal.returns
returns c =
    sym (c.loop-declaration.invariant.number ∙ ended_at _ _ c.args.declarations.now c.loop-declaration.declaration-index c.loop-declaration.rest.now
    c.in_ok-number.number c.loop-declaration-test.false (c.in_ok-number.ensures.number (length c.args.tokens.now)))
