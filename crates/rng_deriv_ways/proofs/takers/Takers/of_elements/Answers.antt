use Rattle.std.proofs.Common.{sym}
use Rattle.rng_deriv_ways.proofs.ElementTakers.{all_told, one_more_told}
use Rattle.rng_deriv_ways.proofs.takers.Takers.of_elements.Goals as goal

pub elements-preserved : goal.elements-preserved
elements-preserved c = record {
  count = c.add.ensures.count;
  told = one_more_told c.args.grammar.now c.args.keys.now c.elements.takers c.add.new.self c.elements.number c.in-Some.field-0.now
      (sym c.in-Some.ensures) c.add.ensures.stays c.add.ensures.told c.elements.invariant.told;
}

pub returns-in_default : goal.returns-in_default
returns-in_default c =
    all_told c.args.grammar.now c.args.keys.now c.elements.takers c.elements.number (sym c.in_default.ensures) c.elements.invariant.told
