use Rattle.std.proofs.Common.{rules, sym, subst}
use Rattle.rng_deriv_ways.specs.plain.Alike.{AreAlike}
use Rattle.rng_deriv_ways.proofs.LikeElements.{alike_more}
use Rattle.rng_deriv_ways.proofs.alike.alike_elements.Goals as goal

pub elements-preserved : goal.elements-preserved
elements-preserved c =
    let t = c.args.grammar.now in
    record {
      count = search rules;
      alike = subst (AreAlike t) (sym c.in_ok-push.ensures.items) (alike_more t c.elements.all.items c.elements.number c.in_ok-first_alike.field-0
          c.elements.invariant.count c.elements.invariant.alike c.in_ok-first_alike.ensures);
    }
