use Rattle.std.proofs.Common.{◌≡◌, ◌∷◌, ◌++◌, [], length, slice_get, Some, sym, ◌∙◌, ap, arith}
use Rattle.rng_rules.proofs.GrammarBodies.{bodies_more}
use Rattle.rng_rules.proofs.broken.bodies_of.Goals as goal

pub elements-preserved : goal.elements-preserved
elements-preserved c =
    let es = c.args.grammar.now.elements in
    let at : slice_get es (length c.elements.bodies.items) ≡ Some c.in-Some.field-0.now = ap (slice_get es) (omega (arith, c.len.ensures)) ∙ sym c.in-Some.ensures in
    let longer : c.push.new.self.items ≡ c.elements.bodies.items ++ c.in-Some.field-0.now.1 ∷ [] = c.in_ok-push.ensures.items in
    let more = bodies_more es c.elements.bodies.items c.push.new.self.items c.in-Some.field-0.now at longer c.elements.invariant.so_far in
    record { within = more.within; so_far = more.so_far }
