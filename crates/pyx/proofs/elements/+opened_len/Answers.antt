use Rattle.std.proofs.Common.{arith, rules}
use Rattle.pyx.proofs.Scopes.OpenNames.{named_parts}
use Rattle.pyx.proofs.Scopes.OpenStack.{held_open}
use Rattle.pyx.proofs.elements.+opened_len.Goals as goal

pub split_at-requires : goal.split_at-requires
split_at-requires t c =
    (named_parts c.args.opened.now c.in-Some.outer.now c.in-Some.element.now c.args.names.now c.in-Some.ensures.parts c.requires.1.1).0

pub returns-in-Some : goal.returns-in-Some
returns-in-Some t c =
    rw (held_open c.args.opened.now c.in-Some.outer.now c.in-Some.element.now c.args.names.now c.args.declarations.now c.split_at-in-Some.result.0.now
    c.split_at-in-Some.result.1.now c.in-Some.ensures.parts c.split_at-in-Some.ensures.by_index.0
    (omega (arith, c.split_at-in-Some.ensures.front_len, c.saturating_sub-count.ensures)))
    (search rules)
