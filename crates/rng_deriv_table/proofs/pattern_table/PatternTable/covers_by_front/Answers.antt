use Rattle.std.proofs.Common.{Some, ap, arith, ◌∙◌, eqb-true, sym}
use Rattle.rng_deriv_table.specs.views.Node.{node_of}
use Rattle.rng_deriv_table.proofs.WiderParts.{group_covers}
use Rattle.rng_deriv_table.proofs.pattern_table.PatternTable.covers_by_front.Goals as goal

pub is_behind_option-requires : goal.is_behind_option-requires
is_behind_option-requires c =
    let below = c.pattern.ensures.table.falls c.args.outer.0 _ (c.pattern.ensures.found ∙ ap (λ p. Some (node_of p)) c.in-Group.is) in
    let side = below.0 in
    let inside = c.requires.outer in
    record { pattern = omega (arith, side, inside) }

pub returns-in-Group-pattern : goal.returns-in-Group-pattern
returns-in-Group-pattern c = λ yes.
    let whole = c.pattern.ensures.found ∙ ap (λ p. Some (node_of p)) c.in-Group.is in
    let part = c.pattern-2.ensures.found ∙ ap (λ p. Some (node_of p)) c.in-Group-pattern.is in
    group_covers c.args.self.now c.pattern.ensures.table c.args.outer c.in-Group.first c.in-Group.second c.args.inner c.in-Group-pattern.front
    c.in-Group-pattern.rest whole part (eqb-true _ _ (sym c.if-eq.ensures)) (c.is_behind_option.ensures yes)
