use Rattle.std.proofs.Common.{Some, ap, arith, subst, ◌∙◌, eqb-true, sym, ℕ}
use Rattle.rng_deriv_laws.specs.plain.Taking.{Takes}
use Rattle.rng_deriv_table.specs.views.Node.{node_of}
use Rattle.rng_deriv_table.specs.views.Trees.{tree_of}
use Rattle.rng_deriv_table.proofs.WiderParts.{second_side_covered}
use Rattle.rng_deriv_table.proofs.pattern_table.PatternTable.is_behind_option.Goals as goal

pub facts-requires : goal.facts-requires
facts-requires c =
    let below = c.pattern.ensures.table.falls c.args.pattern.0 _ (c.pattern.ensures.found ∙ ap (λ p. Some (node_of p)) c.in-Group.is) in
    let side = below.0 in
    let inside = c.requires in
    omega (arith, side, inside)

pub returns-then-eq : goal.returns-then-eq
returns-then-eq c = λ yes.
    let ns = c.args.self.now in
    let found = c.pattern.ensures.found ∙ ap (λ p. Some (node_of p)) c.in-Group.is in
    let same = eqb-true _ _ (sym c.if-eq.ensures) in
    λ t g xs is d. second_side_covered ns c.pattern.ensures.table c.args.pattern c.in-Group.option c.in-Group.rest found
    (λ t g. (c.facts.ensures.nullable t g).0 yes) t g xs is (subst (λ (n : ℕ). Takes g (tree_of t ns n) xs is) (sym same) d)
