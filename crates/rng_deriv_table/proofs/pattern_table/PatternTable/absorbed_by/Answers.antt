use Rattle.std.proofs.Common.{Some, ap, arith, ◌∙◌}
use Rattle.rng_deriv_table.specs.views.Node.{node_of}
use Rattle.rng_deriv_table.proofs.WiderParts.{second_side_covered}
use Rattle.rng_deriv_table.proofs.pattern_table.PatternTable.absorbed_by.Goals as goal

pub facts-requires : goal.facts-requires
facts-requires c =
    let below = c.pattern.ensures.table.falls c.args.pattern.0 _ (c.pattern.ensures.found ∙ ap (λ p. Some (node_of p)) c.in-Group.is) in
    let side = below.0 in
    let inside = c.requires in
    omega (arith, side, inside)

pub is_choice-requires : goal.is_choice-requires
is_choice-requires c =
    let below = c.pattern.ensures.table.falls c.args.pattern.0 _ (c.pattern.ensures.found ∙ ap (λ p. Some (node_of p)) c.in-Group.is) in
    let side = below.1 in
    let inside = c.requires in
    omega (arith, side, inside)

pub returns-in-Group : goal.returns-in-Group
returns-in-Group c =
    let ns = c.args.self.now in
    let i = c.args.pattern.0 in
    let found = c.pattern.ensures.found ∙ ap (λ p. Some (node_of p)) c.in-Group.is in
    let below = c.pattern.ensures.table.falls i _ found in
    record {
      above = below.1;
      takes = second_side_covered ns c.pattern.ensures.table c.args.pattern c.in-Group.first c.in-Group.second found
          (λ t g. (c.facts.ensures.nullable t g).0 c.if-facts.true);
    }
