use Rattle.std.proofs.Common.{List, map, subst}
use Rattle.rng_deriv_table.specs.views.Trees.{tree_of}
use Rattle.rng_deriv_table.specs.declared.pattern.PatternNumber.{PatternNumber}
use Rattle.rng_expected.specs.Tags.{IsTagOf}
use Rattle.rng_expected.specs.views.Next.{tag_of}
use Rattle.rng_expected.proofs.tags.expected_tag.Goals as goal

pub returns : goal.returns
returns c =
    let tree : PatternNumber → _ = λ b. tree_of c.args.context.now.grammar.now c.args.table.now b.0 in
    let Has : List PatternNumber → Type 0 = λ bodies. IsTagOf (map tree bodies) (tag_of c.in_ok-tag.tag) in
    record {
      bodies = map tree c.in_ok-bodies.bodies.items;
      are = c.in_ok-bodies.ensures.bodies;
      has = subst Has c.as_slice.ensures.value c.in_ok-tag.ensures;
    }
