use Rattle.std.proofs.Common.{List, subst, sym}
use Rattle.rng_deriv_table.specs.views.Trees.{tree_of}
use Rattle.rng_deriv_ways.specs.plain.Ways.{AreWaysOf}
use Rattle.rng_deriv_ways.specs.declared.way.Kind.TheVariants as kinds
use Rattle.rng_deriv_ways.specs.declared.way.LeafWay.{LeafWay}
use Rattle.rng_deriv_ways.specs.views.KnownWays.{HasLast}
use Rattle.rng_deriv_texts.proofs.settled.last_ways_for.Goals as goal

pub returns-then-are_last_for : goal.returns-then-are_last_for
returns-then-are_last_for c = λ ns all.
    let t = c.args.context.now.grammar.now in
    let ws = c.in_ok-last.last.now in
    let own = subst (λ last. HasLast last c.args.number ws) c.as_slice.ensures.value c.in_ok-last.ensures in
    subst (λ (ways : List LeafWay). AreWaysOf t ns (kinds.Attribute c.args.name) (tree_of t ns c.args.number.0) ways) (sym c.as_slice-then-are_last_for.ensures)
    (all.last c.args.number ws own (kinds.Attribute c.args.name) (sym (c.are_last_for.ensures c.if-are_last_for.true))).ways
