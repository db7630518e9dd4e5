use Rattle.std.proofs.Common.{◌∙◌, ap, sym}
use Rattle.rng_simple.specs.plain.Mentioned.{all_mentioned}
use Rattle.rng_simple.proofs.Forests.{no_rows}
use Rattle.rng_simple.proofs.NumberedGraphs.Mentioned.{next_mentioned}
use Rattle.rng_simple.proofs.graph.mentions.rows_mentions.Goals as goal

pub loop-row-init : goal.loop-row-init
loop-row-init c = c.new-found.ensures.items ∙ ap all_mentioned (sym no_rows)

pub loop-row-preserved : goal.loop-row-preserved
loop-row-preserved c =
    next_mentioned c.args.rows.now c.loop-row.row-index c.row-item.result c.loop-row.found.items c.add_mention.new.found.items c.loop-row-test.true
    c.row-item.is c.loop-row.invariant c.in_ok-add_mention.ensures
