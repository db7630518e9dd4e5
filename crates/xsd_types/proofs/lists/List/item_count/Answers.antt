use Rattle.std.proofs.Common.{rules, arith}
use Rattle.xsd_types.proofs.Items.{few_pieces}
use Rattle.xsd_types.proofs.lists.List.item_count.Goals as goal

pub loop-piece-init : goal.loop-piece-init
loop-piece-init c = let few = few_pieces c.args.text.now in record { all = search rules; counted = search (rules, arith); few = search (rules, arith) }
