use Rattle.std.proofs.Common.{◌∙◌, ap, map}
use Rattle.std.proofs.lemmas.Result.{IfOk-weaker}
use Rattle.rng_simple.specs.views.GraphView.{forest}
use Rattle.rng_simple.specs.plain.SimpleParts.{side, values_in}
use Rattle.rng_simple.specs.views.RowTable.{tree_of}
use Rattle.rng_simple.proofs.Tables.SimpleParts.{child_is}
use Rattle.rng_simple.proofs.simple_parts.simple_pattern.Goals as goal

pub returns-clause-tree : goal.returns-clause-tree
returns-clause-tree c =
    let values = values_in c.args.table.now c.args.parts.now in
    let whole = ap (λ xs. side (map (tree_of c.put_sides.new.table) xs)) c.as_slice.ensures.value ∙ ap side c.in_ok-put_sides.ensures.trees
    ∙ child_is values (forest c.args.rows.now) in
    IfOk-weaker c.first_side.result _ _ (λ id e. e ∙ whole) c.first_side.ensures.tree
