use Rattle.std.proofs.Common.{◌∙◌, ap, map}
use Rattle.std.proofs.lemmas.Result.{IfOk-weaker}
use Rattle.rng_simple.specs.views.GraphView.{forest}
use Rattle.rng_simple.specs.plain.SimpleParts.{components_joined, values_in}
use Rattle.rng_simple.specs.views.Joining.{connector_of}
use Rattle.rng_simple.specs.views.RowTable.{tree_of}
use Rattle.rng_simple.proofs.Tables.SimpleParts.{components_are}
use Rattle.rng_simple.proofs.simple_parts.simple_components.Goals as goal

pub returns-clause-tree : goal.returns-clause-tree
returns-clause-tree c =
    let values = values_in c.args.table.now c.args.parts.now in
    let k = connector_of c.args.connector in
    let whole = ap (λ xs. components_joined k (map (tree_of c.put_sides.new.table) xs)) c.as_slice.ensures.value
    ∙ ap (components_joined k) c.in_ok-put_sides.ensures.trees ∙ components_are values k (forest c.args.rows.now) in
    IfOk-weaker c.joined_components.result _ _ (λ id e. e ∙ whole) c.joined_components.ensures.tree
