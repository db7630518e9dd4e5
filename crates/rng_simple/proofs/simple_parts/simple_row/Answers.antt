use Rattle.std.proofs.Common.{◌∙◌, ap, ap₂, sym, map}
use Rattle.std.proofs.lemmas.Result.{IfOk-weaker}
use Rattle.rng_model.specs.simple.Tree.{choice}
use Rattle.rng_simple.specs.plain.SimpleOf.{join, some_of}
use Rattle.rng_simple.specs.plain.SimpleParts.{row_simple, values_in}
use Rattle.rng_simple.specs.views.RowTable.{tree_of}
use Rattle.rng_simple.proofs.Tables.SimpleParts.{empty_is}
use Rattle.rng_simple.proofs.simple_parts.simple_row.Goals as goal

pub returns-in-Empty-clause-tree : goal.returns-in-Empty-clause-tree
returns-in-Empty-clause-tree c =
    let values = values_in c.args.table.now c.args.parts.now in
    let children = map (tree_of c.args.table.now) c.args.children.now in
    empty_is c.args.table.now c.requires.table ∙ sym (ap (λ r. row_simple values r children) c.in-Empty.is)

pub returns-in_ok-body-in-Optional-clause-tree : goal.returns-in_ok-body-in-Optional-clause-tree
returns-in_ok-body-in-Optional-clause-tree c =
    let values = values_in c.args.table.now c.args.parts.now in
    let children = map (tree_of c.args.table.now) c.args.children.now in
    let whole = ap₂ (λ s u. join choice s u) c.in_ok-body-in-Optional.ensures.tree (empty_is _ c.in_ok-body-in-Optional.ensures.grown.table)
    ∙ sym (ap (λ r. row_simple values r children) c.in-Optional.is) in
    IfOk-weaker c.join-in-Optional.result _ _ (λ id e. e ∙ whole) c.join-in-Optional.ensures.tree

pub returns-in_ok-some-in-ZeroOrMore-clause-tree : goal.returns-in_ok-some-in-ZeroOrMore-clause-tree
returns-in_ok-some-in-ZeroOrMore-clause-tree c =
    let values = values_in c.args.table.now c.args.parts.now in
    let children = map (tree_of c.args.table.now) c.args.children.now in
    let some = c.in_ok-some-in-ZeroOrMore.ensures.tree ∙ ap some_of c.in_ok-body-in-ZeroOrMore.ensures.tree in
    let whole = ap₂ (λ s u. join choice s u) some (empty_is _ c.in_ok-some-in-ZeroOrMore.ensures.grown.table)
    ∙ sym (ap (λ r. row_simple values r children) c.in-ZeroOrMore.is) in
    IfOk-weaker c.join-in-ZeroOrMore.result _ _ (λ id e. e ∙ whole) c.join-in-ZeroOrMore.ensures.tree
