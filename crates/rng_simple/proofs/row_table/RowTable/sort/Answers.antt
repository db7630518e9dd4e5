use Rattle.std.proofs.Common.{sym, ap, ◌∙◌}
use Rattle.rng_simple.specs.plain.SimpleOf.{sort_of}
use Rattle.rng_simple.specs.views.RowTable.{labels_of, tree_of}
use Rattle.rng_simple.specs.views.Rows.{row_tree}
use Rattle.rng_simple.proofs.Tables.RowTable.{row_sort, tree_found}
use Rattle.rng_simple.proofs.row_table.RowTable.sort.Goals as goal

pub returns-in-NotAllowed : goal.returns-in-NotAllowed
returns-in-NotAllowed c =
    let t = c.args.self.now in
    sym (ap sort_of (tree_found t c.args.id c.index.result.now c.requires.table c.requires.there c.index.ensures)
    ∙ ap (λ r. sort_of (row_tree (labels_of t) (tree_of t) r)) c.in-NotAllowed.is)

pub returns-in-Empty : goal.returns-in-Empty
returns-in-Empty c =
    let t = c.args.self.now in
    sym (ap sort_of (tree_found t c.args.id c.index.result.now c.requires.table c.requires.there c.index.ensures)
    ∙ ap (λ r. sort_of (row_tree (labels_of t) (tree_of t) r)) c.in-Empty.is)

pub returns-in_default : goal.returns-in_default
returns-in_default c =
    let t = c.args.self.now in
    row_sort (labels_of t) (tree_of t) c.index.result.now c.in_default.not-NotAllowed c.in_default.not-Empty
    ∙ ap sort_of (sym (tree_found t c.args.id c.index.result.now c.requires.table c.requires.there c.index.ensures))
