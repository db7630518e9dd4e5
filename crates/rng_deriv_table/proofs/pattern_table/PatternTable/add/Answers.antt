use Rattle.std.proofs.Common.{List, length, subst, sym, ap, ◌∙◌}
use Rattle.std.proofs.lemmas.List.{length-map}
use Rattle.rng_model.specs.simple.Table.{Table}
use Rattle.rng_deriv_table.specs.plain.Copies.{IsKeptLast, IsUnit}
use Rattle.rng_deriv_table.specs.views.Node.{Node, node_of}
use Rattle.rng_deriv_table.specs.views.PatternTable.{ArePartsBelow, IsNew, Longer, facts_of, nodes_of}
use Rattle.rng_deriv_table.specs.plain.Reduced.{AreReduced}
use Rattle.rng_deriv_table.specs.views.Trees.{tree_of, tree_over}
use Rattle.rng_deriv_table.proofs.PutPatterns.{IsPut, goes_put, table_kept}
use Rattle.rng_deriv_table.proofs.TableRows.{goes_last, nodes_more}
use Rattle.rng_deriv_table.proofs.pattern_table.PatternTable.add.Goals as goal

pub invariant_of-self-in_err-keep_unit : goal.invariant_of-self-in_err-keep_unit
invariant_of-self-in_err-keep_unit c =
    let rows = c.self.inside.rows.entries in
    let n = node_of c.args.pattern in
    let new = c.insert.new.self.entries in
    let put = subst (λ new. IsPut rows new c.args.pattern (length rows)) (sym c.in_ok-insert.ensures.entries)
    (goes_put rows c.args.pattern c.facts_of-facts.result c.self.invariant.0 c.self.invariant.1
    (subst (λ (ns : List Node). ArePartsBelow (length ns) n) (sym c.self.view_is) c.requires.below)
    (subst (λ (ns : List Node). (t : Table) → AreReduced (tree_of t ns) n) (sym c.self.view_is) c.requires.reduced)
    (λ t. c.facts_of-facts.ensures t ∙ ap (λ (ns : List Node). facts_of (tree_over t (tree_of t ns) n)) (sym c.self.view_is))
    (subst (λ ns. IsNew ns n) (sym c.self.view_is) c.requires.new)) in
    table_kept rows new c.args.pattern (length rows) c.self.inside.not_allowed c.self.inside.empty
    c.self.inside.units.items c.keep_unit.new.units.items c.unit_of-unit.result put c.self.invariant.2 c.self.invariant.3 c.self.invariant.4
    (subst (λ (ns : List Node). IsUnit ns (λ t. tree_over t (tree_of t ns) n) c.unit_of-unit.result) (sym c.self.view_is) c.unit_of-unit.ensures)
    (subst (λ k. IsKeptLast c.self.inside.units.items c.keep_unit.new.units.items k c.unit_of-unit.result) c.len-number.ensures.len c.keep_unit.ensures)

pub returns-in_err-keep_unit-clause-longer : goal.returns-in_err-keep_unit-clause-longer
returns-in_err-keep_unit-clause-longer c =
    let rows = c.self.inside.rows.entries in
    let n = node_of c.args.pattern in
    let new = c.insert.new.self.entries in
    let put = subst (λ new. IsPut rows new c.args.pattern (length rows)) (sym c.in_ok-insert.ensures.entries)
    (goes_put rows c.args.pattern c.facts_of-facts.result c.self.invariant.0 c.self.invariant.1
    (subst (λ (ns : List Node). ArePartsBelow (length ns) n) (sym c.self.view_is) c.requires.below)
    (subst (λ (ns : List Node). (t : Table) → AreReduced (tree_of t ns) n) (sym c.self.view_is) c.requires.reduced)
    (λ t. c.facts_of-facts.ensures t ∙ ap (λ (ns : List Node). facts_of (tree_over t (tree_of t ns) n)) (sym c.self.view_is))
    (subst (λ ns. IsNew ns n) (sym c.self.view_is) c.requires.new)) in
    subst (λ (ns : List Node). Longer ns (nodes_of new)) c.self.view_is put.longer

pub invariant_of-self-2 : goal.invariant_of-self-2
invariant_of-self-2 c =
    let rows = c.self.inside.rows.entries in
    let n = node_of c.args.pattern in
    let new = c.insert.new.self.entries in
    let put = subst (λ new. IsPut rows new c.args.pattern (length rows)) (sym c.in_ok-insert.ensures.entries)
    (goes_put rows c.args.pattern c.facts_of-facts.result c.self.invariant.0 c.self.invariant.1
    (subst (λ (ns : List Node). ArePartsBelow (length ns) n) (sym c.self.view_is) c.requires.below)
    (subst (λ (ns : List Node). (t : Table) → AreReduced (tree_of t ns) n) (sym c.self.view_is) c.requires.reduced)
    (λ t. c.facts_of-facts.ensures t ∙ ap (λ (ns : List Node). facts_of (tree_over t (tree_of t ns) n)) (sym c.self.view_is))
    (subst (λ ns. IsNew ns n) (sym c.self.view_is) c.requires.new)) in
    table_kept rows new c.args.pattern (length rows) c.self.inside.not_allowed c.self.inside.empty
    c.self.inside.units.items c.keep_unit.new.units.items c.unit_of-unit.result put c.self.invariant.2 c.self.invariant.3 c.self.invariant.4
    (subst (λ (ns : List Node). IsUnit ns (λ t. tree_over t (tree_of t ns) n) c.unit_of-unit.result) (sym c.self.view_is) c.unit_of-unit.ensures)
    (subst (λ k. IsKeptLast c.self.inside.units.items c.keep_unit.new.units.items k c.unit_of-unit.result) c.len-number.ensures.len c.keep_unit.ensures)

pub returns-clause-longer : goal.returns-clause-longer
returns-clause-longer c =
    let rows = c.self.inside.rows.entries in
    let n = node_of c.args.pattern in
    let new = c.insert.new.self.entries in
    let put = subst (λ new. IsPut rows new c.args.pattern (length rows)) (sym c.in_ok-insert.ensures.entries)
    (goes_put rows c.args.pattern c.facts_of-facts.result c.self.invariant.0 c.self.invariant.1
    (subst (λ (ns : List Node). ArePartsBelow (length ns) n) (sym c.self.view_is) c.requires.below)
    (subst (λ (ns : List Node). (t : Table) → AreReduced (tree_of t ns) n) (sym c.self.view_is) c.requires.reduced)
    (λ t. c.facts_of-facts.ensures t ∙ ap (λ (ns : List Node). facts_of (tree_over t (tree_of t ns) n)) (sym c.self.view_is))
    (subst (λ ns. IsNew ns n) (sym c.self.view_is) c.requires.new)) in
    subst (λ (ns : List Node). Longer ns (nodes_of new)) c.self.view_is put.longer

pub returns-clause-added : goal.returns-clause-added
returns-clause-added c =
    let rows = c.self.inside.rows.entries in
    let p = c.args.pattern in
    let f = c.facts_of-facts.result in
    let fresh = subst (λ ns. IsNew ns (node_of p)) (sym c.self.view_is) c.requires.new in (
      c.len-number.ensures.len ∙ sym (length-map rows (λ r. node_of r.0)) ∙ ap length c.self.view_is,
      nodes_more rows p f (c.in_ok-insert.ensures.entries ∙ goes_last rows p f fresh) c.self.view_is,
    )
