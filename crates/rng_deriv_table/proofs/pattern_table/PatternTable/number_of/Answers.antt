use Rattle.std.proofs.Common.{List, length, subst, sym, ap, ◌∙◌}
use Rattle.rng_model.specs.simple.Table.{Table}
use Rattle.rng_deriv_table.specs.plain.Copies.{IsUnit}
use Rattle.rng_deriv_table.specs.views.Node.{Node, node_of}
use Rattle.rng_deriv_table.specs.views.PatternTable.{Adds, ArePartsBelow, Longer, facts_of, nodes_of}
use Rattle.rng_deriv_table.specs.plain.Reduced.{AreReduced}
use Rattle.rng_deriv_table.specs.views.Trees.{tree_of, tree_over}
use Rattle.rng_deriv_table.proofs.PutPatterns.{put_is, table_kept}
use Rattle.rng_deriv_table.proofs.pattern_table.PatternTable.number_of.Goals as goal

pub invariant_of-self-in_err-keep_unit : goal.invariant_of-self-in_err-keep_unit
invariant_of-self-in_err-keep_unit c =
    let rows = c.self.inside.rows.entries in
    let n = node_of c.args.pattern in
    let put = put_is rows c.args.pattern c.facts_of-facts.result c.self.invariant.0 c.self.invariant.1
    (subst (λ (ns : List Node). ArePartsBelow (length ns) n) (sym c.self.view_is) c.requires.below)
    (subst (λ (ns : List Node). (t : Table) → AreReduced (tree_of t ns) n) (sym c.self.view_is) c.requires.reduced)
    (λ t. c.facts_of-facts.ensures t ∙ ap (λ (ns : List Node). facts_of (tree_over t (tree_of t ns) n)) (sym c.self.view_is))
    c.insert_full.new.self.entries c.in_ok-number.number c.in_ok-number.ensures.entries c.in_ok-number.ensures.index in
    table_kept rows c.insert_full.new.self.entries c.args.pattern c.in_ok-number.number c.self.inside.not_allowed c.self.inside.empty
    c.self.inside.units.items c.keep_unit.new.units.items c.unit_of-unit.result put c.self.invariant.2 c.self.invariant.3 c.self.invariant.4
    (subst (λ (ns : List Node). IsUnit ns (λ t. tree_over t (tree_of t ns) n) c.unit_of-unit.result) (sym c.self.view_is) c.unit_of-unit.ensures)
    c.keep_unit.ensures

pub returns-in_err-keep_unit-clause-longer : goal.returns-in_err-keep_unit-clause-longer
returns-in_err-keep_unit-clause-longer c =
    let rows = c.self.inside.rows.entries in
    let n = node_of c.args.pattern in
    let put = put_is rows c.args.pattern c.facts_of-facts.result c.self.invariant.0 c.self.invariant.1
    (subst (λ (ns : List Node). ArePartsBelow (length ns) n) (sym c.self.view_is) c.requires.below)
    (subst (λ (ns : List Node). (t : Table) → AreReduced (tree_of t ns) n) (sym c.self.view_is) c.requires.reduced)
    (λ t. c.facts_of-facts.ensures t ∙ ap (λ (ns : List Node). facts_of (tree_over t (tree_of t ns) n)) (sym c.self.view_is))
    c.insert_full.new.self.entries c.in_ok-number.number c.in_ok-number.ensures.entries c.in_ok-number.ensures.index in
    subst (λ (ns : List Node). Longer ns (nodes_of c.insert_full.new.self.entries)) c.self.view_is put.longer

pub invariant_of-self-2 : goal.invariant_of-self-2
invariant_of-self-2 c =
    let rows = c.self.inside.rows.entries in
    let n = node_of c.args.pattern in
    let put = put_is rows c.args.pattern c.facts_of-facts.result c.self.invariant.0 c.self.invariant.1
    (subst (λ (ns : List Node). ArePartsBelow (length ns) n) (sym c.self.view_is) c.requires.below)
    (subst (λ (ns : List Node). (t : Table) → AreReduced (tree_of t ns) n) (sym c.self.view_is) c.requires.reduced)
    (λ t. c.facts_of-facts.ensures t ∙ ap (λ (ns : List Node). facts_of (tree_over t (tree_of t ns) n)) (sym c.self.view_is))
    c.insert_full.new.self.entries c.in_ok-number.number c.in_ok-number.ensures.entries c.in_ok-number.ensures.index in
    table_kept rows c.insert_full.new.self.entries c.args.pattern c.in_ok-number.number c.self.inside.not_allowed c.self.inside.empty
    c.self.inside.units.items c.keep_unit.new.units.items c.unit_of-unit.result put c.self.invariant.2 c.self.invariant.3 c.self.invariant.4
    (subst (λ (ns : List Node). IsUnit ns (λ t. tree_over t (tree_of t ns) n) c.unit_of-unit.result) (sym c.self.view_is) c.unit_of-unit.ensures)
    c.keep_unit.ensures

pub returns-clause-longer : goal.returns-clause-longer
returns-clause-longer c =
    let rows = c.self.inside.rows.entries in
    let n = node_of c.args.pattern in
    let put = put_is rows c.args.pattern c.facts_of-facts.result c.self.invariant.0 c.self.invariant.1
    (subst (λ (ns : List Node). ArePartsBelow (length ns) n) (sym c.self.view_is) c.requires.below)
    (subst (λ (ns : List Node). (t : Table) → AreReduced (tree_of t ns) n) (sym c.self.view_is) c.requires.reduced)
    (λ t. c.facts_of-facts.ensures t ∙ ap (λ (ns : List Node). facts_of (tree_over t (tree_of t ns) n)) (sym c.self.view_is))
    c.insert_full.new.self.entries c.in_ok-number.number c.in_ok-number.ensures.entries c.in_ok-number.ensures.index in
    subst (λ (ns : List Node). Longer ns (nodes_of c.insert_full.new.self.entries)) c.self.view_is put.longer

pub returns-clause-adds : goal.returns-clause-adds
returns-clause-adds c =
    let rows = c.self.inside.rows.entries in
    let n = node_of c.args.pattern in
    let put = put_is rows c.args.pattern c.facts_of-facts.result c.self.invariant.0 c.self.invariant.1
    (subst (λ (ns : List Node). ArePartsBelow (length ns) n) (sym c.self.view_is) c.requires.below)
    (subst (λ (ns : List Node). (t : Table) → AreReduced (tree_of t ns) n) (sym c.self.view_is) c.requires.reduced)
    (λ t. c.facts_of-facts.ensures t ∙ ap (λ (ns : List Node). facts_of (tree_over t (tree_of t ns) n)) (sym c.self.view_is))
    c.insert_full.new.self.entries c.in_ok-number.number c.in_ok-number.ensures.entries c.in_ok-number.ensures.index in
    subst (λ (ns : List Node). Adds ns (nodes_of c.insert_full.new.self.entries) c.in_ok-number.number (λ t. tree_over t (tree_of t ns) n)) c.self.view_is put.adds
