use Rattle.std.proofs.Common.{ap, sym, subst, ◌∙◌, slice_get}
use Rattle.std.proofs.lemmas.Option.{slice_get_within}
use Rattle.rng_model.specs.names.NameViews.{class_of}
use Rattle.rng_names.specs.plain.Holding.{holds, pair}
use Rattle.rng_names.specs.views.Alternatives.{AreTables}
use Rattle.rng_names.proofs.class_table.ClassTable.hold.Goals as goal

pub hold_in-requires-clause-tables : goal.hold_in-requires-clause-tables
hold_in-requires-clause-tables c = subst AreTables (sym c.as_slice.ensures.value) c.self.invariant.are

pub hold_in-requires-clause-inside : goal.hold_in-requires-clause-inside
hold_in-requires-clause-inside c =
    slice_get_within c.as_slice.result.now c.self.inside.own c.self.invariant.table
    (ap (λ xs. slice_get xs c.self.inside.own) c.as_slice.ensures.value ∙ c.self.invariant.at)

pub returns : goal.returns
returns c =
    let q = pair c.args.ns.now c.args.local.now in
    c.hold_in.ensures c.self.invariant.table (ap (λ xs. slice_get xs c.self.inside.own) c.as_slice.ensures.value ∙ c.self.invariant.at)
    ∙ ap (λ k. holds k q) (c.self.invariant.class ∙ ap class_of c.self.view_is)
