use Rattle.std.proofs.Common.{sym, ◌∙◌, IsFalse}
use Rattle.std.proofs.lemmas.List.{get_or_default}
use Rattle.rng_rules.specs.views.NamesMeetSides.{are_marked, row_sides}
use Rattle.rng_rules.proofs.NamesMeetQueues.{all_more, all_of}
use Rattle.rng_rules.proofs.names_meet_sides.Rows.is_one_met.Goals as goal

pub loop-row-preserved : goal.loop-row-preserved
loop-row-preserved c =
    let m = c.args.marks.now in
    all_more (λ row. IsFalse (are_marked m.first.items m.second.items c.args.round (row_sides c.args.self.now row))) c.args.reached.now c.loop-row.row-index _
    c.loop-row-test.true (get_or_default c.args.reached.now c.loop-row.row-index _ _ c.loop-row-test.true) (sym c.is_met.ensures ∙ c.if-is_met.false) c.loop-row.invariant

pub returns-clause-none : goal.returns-clause-none
returns-clause-none c = λ no row there.
    let m = c.args.marks.now in
    all_of (λ row. IsFalse (are_marked m.first.items m.second.items c.args.round (row_sides c.args.self.now row))) c.args.reached.now c.loop-row.row-index
    c.loop-row-test.false c.loop-row.invariant row there
