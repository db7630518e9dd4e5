use Rattle.std.proofs.Common.{subst, ◌≡◌, ◌++◌, map, arith}
use Rattle.rng_rules.specs.views.NamesMeetLabels.{judged_class, label_list, label_of}
use Rattle.rng_rules.specs.plain.NamesMeetReach.{lists}
use Rattle.rng_rules.proofs.NamesMeetGroups.{labels_more, labels_all}
use Rattle.rng_rules.proofs.names_meet_labels.labels.Goals as goal

pub loop-row-preserved : goal.loop-row-preserved
loop-row-preserved c =
    let rows = c.args.rows.now in
    let old = map label_of c.loop-row.labels.items in
    let new = map label_of c.add_label.new.labels.items in
    labels_more (judged_class rows.of rows.grammar.now c.in_ok-under.under.items) c.loop-row.row old new
    (subst (λ xs. new ≡ old ++ label_list c.loop-row.row (judged_class rows.of rows.grammar.now xs c.loop-row.row)) c.as_slice.ensures.value c.in_ok-add_label.ensures)
    c.loop-row.invariant

pub returns : goal.returns
returns c =
    let rows = c.args.rows.now in
    labels_all rows.of rows.grammar.now (lists rows.above.items) c.in_ok-under.under.items c.loop-row.row (map label_of c.loop-row.labels.items)
    (omega (arith, c.loop-row-test.false, c.requires.long, c.in_ok-under.ensures.long)) c.in_ok-under.ensures.all c.loop-row.invariant
