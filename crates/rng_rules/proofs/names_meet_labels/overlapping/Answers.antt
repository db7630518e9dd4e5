use Rattle.std.proofs.Common.{map, take, arith}
use Rattle.std.proofs.lemmas.List.{length-map}
use Rattle.rng_model.proofs.Places.{one_more_mapped}
use Rattle.rng_model.specs.names.NameViews.{class_of}
use Rattle.rng_rules.specs.views.NamesMeetLabels.{ready_label_of}
use Rattle.rng_rules.proofs.NamesMeetGroups.{overlapping_more, overlapping_all}
use Rattle.rng_rules.proofs.names_meet_labels.overlapping.Goals as goal

pub loop-label-preserved : goal.loop-label-preserved
loop-label-preserved c =
    let ls = c.args.labels.now in
    let i = c.loop-label.label-index in
    overlapping_more (class_of c.args.class.now) (take i (map ready_label_of ls)) _ c.label-item.result.row c.label-item.result.class c.loop-label.rows.items
    c.add_overlapping.new.rows.items (one_more_mapped ready_label_of ls i c.label-item.result c.loop-label-test.true c.label-item.is) c.in_ok-add_overlapping.ensures
    c.loop-label.invariant

pub returns : goal.returns
returns c =
    let ls = map ready_label_of c.args.labels.now in
    overlapping_all (class_of c.args.class.now) ls c.loop-label.label-index c.loop-label.rows.items
    (omega (arith, c.loop-label-test.false, length-map c.args.labels.now ready_label_of)) c.loop-label.invariant
