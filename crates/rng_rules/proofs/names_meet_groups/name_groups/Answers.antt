use Rattle.std.proofs.Common.{sym, subst, map, take}
use Rattle.rng_model.proofs.Places.{one_more_mapped}
use Rattle.rng_rules.specs.views.NamesMeetLabels.{AreGroups, label_of, plain_name_of}
use Rattle.rng_rules.specs.plain.NamesMeetReach.{lists}
use Rattle.rng_rules.proofs.names_meet_groups.name_groups.Goals as goal

pub loop-label-preserved : goal.loop-label-preserved
loop-label-preserved c =
    let ls = c.args.labels.now in
    let i = c.loop-label.label-index in
    subst (λ xs. AreGroups xs (map plain_name_of c.add.new.self.names.keys) (lists c.add.new.self.rows.items))
    (sym (one_more_mapped label_of ls i c.label-item.result c.loop-label-test.true c.label-item.is)) (c.in_ok-add.ensures (take i (map label_of ls)) c.loop-label.invariant)
