use Rattle.std.proofs.Common.{◌+◌, sym, ap, subst, map, take, arith, Contains}
use Rattle.std.proofs.lemmas.List.{length-map, take_all}
use Rattle.rng_model.proofs.Places.{one_more_mapped}
use Rattle.rng_rules.specs.views.NamesMeetLabels.{ready_label_of}
use Rattle.rng_rules.proofs.NamesMeetSearch.{plain_more}
use Rattle.rng_rules.proofs.names_meet_search.ready_meet.Goals as goal

pub loop-label-preserved : goal.loop-label-preserved
loop-label-preserved c =
    let ls = c.args.labels.now in
    let i = c.loop-label.label-index in record {
      marks = c.in_ok-one_meets.ensures.marks;
      round = ap (λ k. k + 1) c.loop-label.invariant.round;
      none = λ m. plain_more (take i (map ready_label_of ls)) (take (i + 1) (map ready_label_of ls)) (ready_label_of c.label-item.result) m.first
          (one_more_mapped ready_label_of ls i c.label-item.result c.loop-label-test.true c.label-item.is) (c.loop-label.invariant.none m)
          (c.in_ok-one_meets.ensures.none c.if-branch.false m);
    }

pub returns-clause-none : goal.returns-clause-none
returns-clause-none c = λ untrue m.
    let ls = map ready_label_of c.args.labels.now in
    c.loop-label.invariant.none m (subst (λ xs. Contains xs m.first)
    (sym (take_all c.loop-label.label-index ls (omega (arith, c.loop-label-test.false, length-map c.args.labels.now ready_label_of)))) m.first_there)
