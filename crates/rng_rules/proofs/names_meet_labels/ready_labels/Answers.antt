use Rattle.std.proofs.Common.{[], ◌∷◌, ◌++◌, ap, ap₂, sym, ◌∙◌, map, arith}
use Rattle.std.proofs.lemmas.List.{length-map, map-append, take_all}
use Rattle.rng_model.proofs.Places.{one_more_mapped}
use Rattle.rng_rules.specs.views.NamesMeetLabels.{label_of, ready_label_of}
use Rattle.rng_rules.proofs.names_meet_labels.ready_labels.Goals as goal

pub loop-label-preserved : goal.loop-label-preserved
loop-label-preserved c =
    let ls = c.args.labels.now in
    let i = c.loop-label.label-index in
    let old = c.loop-label.all.items in
    let label = c.label-item.result in
    ap (map ready_label_of) c.in_ok-push.ensures.items ∙ map-append ready_label_of old _
    ∙ ap₂ (λ xs y. xs ++ (label.row, y) ∷ []) c.loop-label.invariant c.in_ok-class.ensures.class
    ∙ sym (one_more_mapped label_of ls i label c.loop-label-test.true c.label-item.is)

pub returns : goal.returns
returns c =
    let ls = map label_of c.args.labels.now in
    c.loop-label.invariant ∙ take_all c.loop-label.label-index ls (omega (arith, c.loop-label-test.false, length-map c.args.labels.now label_of))
