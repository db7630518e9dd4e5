use Rattle.std.proofs.Common.{◌≡◌, sym, ap, subst, ◌∙◌, ℕ, ◌<◌, length, map, Contains}
use Rattle.rng_model.specs.declared.name.NameClass.{NameClass}
use Rattle.rng_names.specs.views.PlainNames.{IsPlain}
use Rattle.rng_rules.specs.views.NamesMeetLabels.{label_of, ready_label_of}
use Rattle.rng_rules.specs.plain.NamesMeetReach.{lists}
use Rattle.rng_rules.specs.views.NamesMeetSearch.{Meeting}
use Rattle.rng_rules.proofs.NamesMeetSearch.{if_ok}
use Rattle.rng_rules.proofs.names_meet_search.others_meet.Goals as goal

pub ready_meet-requires-clause-below : goal.ready_meet-requires-clause-below
ready_meet-requires-clause-below c =
    let same : map ready_label_of c.as_slice.result.now ≡ map label_of c.args.labels.now = ap (map ready_label_of) c.as_slice.ensures.value ∙ c.in_ok-ready.ensures in
    subst (λ ls. (row : ℕ) (d : NameClass) → Contains ls (row, d) → row < length c.args.rows.now.standing.items) (sym same) c.requires.below

pub returns-clause-only : goal.returns-clause-only
returns-clause-only c =
    let same : map ready_label_of c.as_slice.result.now ≡ map label_of c.args.labels.now = ap (map ready_label_of) c.as_slice.ensures.value ∙ c.in_ok-ready.ensures in
    let rows = c.args.rows.now in
    if_ok c.ready_meet.result (λ answer found is. subst (Meeting rows.of rows.grammar.now (lists rows.above.items)) same (found is)) c.ready_meet.ensures.only

pub returns-clause-none : goal.returns-clause-none
returns-clause-none c =
    let same : map ready_label_of c.as_slice.result.now ≡ map label_of c.args.labels.now = ap (map ready_label_of) c.as_slice.ensures.value ∙ c.in_ok-ready.ensures in
    let rows = c.args.rows.now in
    if_ok c.ready_meet.result (λ answer none is.
    subst (λ ls. (m : Meeting rows.of rows.grammar.now (lists rows.above.items) ls) → IsPlain m.first.1) same (none is)) c.ready_meet.ensures.none
