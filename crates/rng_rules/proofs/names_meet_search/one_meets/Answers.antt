use Rattle.std.proofs.Common.{rules, ◌≡◌, ◌∷◌, [], sym, subst, ℕ, ◌<◌, length, map, Contains, All}
use Rattle.rng_model.proofs.Members.{one_only, all_from_members}
use Rattle.rng_model.specs.declared.name.NameClass.{NameClass}
use Rattle.rng_names.specs.views.PlainNames.{IsPlain}
use Rattle.rng_rules.specs.views.NamesMeetLabels.{ready_label_of}
use Rattle.rng_rules.proofs.NamesMeetSearch.{if_ok, meeting_of, no_meeting}
use Rattle.rng_rules.proofs.names_meet_search.one_meets.Goals as goal

pub returns-then-is_name-clause-none : goal.returns-then-is_name-clause-none
returns-then-is_name-clause-none c = λ untrue m e.
    subst (λ (l : ℕ × NameClass). IsPlain l.1) (sym e) (c.is_name.ensures.0 c.if-is_name.true)

pub meet-requires-clause-first : goal.meet-requires-clause-first
meet-requires-clause-first c =
    let one : c.as_slice.result.now ≡ c.args.label.now.row ∷ [] = search rules in
    let n = length c.args.rows.now.standing.items in
    subst (All (λ k. k < n)) (sym one) (all_from_members (λ k. k < n) (c.args.label.now.row ∷ [])
    (λ k h. subst (λ j. j < n) (one_only c.args.label.now.row k h) (c.requires.below c.args.label.now.row c.args.label.now.class c.requires.there)))

pub meet-requires-clause-second : goal.meet-requires-clause-second
meet-requires-clause-second c =
    let n = length c.args.rows.now.standing.items in
    subst (All (λ k. k < n)) (sym c.as_slice-2.ensures.value) (all_from_members (λ k. k < n) c.in_ok-others.others.items
    (λ k h. let o = (c.in_ok-others.ensures k).0 h in c.requires.below k o.0 o.1))

pub returns-clause-only : goal.returns-clause-only
returns-clause-only c =
    let one : c.as_slice.result.now ≡ c.args.label.now.row ∷ [] = search rules in
    let others = c.as_slice-2.ensures.value in
    if_ok c.meet.result (λ answer f is. meeting_of (map ready_label_of c.args.labels.now) c.args.label.now.row c.args.label.now.class c.as_slice.result.now
    c.as_slice-2.result.now one c.requires.there (λ k h. (c.in_ok-others.ensures k).0 (subst (λ xs. Contains xs k) others h))
    (λ k d h o. subst (λ xs. Contains xs k) (sym others) ((c.in_ok-others.ensures k).1 (d, h, o))) (f is)) c.meet.ensures.only

pub returns-clause-none : goal.returns-clause-none
returns-clause-none c =
    let one : c.as_slice.result.now ≡ c.args.label.now.row ∷ [] = search rules in
    let others = c.as_slice-2.ensures.value in
    if_ok c.meet.result (λ answer f untrue m e. no_meeting (map ready_label_of c.args.labels.now) c.args.label.now.row c.args.label.now.class c.as_slice.result.now
    c.as_slice-2.result.now one c.requires.there (λ k h. (c.in_ok-others.ensures k).0 (subst (λ xs. Contains xs k) others h))
    (λ k d h o. subst (λ xs. Contains xs k) (sym others) ((c.in_ok-others.ensures k).1 (d, h, o))) answer f untrue m e) c.meet.ensures.all
