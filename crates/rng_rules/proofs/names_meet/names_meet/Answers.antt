use Rattle.std.proofs.Common.{◌≡◌, refl, sym, subst, ℕ, ◌<◌, Bool, true, false, IsTrue, IsFalse, [], length, map, slice_index_or, Contains, vec_items, arith}
use Rattle.std.proofs.lemmas.List.{length-map}
use Rattle.rng_model.specs.restrictions.Restrictions.{IsPart}
use Rattle.rng_model.specs.simple.Table.{Table, grammar_of}
use Rattle.rng_model.specs.simple.Tree as tree
use Rattle.rng_model.specs.declared.name.NameClass.{NameClass}
use Rattle.rng_names.specs.views.PlainNames.{IsPlain}
use Rattle.rng_rules.specs.declared.names_meet.NamesOf.{NamesOf}
use Rattle.rng_rules.specs.views.NamesMeetLabels.{AreGroups, label_of, plain_name_of}
use Rattle.rng_rules.specs.plain.NamesMeetReach.{AreBelow, lists}
use Rattle.rng_rules.specs.views.NamesMeetSearch.{Breaks, Meeting}
use Rattle.rng_rules.specs.views.NamesMeetSides.{MeetBetween}
use Rattle.rng_rules.proofs.NamesMeetAnswers.{group_meeting, groups_inside, labelled_inside, none_meet}
use Rattle.rng_rules.proofs.NamesMeetBreaches.{breaks_meeting, meeting_breaks}
use Rattle.rng_rules.proofs.NamesMeetSearch.{if_ok}
use Rattle.rng_rules.proofs.names_meet.names_meet.Goals as goal

abbrev BrokenIn : NamesOf → Table → Type 0
BrokenIn of t = (p : tree.Simple ℕ) × IsPart (grammar_of t) p × Breaks of (grammar_of t) p

-- the same for equal arguments
here_too : (P : NamesOf → Table → Type 0) {o of : NamesOf} {u t : Table} → o ≡ of → u ≡ t → P o u → P of t
here_too P {o} {of} {u} {t} e f p = subst (λ x. P x t) e (subst (P o) f p)

told : (answer : Bool) → (IsFalse answer → ⊥) → IsTrue answer
told true f = refl
told false f = absurd (f refl)

pub groups_meet-requires-clause-below : goal.groups_meet-requires-clause-below
groups_meet-requires-clause-below c =
    let rows = c.in_ok-rows.rows in
    let t = rows.grammar.now in
    let ls = map label_of c.in_ok-labels.labels.items in
    let exact = c.in_ok-labels.ensures in
    let are = subst (λ xs. AreGroups (map label_of xs) (map plain_name_of c.in_ok-groups.groups.names.keys) (lists c.in_ok-groups.groups.rows.items))
    c.as_slice.ensures.value c.in_ok-groups.ensures in
    subst (λ xs. AreBelow (length rows.standing.items) (lists xs)) (sym c.as_slice-2.ensures.value)
    (subst (λ n. AreBelow n (lists c.in_ok-groups.groups.rows.items)) (sym c.in_ok-rows.ensures.rows.long)
    (groups_inside rows.of t ls (map plain_name_of c.in_ok-groups.groups.names.keys) (lists c.in_ok-groups.groups.rows.items) are exact.sound))

pub returns-then-branch-clause-only : goal.returns-then-branch-clause-only
returns-then-branch-clause-only c = λ answer.
    let rows = c.in_ok-rows.rows in
    let t = rows.grammar.now in
    let above = lists rows.above.items in
    let ls = map label_of c.in_ok-labels.labels.items in
    let exact = c.in_ok-labels.ensures in
    let groups = lists c.in_ok-groups.groups.rows.items in
    let are = subst (λ xs. AreGroups (map label_of xs) (map plain_name_of c.in_ok-groups.groups.names.keys) groups) c.as_slice.ensures.value c.in_ok-groups.ensures in
    let found = subst (λ xs. (k : ℕ) × MeetBetween rows.of t above (slice_index_or (lists xs) k []) (slice_index_or (lists xs) k [])) c.as_slice-2.ensures.value
    (c.in_ok-groups_meet.ensures.only c.if-branch.true) in
    here_too BrokenIn c.in_ok-rows.ensures.of c.in_ok-rows.ensures.grammar
    (meeting_breaks t c.in_ok-rows.ensures.rows.valid rows.of above c.in_ok-rows.ensures.rows.is_above ls exact
    (group_meeting rows.of t above ls (map plain_name_of c.in_ok-groups.groups.names.keys) groups are found.0 found.1))

pub others_meet-requires-clause-below : goal.others_meet-requires-clause-below
others_meet-requires-clause-below c =
    let rows = c.in_ok-rows.rows in
    let t = rows.grammar.now in
    let ls = map label_of c.in_ok-labels.labels.items in
    let exact = c.in_ok-labels.ensures in
    subst (λ xs. (row : ℕ) (d : NameClass) → Contains (map label_of xs) (row, d) → row < length rows.standing.items) (sym c.as_slice-3.ensures.value)
    (λ row d h. let l = labelled_inside rows.of t row d (exact.sound row d h) in omega (arith, l, c.in_ok-rows.ensures.rows.long))

pub returns-clause-only : goal.returns-clause-only
returns-clause-only c =
    let rows = c.in_ok-rows.rows in
    let t = rows.grammar.now in
    let above = lists rows.above.items in
    let ls = map label_of c.in_ok-labels.labels.items in
    let exact = c.in_ok-labels.ensures in
    if_ok c.others_meet.result (λ answer found is.
    here_too BrokenIn c.in_ok-rows.ensures.of c.in_ok-rows.ensures.grammar
    (meeting_breaks t c.in_ok-rows.ensures.rows.valid rows.of above c.in_ok-rows.ensures.rows.is_above ls exact
    (subst (λ xs. Meeting rows.of t above (map label_of xs)) c.as_slice-3.ensures.value (found is)))) c.others_meet.ensures.only

pub returns-clause-all : goal.returns-clause-all
returns-clause-all c =
    let rows = c.in_ok-rows.rows in
    let t = rows.grammar.now in
    let above = lists rows.above.items in
    let ls = map label_of c.in_ok-labels.labels.items in
    let exact = c.in_ok-labels.ensures in
    let items = c.in_ok-groups.groups.rows.items in
    let groups = lists items in
    let are = subst (λ xs. AreGroups (map label_of xs) (map plain_name_of c.in_ok-groups.groups.names.keys) groups) c.as_slice.ensures.value c.in_ok-groups.ensures in
    let none = subst (λ xs. (k : ℕ) → k < length xs → ¬ (MeetBetween rows.of t above (slice_index_or (lists xs) k []) (slice_index_or (lists xs) k []))) c.as_slice-2.ensures.value
    (c.in_ok-groups_meet.ensures.none c.if-branch.false) in
    if_ok c.others_meet.result (λ answer plain p part breaks. told answer (λ untrue.
    let here : BrokenIn rows.of t = here_too BrokenIn (sym c.in_ok-rows.ensures.of) (sym c.in_ok-rows.ensures.grammar) (p, part, breaks) in
    none_meet rows.of t above ls (map plain_name_of c.in_ok-groups.groups.names.keys) groups are
    (λ k h. none k (let l = length-map items vec_items in omega (arith, l, h)))
    (subst (λ xs. (m : Meeting rows.of t above (map label_of xs)) → IsPlain m.first.1) c.as_slice-3.ensures.value (plain untrue))
    (breaks_meeting t c.in_ok-rows.ensures.rows.valid rows.of above c.in_ok-rows.ensures.rows.is_above ls exact here.0 here.1 here.2))) c.others_meet.ensures.none
