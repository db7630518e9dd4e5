use Rattle.std.proofs.Common.{◌≡◌, ◌∙◌, ◌≤◌, length, sym, ap, subst}
use Rattle.xsd_automaton.specs.plain.Closures.{IsClosed, nexts, StepsTo}
use Rattle.xsd_automaton.specs.plain.Sets.{members_at, AreSets, HasTarget, IsNumbered}
use Rattle.xsd_positions.specs.views.Positions.{positions_of}
use Rattle.xsd_automaton.specs.views.Sets.{lists_of}
use Rattle.xsd_automaton.proofs.ReadTexts.{nexts_within, step_is}
use Rattle.xsd_automaton.proofs.GrownSets.{numbered_sets, numbered_target, if_ok, on_ok}
use Rattle.xsd_automaton.proofs.found_sets.FoundSets.target.Goals as goal

pub find_nexts-requires : goal.find_nexts-requires
find_nexts-requires c =
    let members = c.members_of-members.ensures ∙ ap (λ l. members_at (lists_of l) c.args.set) c.as_slice.ensures.value in
    subst (λ l. length l ≤ 12289) (sym members) (c.requires.sets.short c.args.set c.requires.set)

pub enter-requires-clause-known : goal.enter-requires-clause-known
enter-requires-clause-known c =
    nexts_within (positions_of c.args.positions.now) c.args.c c.members_of-members.result.now c.as_slice-2.result.now c.requires.within
    (c.as_slice-2.ensures.value ∙ c.find_nexts.ensures)

pub returns-clause-sets : goal.returns-clause-sets
returns-clause-sets c =
    let ps = positions_of c.args.positions.now in
    let old = lists_of c.args.self.now.sets.items in
    let new = lists_of c.number_of.new.sets.items in
    on_ok c.number_of.result (IsNumbered c.numbers-2.result.now old new) (AreSets ps new)
    (λ t is. numbered_sets ps c.numbers-2.result.now old new t c.requires.sets
    (subst (λ l. IsClosed ps l) (sym c.numbers-2.ensures.value) c.enter.ensures.closed) c.numbers-2.ensures.within is)
    c.number_of.ensures

pub returns-clause-target : goal.returns-clause-target
returns-clause-target c =
    let ps = positions_of c.args.positions.now in
    let old = lists_of c.args.self.now.sets.items in
    let new = lists_of c.number_of.new.sets.items in
    let from = members_at old c.args.set in
    let members : c.members_of-members.result.now ≡ from =
    c.members_of-members.ensures ∙ ap (λ l. members_at (lists_of l) c.args.set) c.as_slice.ensures.value in
    let steps : StepsTo ps c.args.c from c.enter.new.reached =
    step_is ps c.args.c from c.as_slice-2.result.now c.enter.new.reached (c.requires.sets.closed c.args.set c.requires.set)
    (c.as_slice-2.ensures.value ∙ c.find_nexts.ensures ∙ ap (nexts ps c.args.c) members) c.enter.ensures.same in
    if_ok c.number_of.result (IsNumbered c.numbers-2.result.now old new) (HasTarget ps new from c.args.c)
    (λ t is. numbered_target ps c.numbers-2.result.now old new t c.args.c from
    (subst (StepsTo ps c.args.c from) (sym c.numbers-2.ensures.value) steps) is)
    c.number_of.ensures
