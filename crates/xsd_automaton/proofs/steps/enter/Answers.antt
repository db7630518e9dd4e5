use Rattle.std.proofs.Common.{◌∙◌, ◌<◌, ℕ, List, [], length, get_or, ap, subst, inl, inr, arith}
use Rattle.std.proofs.lemmas.Option.{slice_get-get_or}
use Rattle.xsd_regex.specs.plain.StateTable.{Has}
use Rattle.xsd_automaton.specs.plain.Closures.{with_all}
use Rattle.xsd_positions.specs.views.Positions.{positions_of}
use Rattle.xsd_automaton.proofs.Added.{all_only}
use Rattle.xsd_automaton.proofs.WorkList.{has_at}
use Rattle.xsd_automaton.proofs.ReadTexts.{entered}
use Rattle.xsd_automaton.proofs.steps.enter.Goals as goal

has_get : (is : List ℕ) (k d : ℕ) → k < length is → Has is (get_or is k d)
has_get is k d lt = has_at is k (get_or is k d) (slice_get-get_or is k d lt)

pub add_all-requires : goal.add_all-requires
add_all-requires c k d lt =
    let most = c.requires.known (get_or c.args.numbers.now k d) (has_get c.args.numbers.now k d lt) in
    let room = c.requires.room in omega (arith, most, room)

pub close-requires-clause-known : goal.close-requires-clause-known
close-requires-clause-known c i h =
    elim (all_only [] c.args.numbers.now i
    (subst (λ l. Has l i) (c.add_all.ensures ∙ ap (λ l. with_all l c.args.numbers.now) c.clear.ensures) h))
    [ inl a ↦ absurd a | inr b ↦ c.requires.known i b ]

pub returns-clause-same : goal.returns-clause-same
returns-clause-same c =
    entered (positions_of c.args.positions.now) c.args.numbers.now c.add_all.new.reached c.close.new.reached
    (c.add_all.ensures ∙ ap (λ l. with_all l c.args.numbers.now) c.clear.ensures) c.close.ensures.more c.close.ensures.no_more
