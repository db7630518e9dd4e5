use Rattle.std.proofs.Common.{◌≤◌, ℕ, refl, arith}
use Rattle.xsd_automaton.specs.plain.Sets.{members_at, no_target, HasTarget}
use Rattle.xsd_positions.specs.views.Positions.{positions_of}
use Rattle.xsd_automaton.specs.views.Sets.{sets_of}
use Rattle.xsd_automaton.proofs.AlikeChars.{target_alike}
use Rattle.xsd_automaton.proofs.GrownSets.{if_ok, longer_self}
use Rattle.xsd_automaton.proofs.found_sets.FoundSets.past_target.Goals as goal

pub returns-then-not-are_alike-clause-longer : goal.returns-then-not-are_alike-clause-longer
returns-then-not-are_alike-clause-longer c = longer_self (sets_of c.args.self.now)

pub returns-then-not-are_alike-clause-target : goal.returns-then-not-are_alike-clause-target
returns-then-not-are_alike-clause-target c d past = no_target refl

pub returns-clause-target : goal.returns-clause-target
returns-clause-target c =
    let ps = positions_of c.args.positions.now in
    let from = members_at (sets_of c.args.self.now) c.args.set in
    let new = sets_of c.target.new.self in
    if_ok c.target.result (HasTarget ps new from 128) (λ t. (d : ℕ) → 128 ≤ d → HasTarget ps new from d t)
    (λ t has d past. target_alike ps d 128 (c.requires.alike c.if-not-are_alike.false d 128 past (omega arith)) new from t
    (c.requires.sets.closed c.args.set c.requires.set) has)
    c.target.ensures.target
