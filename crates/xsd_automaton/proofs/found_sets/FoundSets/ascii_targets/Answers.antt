use Rattle.std.proofs.Common.{◌≡◌, ◌∙◌, ◌<◌, ◌+◌, ◌-◌, ℕ, length-set, sym, subst, arith}
use Rattle.xsd_automaton.specs.plain.Sets.{members_at, AreAlike, HasTarget, AreSets, IsLonger}
use Rattle.xsd_positions.specs.views.Positions.{positions_of}
use Rattle.xsd_automaton.specs.views.Sets.{sets_of}
use Rattle.xsd_automaton.proofs.AlikeChars.{target_alike}
use Rattle.xsd_automaton.proofs.GrownSets.{longer_self, longer_trans, longer_targets, more_targets}
use Rattle.xsd_automaton.proofs.found_sets.FoundSets.ascii_targets.Goals as goal
use Rattle.xsd_automaton.proofs.found_sets.FoundSets.ascii_targets.Goals.{then-not-alike-from+in_ok-target, else-not-alike-from}

pub loop-c-preserved : goal.loop-c-preserved
loop-c-preserved c =
    let ps = positions_of c.args.positions.now in
    let from = members_at (sets_of c.args.self.now) c.args.set in
    let at : ℕ = c.loop-c.c in
    let old = sets_of c.loop-c.self in
    let new = sets_of c.if-not-alike-from.self in
    let t : ℕ = c.if-not-alike-from.target in
    let facts : AreSets ps new × IsLonger old new × HasTarget ps new from at t =
    elim c.if-not-alike-from.branch [
      | then-not-alike-from+in_ok-target w ↦
          let self = sym w.self-is in
          let found : HasTarget ps (sets_of w.target.new.self) (members_at old c.args.set) w.from-then-not-alike-from.result w.in_ok-target.target =
          w.in_ok-target.ensures.target in
          let here = subst (λ n. HasTarget ps (sets_of w.target.new.self) (members_at old c.args.set) n w.in_ok-target.target)
          w.from-then-not-alike-from.ensures found in
          let ours = subst (λ l. HasTarget ps (sets_of w.target.new.self) l at w.in_ok-target.target)
          (c.loop-c.invariant.longer.same c.args.set c.requires.set) here in (
            subst (λ x. AreSets ps (sets_of x)) self w.in_ok-target.ensures.sets,
            subst (λ x. IsLonger old (sets_of x)) self w.in_ok-target.ensures.longer,
            subst (λ x. HasTarget ps (sets_of x) from at t) self
                (subst (HasTarget ps (sets_of w.target.new.self) from at) (sym w.target-is) ours),
          )
      | else-not-alike-from w ↦
          let self = sym w.self-is in
          let alike = subst (λ n. AreAlike ps n (n - 1)) c.from.ensures (c.requires.alike c.from.result w.if-not-alike-from.false) in
          let ours : HasTarget ps old from at c.loop-c.target =
          target_alike ps at (at - 1) alike old from c.loop-c.target (c.requires.sets.closed c.args.set c.requires.set) c.loop-c.invariant.target in (
            subst (λ x. AreSets ps (sets_of x)) self c.loop-c.invariant.sets,
            subst (λ x. IsLonger old (sets_of x)) self (longer_self old),
            subst (λ x. HasTarget ps (sets_of x) from at t) self (subst (HasTarget ps old from at) (sym w.target-is) ours),
          )
    ] in
    let many = c.loop-c.invariant.as_many in
    let within : at < 128 = c.loop-c-test.true in
    let same : at ≡ at + 1 - 1 = omega arith in
    record {
      as_many = length-set c.loop-c.targets c.from-in-loop-c.result t ∙ many;
      sets = facts.0;
      longer = longer_trans (sets_of c.args.self.now) old new c.loop-c.invariant.longer facts.1;
      target = subst (λ n. HasTarget ps new from n t) same facts.2;
      targets =
          more_targets ps from c.loop-c.targets at t new c.from-in-loop-c.result c.from-in-loop-c.ensures (omega (arith, within, many))
          (longer_targets ps from c.loop-c.targets at t old new facts.1 c.loop-c.invariant.targets) facts.2;
    }
