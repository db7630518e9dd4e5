use Rattle.std.proofs.Common.{◌↔◌, List, arith, subst}
use Rattle.std.proofs.lemmas.List.{take_all}
use Rattle.rng_deriv_laws.specs.plain.Taking.{Takes}
use Rattle.rng_deriv_table.specs.views.Choices.{SomeTakes}
use Rattle.rng_deriv_table.specs.views.Trees.{tree_of}
use Rattle.rng_deriv_table.specs.declared.pattern.PatternNumber.{PatternNumber}
use Rattle.rng_deriv_texts.proofs.JoinedRests.{next_joined}
use Rattle.rng_deriv_texts.proofs.joined_sides.joined.Goals as goal

pub members-preserved : goal.members-preserved
members-preserved c =
    let within = c.members-test.true in
    record {
      joined = next_joined c.args.table.now c.members.table c.joined.new.self c.args.members.now c.members.next (record { 0 = 0 }) c.members.whole
          c.in_ok-whole.whole within (c.requires.inside c.members.next (record { 0 = 0 }) within) c.members.invariant.joined
          c.in_ok-whole.ensures.longer c.in_ok-whole.ensures.inside c.in_ok-whole.ensures.matches c.in_ok-whole.ensures.restricted;
      within = omega (arith, within);
    }

pub returns-clause-matches : goal.returns-clause-matches
returns-clause-matches c =
    let end = c.members-test.false in
    let all = take_all c.members.next c.args.members.now (omega (arith, end)) in
    λ t g xs ns. subst (λ (ks : List PatternNumber). Takes g (tree_of t c.members.table c.members.whole.0) xs ns
    ↔ SomeTakes g (tree_of t c.args.table.now) ks xs ns) all (c.members.invariant.joined.matches t g xs ns)
