use Rattle.std.proofs.Common.{◌≡◌, false, true, get_or, refl}
use Rattle.rng_deriv_table.specs.declared.pattern.PatternNumber.{PatternNumber}
use Rattle.rng_expected.proofs.NeededNames.{all_of_first, one_more}
use Rattle.rng_expected.proofs.needs.all_need.Goals as goal

pub members-preserved : goal.members-preserved
members-preserved c =
    one_more (λ (m : PatternNumber). get_or c.args.tests.now m.0 false ≡ true) c.args.members.now c.members.member-index (record { 0 = 0 }) c.members-test.true
    c.members.invariant c.if-not-tests-member.false

pub returns : goal.returns
returns c = (
  λ e. all_of_first (λ (m : PatternNumber). get_or c.args.tests.now m.0 false ≡ true) c.args.members.now c.members.member-index c.members-test.false
      c.members.invariant,
  λ a. refl,
)
