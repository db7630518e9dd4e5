use Rattle.std.proofs.Common.{◌≡◌, map, sym, ◌∙◌, ap, arith}
use Rattle.rng_model.proofs.ChoiceViews.{choice_is}
use Rattle.rng_model.specs.names.Names.{some_of}
use Rattle.rng_model.specs.names.NameViews.{class_of}
use Rattle.rng_names.specs.plain.Written.{both_hold, is_met}
use Rattle.rng_names.proofs.ClassChoices.{met-members, any_here, none_before}
use Rattle.rng_names.proofs.common_name.+is_met.Goals as goal

pub returns-then-is_met-clause-test : goal.returns-then-is_met-clause-test
returns-then-is_met-clause-test t c =
    let test = both_hold (class_of c.args.a.now) (class_of c.args.b.now) in
    let fresh = c.args.fresh.now in
    let xs = c.deref-member-items.result.now in
    let whole : class_of c.args.written.now ≡ some_of (map class_of xs) = choice_is _ _ xs c.in-Choice.is c.deref-member-items.ensures.value in
    let found =
    any_here (λ x. is_met test fresh (class_of x)) xs c.members.member-index c.member-item.result c.members-test.true c.member-item.is
    (sym c.is_met-in-members.ensures.test ∙ c.if-is_met.true) in
    sym (ap (is_met test fresh) whole ∙ met-members class_of xs test fresh ∙ found)

pub returns-after-members-clause-test : goal.returns-after-members-clause-test
returns-after-members-clause-test t c =
    let test = both_hold (class_of c.args.a.now) (class_of c.args.b.now) in
    let fresh = c.args.fresh.now in
    let xs = c.deref-member-items.result.now in
    let whole : class_of c.args.written.now ≡ some_of (map class_of xs) = choice_is _ _ xs c.in-Choice.is c.deref-member-items.ensures.value in
    let none = none_before (λ x. is_met test fresh (class_of x)) xs c.members.member-index (omega (arith, c.members-test.false)) c.members.invariant in
    sym (ap (is_met test fresh) whole ∙ met-members class_of xs test fresh ∙ none)
