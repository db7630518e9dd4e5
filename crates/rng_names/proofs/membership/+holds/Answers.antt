use Rattle.std.proofs.Common.{◌≡◌, map, sym, ◌∙◌, ap, arith}
use Rattle.rng_model.proofs.ChoiceViews.{choice_is}
use Rattle.rng_model.specs.names.Names.{some_of}
use Rattle.rng_model.specs.names.NameViews.{class_of}
use Rattle.rng_names.specs.plain.Holding.{holds, pair}
use Rattle.rng_names.proofs.ClassChoices.{holds-members, any_here, none_before}
use Rattle.rng_names.proofs.membership.+holds.Goals as goal

pub returns-then-holds : goal.returns-then-holds
returns-then-holds t c =
    let q = pair c.args.ns.now c.args.local.now in
    let xs = c.deref-member-items.result.now in
    let whole : class_of c.args.class.now ≡ some_of (map class_of xs) = choice_is _ _ xs c.in-Choice.is c.deref-member-items.ensures.value in
    let found =
    any_here (λ x. holds (class_of x) q) xs c.members.member-index c.member-item.result c.members-test.true c.member-item.is
    (sym c.holds-in-members.ensures ∙ c.if-holds.true) in
    sym (ap (λ k. holds k q) whole ∙ holds-members class_of xs q ∙ found)

pub returns-after-members : goal.returns-after-members
returns-after-members t c =
    let q = pair c.args.ns.now c.args.local.now in
    let xs = c.deref-member-items.result.now in
    let whole : class_of c.args.class.now ≡ some_of (map class_of xs) = choice_is _ _ xs c.in-Choice.is c.deref-member-items.ensures.value in
    let none = none_before (λ x. holds (class_of x) q) xs c.members.member-index (omega (arith, c.members-test.false)) c.members.invariant in
    sym (ap (λ k. holds k q) whole ∙ holds-members class_of xs q ∙ none)
