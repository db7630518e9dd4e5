use Rattle.std.proofs.Common.{◌≡◌, ◌==◌, length, map, sym, ◌∙◌, ap, arith}
use Rattle.rng_model.proofs.ChoiceViews.{choice_is}
use Rattle.rng_model.specs.names.Names.{some_of}
use Rattle.rng_model.specs.names.NameViews.{class_of}
use Rattle.rng_rules.specs.plain.Facts.{has_wildcard}
use Rattle.rng_rules.proofs.WildcardsInChoices.{wildcard_here, wildcard_nowhere}
use Rattle.rng_rules.proofs.wildcard.+has_wildcard.Goals as goal

pub returns-then-has_wildcard : goal.returns-then-has_wildcard
returns-then-has_wildcard t c =
    let xs = c.deref-member-items.result.now in
    let whole : class_of c.args.class.now ≡ some_of (map class_of xs) = choice_is _ _ xs c.in-Choice.is c.deref-member-items.ensures.value in
    let found =
    wildcard_here class_of xs c.members.member-index c.member-item.result c.members-test.true c.member-item.is
    (sym c.has_wildcard.ensures ∙ c.if-has_wildcard.true) in
    sym (ap has_wildcard whole ∙ found)

pub returns-after-members : goal.returns-after-members
returns-after-members t c =
    let xs = c.deref-member-items.result.now in
    let whole : class_of c.args.class.now ≡ some_of (map class_of xs) = choice_is _ _ xs c.in-Choice.is c.deref-member-items.ensures.value in
    let none = wildcard_nowhere class_of xs c.members.member-index (omega (arith, c.members-test.false)) c.members.invariant in
    let empty : c.is_empty.result ≡ (length xs == 0) = c.is_empty.ensures ∙ ap (λ n. n == 0) (sym c.deref-member-items.ensures.len) in
    empty ∙ none ∙ sym (ap has_wildcard whole)
