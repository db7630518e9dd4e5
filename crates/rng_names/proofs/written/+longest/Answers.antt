use Rattle.std.proofs.Common.{◌≡◌, map, ap, sym, ◌∙◌, arith}
use Rattle.std.proofs.lemmas.List.{take_all}
use Rattle.rng_model.proofs.ChoiceViews.{choice_is}
use Rattle.rng_model.specs.names.Names.{some_of}
use Rattle.rng_model.specs.names.NameViews.{class_of}
use Rattle.rng_names.specs.plain.Written.{longest}
use Rattle.rng_names.proofs.ClassChoices.{longest-members, longest_among}
use Rattle.rng_names.proofs.written.+longest.Goals as goal

pub returns-after-members : goal.returns-after-members
returns-after-members t c =
    let xs = c.deref-member-items.result.now in
    let whole : class_of c.args.class.now ≡ some_of (map class_of xs) = choice_is _ _ xs c.in-Choice.is c.deref-member-items.ensures.value in
    let all = take_all c.members.member-index xs (omega (arith, c.members-test.false)) in
    c.members.invariant ∙ ap (longest_among class_of 0) all ∙ sym (ap longest whole ∙ longest-members class_of xs)
