use Rattle.std.proofs.Common.{◌≡◌, ◌↔◌, ◌<◌, All, false, true, get_or, length, List, subst, sym}
use Rattle.rng_model.specs.names.NameViews.{name_of}
use Rattle.rng_deriv_table.specs.views.Node.{node_of}
use Rattle.rng_deriv_table.specs.views.PatternTable.{ArePartsBelow}
use Rattle.rng_deriv_table.specs.views.Trees.{tree_over}
use Rattle.rng_deriv_table.specs.declared.pattern.Pattern.{Pattern}
use Rattle.rng_deriv_table.specs.declared.pattern.PatternNumber.{PatternNumber}
use Rattle.rng_deriv_table.proofs.KnownFacts.{of_members}
use Rattle.rng_expected.specs.Tags.{Needs}
use Rattle.rng_expected.proofs.NeededNames.{members_tested}
use Rattle.rng_expected.proofs.needs.needs.Goals as goal

pub all_need-requires : goal.all_need-requires
all_need-requires c =
    let l = length c.args.tests.now in
    let parts = subst (λ (p : Pattern). ArePartsBelow l (node_of p)) c.in-Choice.is c.requires.parts in
    subst (All (λ (m : PatternNumber). m.0 < l)) (sym c.as_slice.ensures.value) (of_members (λ m. m < l) c.in-Choice.members.items parts.1)

pub returns-in-Choice : goal.returns-in-Choice
returns-in-Choice c = λ of each.
    let l = length c.args.tests.now in
    let n = name_of c.args.name.now in
    let ms = c.in-Choice.members.items in
    let parts = subst (λ (p : Pattern). ArePartsBelow l (node_of p)) c.in-Choice.is c.requires.parts in
    let Tells : List PatternNumber → Type 0 = λ ms. (c.all_need.result ≡ true) ↔ All (λ (m : PatternNumber). get_or c.args.tests.now m.0 false ≡ true) ms in
    let told = subst Tells c.as_slice.ensures.value c.all_need.ensures in
    let tested = members_tested n of c.args.tests.now each ms (of_members (λ m. m < l) ms parts.1) in
    subst (λ (p : Pattern). (c.all_need.result ≡ true) ↔ Needs n (tree_over c.args.grammar.now of (node_of p))) (sym c.in-Choice.is)
    (λ e. tested.0 (told.0 e), λ h. told.1 (tested.1 h))
