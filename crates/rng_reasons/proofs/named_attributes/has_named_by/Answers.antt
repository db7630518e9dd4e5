use Rattle.std.proofs.Common.{◌∙◌, ◌<◌, All, false, get_or, length, subst, sym, ap}
use Rattle.std.specs.List.{list_any}
use Rattle.rng_model.specs.names.NameViews.{name_of}
use Rattle.rng_deriv_table.specs.views.Node.{node_of}
use Rattle.rng_deriv_table.specs.views.PatternTable.{ArePartsBelow}
use Rattle.rng_deriv_table.specs.views.Trees.{tree_over}
use Rattle.rng_deriv_table.specs.declared.pattern.Pattern.{Pattern}
use Rattle.rng_deriv_table.specs.declared.pattern.PatternNumber.{PatternNumber}
use Rattle.rng_deriv_table.proofs.KnownFacts.{of_members}
use Rattle.rng_reasons.specs.NamedAttributes.{has_named}
use Rattle.rng_reasons.proofs.NamesInPatterns.{members_tested}
use Rattle.rng_reasons.proofs.named_attributes.has_named_by.Goals as goal

pub some_pass-requires : goal.some_pass-requires
some_pass-requires c =
    let l = length c.args.tests.now in
    let parts = subst (λ (p : Pattern). ArePartsBelow l (node_of p)) c.in-Choice.is c.requires in
    subst (All (λ (m : PatternNumber). m.0 < l)) (sym c.as_slice.ensures.value) (of_members (λ m. m < l) c.in-Choice.members.items parts.1)

pub returns-in-Choice : goal.returns-in-Choice
returns-in-Choice c = λ of are.
    let q = name_of c.args.name.now in
    let tests = c.args.tests.now in
    let l = length tests in
    let ms = c.in-Choice.members.items in
    let parts = subst (λ (p : Pattern). ArePartsBelow l (node_of p)) c.in-Choice.is c.requires in
    c.some_pass.ensures ∙ ap (list_any (λ (m : PatternNumber). get_or tests m.0 false)) c.as_slice.ensures.value
    ∙ members_tested q of tests are ms (of_members (λ m. m < l) ms parts.1)
    ∙ ap (λ (p : Pattern). has_named q (tree_over c.args.grammar.now of (node_of p))) (sym c.in-Choice.is)
