use Rattle.std.proofs.Common.{◌≡◌, ◌∙◌, Some, ap, false, slice_get, subst, sym, true}
use Rattle.std.proofs.lemmas.Bool.{not-true}
use Rattle.std.proofs.lemmas.Option.{slice_get-get_or}
use Rattle.rng_deriv_table.specs.views.Trees.{tree_of}
use Rattle.rng_deriv_ways.specs.plain.Takers.{AreCandidates}
use Rattle.rng_deriv_ways.proofs.AttributeTakers.{idle_attributes}
use Rattle.rng_deriv_ways.proofs.idle.is_idle.Goals as goal

pub returns-in-Elements : goal.returns-in-Elements
returns-in-Elements c = λ free t kind among.
    let ns = c.args.table.now in
    c.lacks.ensures free t ns kind (tree_of t ns c.args.number.0) among (λ e has. c.facts.ensures.elements t e has)

pub returns-in-Some : goal.returns-in-Some
returns-in-Some c = λ apart t kind among.
    let ns = c.args.table.now in
    let told = subst (AreCandidates t ns kind) c.in-Attributes.is among in
    let look = c.in-Some.ensures.lookup in
    let found : slice_get c.in-Attributes.spans.now c.args.number.0 ≡ Some c.in-Some.span.now =
    slice_get-get_or c.in-Attributes.spans.now c.args.number.0 c.in-Some.span.now look.3.0 ∙ ap Some (sym look.1) in
    let own = told.1 c.args.number.0 c.in-Some.span.now found in
    idle_attributes t ns (tree_of t ns c.args.number.0) kind c.in-Attributes.own c.in-Some.span.now told.0 own.1 (λ k within there.
    let met = c.may_meet.ensures k within there in
    let both : true ≡ false = sym met ∙ not-true _ apart in absurd (cc))
