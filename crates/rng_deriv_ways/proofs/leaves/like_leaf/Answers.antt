use Rattle.std.proofs.Common.{◌≡◌, ◌∙◌, inr, Some, ap, slice_get, subst, sym}
use Rattle.std.proofs.lemmas.Option.{slice_get-get_or}
use Rattle.std.proofs.lemmas.Result.{IfOk-weaker as if_ok}
use Rattle.rng_model.specs.declared.simple.ElementId.{ElementId}
use Rattle.rng_deriv_ways.specs.plain.Takers.{AreCandidates}
use Rattle.rng_deriv_ways.proofs.PatternNodes.{is_over}
use Rattle.rng_deriv_ways.proofs.leaves.like_leaf.Goals as goal

pub returns-in-Some-clause-leaf : goal.returns-in-Some-clause-leaf
returns-in-Some-clause-leaf c =
    let ns = c.args.table.now in
    let e = c.in-Element.element.0 in
    let first : ElementId = c.in-Some.first.now in
    let look = c.in-Some.ensures.lookup in
    let found : slice_get c.in-Elements.alike.now e ≡ Some first = slice_get-get_or c.in-Elements.alike.now e first look.3.0 ∙ ap Some (sym look.1) in
    if_ok c.element.result _ _ (λ leaf adds t kind among. record {
      inside = adds.inside;
      like = inr (
        e,
        first.0,
        is_over t ns c.args.number.0 c.pattern.result.now _ c.pattern.ensures.table c.pattern.ensures.found c.in-Element.is,
        adds.is t,
        (subst (AreCandidates t ns kind) c.in-Elements.is among).1 e first found,
      );
    }) c.element.ensures.tree
