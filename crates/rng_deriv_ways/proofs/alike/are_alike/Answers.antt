use Rattle.std.proofs.Common.{rules, ◌≡◌, Some, slice_get, subst}
use Rattle.rng_model.specs.declared.name.NameClass.TheVariants as classes
use Rattle.rng_model.specs.declared.simple.PatternId.{PatternId}
use Rattle.rng_deriv_ways.proofs.LikeElements.{named_alike}
use Rattle.rng_deriv_ways.proofs.alike.are_alike.Goals as goal

pub returns : goal.returns
returns c =
    let t = c.args.grammar.now in
    let body : PatternId = c.in-Some.body in
    let same : PatternId = c.in-Some-named_element.same in
    let e : same ≡ body = search rules in
    λ named. named_alike t c.args.one.0 c.args.other.0 c.in-Some.first.now c.in-Some-named_element.second.now body c.in-Some.ensures
    (subst (λ (b : PatternId). slice_get t.elements c.args.other.0 ≡ Some (classes.Name c.in-Some-named_element.second.now, b)) e
    c.in-Some-named_element.ensures) (c.is_same_name.ensures.0 named)
