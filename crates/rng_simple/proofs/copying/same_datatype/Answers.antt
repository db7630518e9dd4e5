use Rattle.std.proofs.Common.{◌≡◌, ◌<◌, ◌++◌, ◌∷◌, [], ap, ap₂, sym, ◌∙◌, map, get_or, length, rules, arith}
use Rattle.std.proofs.lemmas.List.{map_push}
use Rattle.rng_model.proofs.Places.{one_more_mapped}
use Rattle.rng_model.specs.datatypes.DatatypeViews.{parameter_of}
use Rattle.rng_simple.proofs.copying.same_datatype.Goals as goal

pub parameters-preserved : goal.parameters-preserved
parameters-preserved c =
    let all = c.args.datatype.now.parameters.items in
    let i = c.parameters.name-index in
    let list = c.deref-name-items.ensures.value in
    let inside : i < length all = omega (arith, c.parameters-test.true, ap length list) in
    let item = c.parameters-item.is ∙ ap (λ xs. get_or xs i c.parameters-item.result) list in
    let same : parameter_of (c.in_ok-name.name, c.in_ok-value.value) ≡ parameter_of c.parameters-item.result = search rules in
    ap (map parameter_of) c.in_ok-push.ensures.items ∙ map_push parameter_of c.parameters.parameters.items (c.in_ok-name.name, c.in_ok-value.value)
    ∙ ap₂ (λ xs x. xs ++ x ∷ []) c.parameters.invariant same ∙ sym (one_more_mapped parameter_of all i c.parameters-item.result inside item)
