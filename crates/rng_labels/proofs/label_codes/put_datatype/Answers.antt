use Rattle.std.proofs.Common.{◌≡◌, ◌∷◌, ◌++◌, [], ap, sym, ◌∙◌, map, drop, ◌+◌}
use Rattle.std.proofs.lemmas.List.{drop_all, drop_more}
use Rattle.rng_model.specs.datatypes.DatatypeViews.{parameter_of}
use Rattle.rng_labels.specs.plain.LabelCodes.{parameters_code, part_of, text}
use Rattle.rng_labels.proofs.LabelCodes.{parameter_goes_on, parameters_end}
use Rattle.rng_labels.proofs.label_codes.put_datatype.Goals as goal

pub parameters-preserved : goal.parameters-preserved
parameters-preserved c =
    let all = c.args.datatype.now.parameters.items in
    let i = c.parameters.name-index in
    let same = c.deref-name-items.ensures.value in
    let next : drop i all ≡ c.parameters-item.result ∷ drop (i + 1) all =
    ap (drop i) (sym same) ∙ drop_more c.deref-name-items.result.now i c.parameters-item.result c.parameters-test.true
    ∙ ap (λ y. y ∷ drop (i + 1) c.deref-name-items.result.now) (sym c.parameters-item.is) ∙ ap (λ es. c.parameters-item.result ∷ drop (i + 1) es) same in
    parameter_goes_on (map part_of c.parameters.code.items) (map part_of c.put-in-parameters.new.code.items) (map part_of c.put-in-parameters-2.new.code.items)
    (parameter_of c.parameters-item.result) (map parameter_of (drop (i + 1) all)) (c.in_ok-put-3.ensures
    ∙ ap (λ s. map part_of c.parameters.code.items ++ text s ∷ []) c.as_str-in-parameters.ensures.value) (c.in_ok-put-4.ensures
    ∙ ap (λ s. map part_of c.put-in-parameters.new.code.items ++ text s ∷ []) c.as_str-in-parameters-2.ensures.value)
    ∙ ap (λ es. map part_of c.parameters.code.items ++ parameters_code (map parameter_of es)) (sym next) ∙ c.parameters.invariant

pub returns : goal.returns
returns c =
    let all = c.args.datatype.now.parameters.items in
    let now = map part_of c.parameters.code.items in
    let same = c.deref-name-items.ensures.value in
    sym (parameters_end now) ∙ ap (λ es. now ++ parameters_code (map parameter_of es))
    (sym (ap (drop c.parameters.name-index) (sym same) ∙ drop_all c.parameters.name-index c.deref-name-items.result.now c.parameters-test.false))
    ∙ c.parameters.invariant
