use Rattle.std.proofs.Common.{◌∙◌, ◌++◌, ◌∷◌, [], map, subst, sym, ap, drop, ◌+◌, refl}
use Rattle.std.proofs.lemmas.List.{drop_all}
use Rattle.rng_model.specs.datatypes.DatatypeViews.{parameter_of}
use Rattle.xsd_patterns.proofs.Collected.{ArePending, pending_past, pending_with, none_written, none_pending, rest_with, found_none, found_one}
use Rattle.xsd_patterns.proofs.patterns.Patterns.compile.Goals as goal
use Rattle.xsd_patterns.proofs.patterns.Patterns.compile.Goals.{then-is_pattern+in_ok-pattern+in-Some+in_ok-push, else-is_pattern}

pub returns-in_default : goal.returns-in_default
returns-in_default c =
    let params = c.args.params.now in
    let i = c.loop-param.param-index in
    let all = map parameter_of params in
    let rest = map parameter_of (drop (i + 1) params) in
    let param = c.param-item.result in
    let texts = c.loop-param.expressions.items in
    let next = rest_with parameter_of params i param c.loop-param-test.true c.param-item.is in
    none_written all (parameter_of param) rest texts (sym c.is_pattern.ensures ∙ c.if-is_pattern.true)
    (found_none c.in_ok-pattern.field-0 c.as_str.result.now (parameter_of param).1 c.in_default.is c.as_str.ensures.value c.in_ok-pattern.ensures)
    (subst (λ ps. ArePending all ps texts) next c.loop-param.invariant)

pub loop-param-preserved : goal.loop-param-preserved
loop-param-preserved c =
    let params = c.args.params.now in
    let i = c.loop-param.param-index in
    let all = map parameter_of params in
    let rest = map parameter_of (drop (i + 1) params) in
    let param = c.param-item.result in
    let texts = c.loop-param.expressions.items in
    let next = rest_with parameter_of params i param c.loop-param-test.true c.param-item.is in
    let so_far = subst (λ ps. ArePending all ps texts) next c.loop-param.invariant in
    elim c.if-is_pattern.branch [
      | then-is_pattern+in_ok-pattern+in-Some+in_ok-push w ↦
          let found = found_one w.in_ok-pattern.field-0 w.in-Some.pattern w.as_str.result.now (parameter_of param).1 w.in-Some.is w.as_str.ensures.value
          w.in_ok-pattern.ensures in
          let pushed = pending_with all (parameter_of param) rest texts found.1 (sym c.is_pattern.ensures ∙ w.if-is_pattern.true) found.2 so_far in
          let grown = ap (λ v. v.items) w.expressions-is ∙ w.in_ok-push.ensures.items ∙ ap (λ t. texts ++ t ∷ []) found.0 in
          subst (ArePending all rest) (sym grown) pushed
      | else-is_pattern w ↦
          subst (λ v. ArePending all rest v.items) (sym w.expressions-is)
          (pending_past all (parameter_of param) rest texts (sym c.is_pattern.ensures ∙ w.if-is_pattern.false) so_far)
    ]

pub returns : goal.returns
returns c =
    let params = c.args.params.now in
    let all = map parameter_of params in
    let texts = c.loop-param.expressions.items in
    let none_left = ap (map parameter_of) (drop_all c.loop-param.param-index params c.loop-param-test.false) in
    (refl, none_pending all texts (subst (λ ps. ArePending all ps texts) none_left c.loop-param.invariant))
