use Rattle.std.proofs.Common.{◌≡◌, ◌∙◌, List, ap, refl, subst, sym, take}
use Rattle.std.specs.List.{remove}
use Rattle.rng_deriv_laws.specs.plain.Taking.{Takes}
use Rattle.rng_deriv_table.specs.views.Choices.{SomeTakes}
use Rattle.rng_deriv_table.specs.views.Trees.{tree_of}
use Rattle.rng_deriv_table.specs.declared.pattern.PatternNumber.{PatternNumber}
use Rattle.rng_deriv_table.proofs.WiderParts.{first_left, second_left}
use Rattle.rng_deriv_table.proofs.pattern_table.PatternTable.remove_one_of_two.Goals as goal

pub returns-then-is_covered-clause-takes : goal.returns-then-is_covered-clause-takes
returns-then-is_covered-clause-takes c = λ t g xs is d.
    let tree = tree_of t c.args.self.now in
    let both : List PatternNumber = c.as_slice.result.now in
    let same : both ≡ c.args.alternatives.now.items = c.as_slice.ensures.value in
    subst (λ ms. SomeTakes g tree ms xs is) (sym (c.truncate.ensures.items ∙ ap (take 1) (sym same)))
    (first_left (λ m. Takes g (tree m.0) xs is) _ _ both c.in-len2.len_at_least c.in-len2.len_below (c.if-is_covered.ensures refl t g xs is)
    (subst (λ ms. SomeTakes g tree ms xs is) (sym same) d))

pub returns-then-is_covered-2-clause-takes : goal.returns-then-is_covered-2-clause-takes
returns-then-is_covered-2-clause-takes c = λ t g xs is d.
    let tree = tree_of t c.args.self.now in
    let both : List PatternNumber = c.as_slice.result.now in
    let same : both ≡ c.args.alternatives.now.items = c.as_slice.ensures.value in
    subst (λ ms. SomeTakes g tree ms xs is) (sym (c.remove.ensures.items ∙ ap (λ ms. remove ms 0) (sym same)))
    (second_left (λ m. Takes g (tree m.0) xs is) _ _ both c.in-len2.len_at_least c.in-len2.len_below (c.if-is_covered-2.ensures refl t g xs is)
    (subst (λ ms. SomeTakes g tree ms xs is) (sym same) d))
