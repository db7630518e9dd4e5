use Rattle.std.proofs.Common.{List, ◌<◌, length, subst, sym, ⊎_elim}
use Rattle.std.specs.List.{Contains}
use Rattle.std.proofs.lemmas.List.{take_all}
use Rattle.std.proofs.lemmas.List.Elements.{Contains-append_cases, Contains-get_or}
use Rattle.rng_deriv_laws.specs.plain.Taking.{Takes}
use Rattle.rng_deriv_table.specs.views.Choices.{SomeTakes}
use Rattle.rng_deriv_table.specs.views.Trees.{tree_of}
use Rattle.rng_deriv_table.specs.declared.pattern.PatternNumber.{PatternNumber}
use Rattle.rng_deriv_table.proofs.Choices.{all_within, only_one}
use Rattle.rng_deriv_table.proofs.WiderParts.{one_more}
use Rattle.rng_deriv_table.proofs.pattern_table.PatternTable.without_covered.Goals as goal

pub add_uncovered-requires-clause-inside : goal.add_uncovered-requires-clause-inside
add_uncovered-requires-clause-inside c =
    all_within (λ m. m.0 < length c.args.self.now) c.args.alternatives.now c.loop-alternative.left.items c.loop-alternative.invariant.within c.requires

pub loop-alternative-preserved : goal.loop-alternative-preserved
loop-alternative-preserved c =
    let ms = c.args.alternatives.now in
    let i = c.loop-alternative.alternative-index in
    let left = c.loop-alternative.left.items in
    record {
      within = λ m h. ⊎_elim (c.loop-alternative.invariant.within m)
          (λ k. subst (Contains ms) (only_one _ m k) (Contains-get_or ms i _ c.loop-alternative-test.true))
          (Contains-append_cases left _ m (c.in_ok-add_uncovered.ensures.within m h));
      takes = λ t g xs is d. c.in_ok-add_uncovered.ensures.takes t g xs is
          (one_more (λ m. Takes g (tree_of t c.args.self.now m.0) xs is) left ms i _ c.loop-alternative-test.true (c.loop-alternative.invariant.takes t g xs is) d);
    }

pub returns-clause-takes : goal.returns-clause-takes
returns-clause-takes c = λ t g xs is d.
    let Some : List PatternNumber → Type 0 = λ ms. SomeTakes g (tree_of t c.args.self.now) ms xs is in
    c.loop-alternative.invariant.takes t g xs is
    (subst Some (sym (take_all c.loop-alternative.alternative-index c.args.alternatives.now c.loop-alternative-test.false)) d)
