use Rattle.std.proofs.Common.{List, All, map, subst, sym}
use Rattle.rng_model.specs.documents.EventViews.{attribute_of}
use Rattle.rng_model.specs.matching.GrammarMatching.{reading_of}
use Rattle.rng_deriv_laws.specs.plain.Restricted.{IsRestricted}
use Rattle.rng_deriv_table.specs.views.Choices.{SomeTakes}
use Rattle.rng_deriv_table.specs.views.Trees.{tree_of, trees}
use Rattle.rng_deriv_table.specs.declared.pattern.PatternNumber.{PatternNumber}
use Rattle.rng_reasons.specs.TagFaults.{IsTagFault}
use Rattle.rng_reasons.specs.TagReasons.{OneTakes}
use Rattle.rng_reasons.proofs.TagReasons.{fault_either, one_of_numbers}
use Rattle.rng_reasons.proofs.reasons.fault_of.Goals as goal

pub tag_fault-requires-clause-restricted : goal.tag_fault-requires-clause-restricted
tag_fault-requires-clause-restricted c =
    subst (All (λ (b : PatternNumber). IsRestricted (tree_of c.args.context.now.grammar.now c.args.table.now b.0))) (sym c.as_slice.ensures.value)
    (c.in_ok-bodies.ensures.restricted c.requires.restricted)

pub returns-clause-fault : goal.returns-clause-fault
returns-clause-fault c =
    let t = c.args.context.now.grammar.now in
    let g = reading_of t in
    let old = tree_of t c.args.table.now in
    let new = trees t c.tag_fault.new.table in
    let xs = map attribute_of c.args.tag.now.attrs.now in
    let numbers = c.in_ok-bodies.bodies.items in
    let fault = c.in_ok-fault.fault in
    let bodies = map (λ (b : PatternNumber). old b.0) numbers in
    let Fault : List PatternNumber → Type 0 = λ ms. IsTagFault (SomeTakes g old ms) g new xs fault in
    record {
      bodies = bodies;
      are = c.in_ok-bodies.ensures.bodies;
      is = fault_either (SomeTakes g old numbers) (OneTakes g bodies) (one_of_numbers g old numbers) g new xs fault
          (subst Fault c.as_slice.ensures.value c.in_ok-fault.ensures.fault);
    }
