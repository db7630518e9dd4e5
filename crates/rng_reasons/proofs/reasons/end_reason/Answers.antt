use Rattle.std.proofs.Common.{◌∙◌, ◌==◌, ap, inr, length, map, sym}
use Rattle.std.proofs.lemmas.Bool.{not-false}
use Rattle.rng_model.specs.matching.GrammarMatching.{reading_of}
use Rattle.rng_model.specs.names.NameViews.{class_of}
use Rattle.rng_deriv_table.specs.views.Trees.{tree_of}
use Rattle.rng_deriv_table.specs.declared.pattern.PatternNumber.{PatternNumber}
use Rattle.rng_expected.specs.views.Next.{next_of}
use Rattle.rng_reasons.proofs.ToldReasons.{element_may_come, mapped_none, mapped_some, no_element_may_come, text_may_come}
use Rattle.rng_reasons.proofs.reasons.end_reason.Goals as goal

pub returns-then-is_empty : goal.returns-then-is_empty
returns-then-is_empty c =
    let t = c.args.context.now.grammar.now in
    let g = reading_of t in
    let left = c.args.left.now in
    let behind = c.in_ok-behind.behind in
    let items_are = ap (λ ns. length ns == 0) (sym c.as_slice.ensures.value) ∙ sym c.is_empty.ensures in (
      c.if-not-left.false,
      text_may_come g (map (λ (n : PatternNumber). tree_of t c.args.table.now n.0) left.in_place.now) (next_of c.in_ok-in_place.in_place)
          c.in_ok-in_place.ensures (not-false c.in_ok-in_place.in_place.text c.if-not-in_place.false),
      no_element_may_come g (map (λ (n : PatternNumber). tree_of t c.args.table.now n.0) left.behind.now) (next_of behind) c.in_ok-behind.ensures
          (mapped_none (λ c. class_of c.now) behind.elements.items (items_are ∙ c.if-is_empty.true)),
    )

pub returns : goal.returns
returns c =
    let t = c.args.context.now.grammar.now in
    let g = reading_of t in
    let left = c.args.left.now in
    let behind = c.in_ok-behind.behind in
    let items_are = ap (λ ns. length ns == 0) (sym c.as_slice.ensures.value) ∙ sym c.is_empty.ensures in
    let some = mapped_some (λ c. class_of c.now) behind.elements.items (items_are ∙ c.if-is_empty.false) in
    inr (
      text_may_come g (map (λ (n : PatternNumber). tree_of t c.args.table.now n.0) left.in_place.now) (next_of c.in_ok-in_place.in_place)
          c.in_ok-in_place.ensures (not-false c.in_ok-in_place.in_place.text c.if-not-in_place.false),
      element_may_come g (map (λ (n : PatternNumber). tree_of t c.args.table.now n.0) left.behind.now) (next_of behind) c.in_ok-behind.ensures some.0 some.1,
    )
