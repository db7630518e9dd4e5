use Rattle.std.proofs.Common.{◌≡◌, ◌∙◌, ◌+◌, [], ◌∷◌, ap, arith, length, length-append, rules, subst, sym}
use Rattle.rng_deriv_table.specs.declared.pattern.Span.{Span}
use Rattle.rng_deriv_ways.specs.plain.Takers.{AreSpansOf}
use Rattle.rng_deriv_ways.proofs.AttributeTakers.{span_added}
use Rattle.rng_deriv_ways.proofs.spans.add_spans.Goals as goal

pub patterns-init : goal.patterns-init
patterns-init c = record { count = search rules; spans = λ t all. all }

pub span_of-span-requires-clause-all : goal.span_of-span-requires-clause-all
span_of-span-requires-clause-all c = ap length c.as_slice.ensures.value ∙ c.patterns.invariant.count

pub patterns-preserved : goal.patterns-preserved
patterns-preserved c =
    let ns = c.args.table.now in
    let old = c.patterns.spans.items in
    let span : Span = c.span_of-span.result in
    let long = length-append old (span ∷ []) in
    let count = c.patterns.invariant.count in
    let new = sym c.in_ok-push.ensures.items in record {
      count = subst (λ xs. length xs ≡ c.patterns.number + 1) new (omega (arith, long, count));
      spans = λ t all.
          let before = c.patterns.invariant.spans t all in
          subst (AreSpansOf t ns) new (span_added t ns old c.patterns.number span (search rules) (sym count) before
          (c.span_of-span.ensures t (subst (AreSpansOf t ns) (sym c.as_slice.ensures.value) before)));
    }

pub returns : goal.returns
returns c = λ t all. c.patterns.invariant.spans t all
