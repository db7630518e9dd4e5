use Rattle.std.proofs.Common.{◌≡◌, ◌∙◌, ap, arith, length, slice_get, sym, None, Some, subst}
use Rattle.rng_labels.specs.plain.LabelCodes.{codes_of}
use Rattle.rnc_print.specs.plain.PatternCodes.{number_at, pattern_code}
use Rattle.rnc_print.proofs.TreeNumbers.{all_numbered, more_numbered}
use Rattle.rnc_print.proofs.tree_numbers.tree_numbers.Goals as goal

pub patterns-preserved : goal.patterns-preserved
patterns-preserved c =
    let t = c.args.grammar.now in
    let numbers = c.patterns.numbers.items in
    let row = c.in-Some.pattern.now in
    let at : c.len.result ≡ length numbers = omega (arith, c.len.ensures, c.patterns.numbers.ok.0) in
    let code = c.in_ok-code.ensures ∙ ap (λ ns. pattern_code (number_at ns) row) c.as_slice.ensures.value in
    more_numbered t c.requires numbers c.push.new.self.items (codes_of c.patterns.codes) (codes_of c.number_of_code.new.codes) row c.in_ok-number.number
    c.patterns.invariant (subst (λ n. slice_get t.patterns n ≡ Some row) at (sym c.in-Some.ensures.value)) c.in_ok-push.ensures.items
    c.in_ok-number.ensures.apart c.in_ok-number.ensures.stays (c.in_ok-number.ensures.there ∙ ap (λ x. Some x) code)

pub returns : goal.returns
returns c =
    let t = c.args.grammar.now in
    let numbers = c.patterns.numbers.items in
    let at : c.len.result ≡ length numbers = omega (arith, c.len.ensures, c.patterns.numbers.ok.0) in
    all_numbered t c.requires numbers (codes_of c.patterns.codes) c.patterns.invariant
    (subst (λ n. slice_get t.patterns n ≡ None) at (sym c.in_default.ensures.value))
