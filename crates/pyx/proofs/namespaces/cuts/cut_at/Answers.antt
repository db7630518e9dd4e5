use Rattle.std.proofs.Common.{◌≡◌, ◌-◌, arith, ap, length, take, ◌∙◌}
use Rattle.std.proofs.lemmas.Str.{IsCharBoundary-after_ascii}
use Rattle.pyx.proofs.Lines.TextCuts.{cut_here, cut_nowhere, mark_low}
use Rattle.pyx.proofs.namespaces.cuts.cut_at.Goals as goal

pub range_from-requires : goal.range_from-requires
range_from-requires c = λ positive. IsCharBoundary-after_ascii c.args.text.now c.in-Some.at c.utf8.text
    (omega (arith, c.in-Some.ensures.0.high, ap length c.as_bytes.ensures.value))
    (mark_low c.args.mark c.as_bytes.result.now c.args.text.now c.in-Some.at c.as_bytes.ensures.value c.in-Some.ensures.1 c.requires)

pub returns-in-Some : goal.returns-in-Some
returns-in-Some c =
    let n : c.in-Some.at - 0 ≡ c.in-Some.at = omega arith in
    cut_here c.args.mark c.as_bytes.result.now c.args.text.now c.range.result.now c.range_from.result.now c.in-Some.at
    c.as_bytes.ensures.value c.in-Some.ensures.0 c.in-Some.ensures.1 (c.range.ensures.value ∙ ap (λ n. take n c.args.text.now) n)
    c.range_from.ensures.value

pub returns-in-None : goal.returns-in-None
returns-in-None c = cut_nowhere c.args.mark c.as_bytes.result.now c.args.text.now c.as_bytes.ensures.value c.in-None.ensures
