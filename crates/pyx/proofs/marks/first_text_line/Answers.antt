use Rattle.std.proofs.Common.{◌≡◌, ◌-◌, arith, ap, take, ◌∙◌, length}
use Rattle.std.proofs.lemmas.Str.{IsCharBoundary-after_ascii}
use Rattle.pyx.proofs.Lines.TextCuts.{cut_here, mark_low}
use Rattle.pyx.proofs.Lines.ByteMasks.{none_in_front}
use Rattle.pyx.proofs.marks.first_text_line.Goals as goal

pub range_from-requires : goal.range_from-requires
range_from-requires c = λ positive. IsCharBoundary-after_ascii c.args.text.now c.in-Some.at c.utf8.text
    (omega (arith, c.in-Some.ensures.end.0.high, ap length c.as_bytes.ensures.value))
    (mark_low 10 c.as_bytes.result.now c.args.text.now c.in-Some.at c.as_bytes.ensures.value c.in-Some.ensures.end.1 (omega arith))

pub returns-in-Some-clause-parts : goal.returns-in-Some-clause-parts
returns-in-Some-clause-parts c =
    let n : c.in-Some.at - 0 ≡ c.in-Some.at = omega arith in
    cut_here 10 c.as_bytes.result.now c.args.text.now c.range.result.now c.range_from.result.now c.in-Some.at
    c.as_bytes.ensures.value c.in-Some.ensures.end.0 c.in-Some.ensures.end.1 (c.range.ensures.value ∙ ap (λ n. take n c.args.text.now) n)
    c.range_from.ensures.value

pub returns-in-Some-clause-literal : goal.returns-in-Some-clause-literal
returns-in-Some-clause-literal c set =
    let n : c.in-Some.at - 0 ≡ c.in-Some.at = omega arith in
    none_in_front 92 c.as_bytes.result.now c.args.text.now c.range.result.now c.in-Some.at c.as_bytes.ensures.value (c.in-Some.ensures.literal set)
    (c.range.ensures.value ∙ ap (λ n. take n c.args.text.now) n)
