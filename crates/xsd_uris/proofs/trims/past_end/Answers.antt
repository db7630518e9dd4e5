use Rattle.std.proofs.Common.{◌≡◌, ◌∷◌, [], true, false, ap, sym, ◌∙◌, rules}
use Rattle.rng_model.specs.datatypes.Texts.{is_blank_byte, is_blank}
use Rattle.xsd_uris.specs.plain.TrimmedTexts.{past_end}
use Rattle.xsd_uris.proofs.EndsOfTexts.{past_end-blanks, past_end-last}
use Rattle.xsd_uris.proofs.trims.past_end.Goals as goal

pub blanks-preserved : goal.blanks-preserved
blanks-preserved c =
    let last = c.in-Some.last.now in
    let blank : is_blank (last ∷ []) ≡ true = search rules in
    sym (ap past_end c.in-Some.ensures.cases.0 ∙ past_end-blanks c.in-Some.front.now (last ∷ []) blank) ∙ c.blanks.invariant

pub returns-then-not-is_blank_byte : goal.returns-then-not-is_blank_byte
returns-then-not-is_blank_byte c =
    let last = c.in-Some.last.now in
    let other : is_blank_byte last ≡ false = search rules in
    c.in-Some.ensures.cases.0
    ∙ sym (past_end-last c.in-Some.front.now last other)
    ∙ ap past_end (sym c.in-Some.ensures.cases.0)
    ∙ c.blanks.invariant
