use Rattle.std.proofs.Common.{◌≡◌, ◌∙◌, ◌<◌, ◌≤◌, ◌&&◌, ℕ, List, [], ◌∷◌, ◌++◌, take, get_or, length, refl, sym, ap, subst, true, arith}
use Rattle.std.specs.Str.{chars}
use Rattle.std.proofs.lemmas.List.{take_all, append_assoc, append-nil}
use Rattle.std.proofs.lemmas.List.Folds.{list_all_more}
use Rattle.std.proofs.lemmas.Str.{IsCharBoundary-before_ascii, IsUtf8-take}
use Rattle.rng_model.specs.plain.BlankRuns.{is_run_byte}
use Rattle.xsd_automaton.specs.plain.BegunChars.{AreBegun}
use Rattle.xsd_automaton.specs.views.Sets.{LeadsToSet}
use Rattle.xsd_automaton.proofs.BegunChars.{nothing_begun, text_begun, begun_more}
use Rattle.xsd_automaton.proofs.treated.run_end.Goals as goal

pub loop-len-init : goal.loop-len-init
loop-len-init c = record {
  run = refl;
  leads = λ ps begin table read cs begun h.
      subst (LeadsToSet ps begin c.args.rows.now table c.args.first) (sym (ap (λ l. read ++ l) (nothing_begun cs begun) ∙ append-nil read)) h;
}

pub loop-len-preserved : goal.loop-len-preserved
loop-len-preserved c =
    let text : List ℕ = c.args.text.now in
    let at : ℕ = c.loop-len.len in
    let within : at < length text = subst (λ s. at < length s) c.as_bytes-byte-items.ensures.value c.loop-len-test.true in
    let byte : get_or c.as_bytes-byte-items.result.now at 0 ≡ get_or text at 0 = ap (λ s. get_or s at 0) c.as_bytes-byte-items.ensures.value in
    let printed = c.is_printed.ensures.run c.if-not-is_printed.false in
    let run : is_run_byte (get_or text at 0) ≡ true = sym (ap is_run_byte byte) ∙ printed in
    record {
      run = list_all_more is_run_byte text at 0 within ∙ ap (λ b. b && is_run_byte (get_or text at 0)) c.loop-len.invariant.run ∙ run;
      leads = λ ps begin table read cs begun h.
          let last = begun_more text at cs within begun in
          subst (LeadsToSet ps begin c.args.rows.now table c.in-Some.next)
          (append_assoc read last.front last.last ∙ ap (λ l. read ++ l) (sym last.parts))
          (c.in-Some.ensures ps begin table (read ++ last.front) last.last (subst (λ b. AreBegun (b ∷ []) last.last) (sym byte) last.ends)
          (c.loop-len.invariant.leads ps begin table read last.front last.begun h));
    }

pub returns-then-not-is_printed-clause-boundary : goal.returns-then-not-is_printed-clause-boundary
returns-then-not-is_printed-clause-boundary c =
    let text : List ℕ = c.args.text.now in
    let at : ℕ = c.loop-len.len in
    let byte : get_or c.as_bytes-byte-items.result.now at 0 ≡ get_or text at 0 = ap (λ s. get_or s at 0) c.as_bytes-byte-items.ensures.value in
    IsCharBoundary-before_ascii text at (subst (λ s. at < length s) c.as_bytes-byte-items.ensures.value c.loop-len-test.true)
    (subst (λ b. b < 128) byte (c.is_printed.ensures.ascii c.if-not-is_printed.true))

pub returns-then-not-is_printed-clause-leads : goal.returns-then-not-is_printed-clause-leads
returns-then-not-is_printed-clause-leads c ps begin table read h =
    let text : List ℕ = c.args.text.now in
    let at : ℕ = c.loop-len.len in
    let byte : get_or c.as_bytes-byte-items.result.now at 0 ≡ get_or text at 0 = ap (λ s. get_or s at 0) c.as_bytes-byte-items.ensures.value in
    let boundary = IsCharBoundary-before_ascii text at (subst (λ s. at < length s) c.as_bytes-byte-items.ensures.value c.loop-len-test.true)
    (subst (λ b. b < 128) byte (c.is_printed.ensures.ascii c.if-not-is_printed.true)) in
    c.loop-len.invariant.leads ps begin table read (chars (take at text))
    (text_begun (take at text) (IsUtf8-take text at c.utf8.text boundary)) h

pub returns-clause-leads : goal.returns-clause-leads
returns-clause-leads c ps begin table read h =
    let text : List ℕ = c.args.text.now in
    let at : ℕ = c.loop-len.len in
    let whole : take at text ≡ text = take_all at text (subst (λ s. length s ≤ at) c.as_bytes-byte-items.ensures.value c.loop-len-test.false) in
    let all : take (length text) text ≡ text = take_all (length text) text (omega arith) in
    c.loop-len.invariant.leads ps begin table read (chars (take (length text) text))
    (subst (λ l. AreBegun l (chars (take (length text) text))) (sym whole)
    (subst (λ l. AreBegun text (chars l)) (sym all) (text_begun text c.utf8.text))) h
