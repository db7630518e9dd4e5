use Rattle.std.proofs.Common.{◌≡◌, ◌∙◌, ◌++◌, take, sym, ap, subst}
use Rattle.std.proofs.lemmas.List.{take_all, append_assoc, append-nil}
use Rattle.std.specs.Str.{chars}
use Rattle.xsd_automaton.specs.plain.BegunChars.{AreBegun}
use Rattle.xsd_automaton.specs.views.Sets.{LeadsToSet}
use Rattle.xsd_automaton.proofs.BegunChars.{nothing_begun, text_begun, begun_more}
use Rattle.xsd_automaton.proofs.sets.set_behind.Goals as goal

pub loop-byte-init : goal.loop-byte-init
loop-byte-init c ps begin table read cs begun h =
    subst (LeadsToSet ps begin c.args.rows.now table c.args.first) (sym (ap (λ l. read ++ l) (nothing_begun cs begun) ∙ append-nil read)) h

pub loop-byte-preserved : goal.loop-byte-preserved
loop-byte-preserved c ps begin table read cs begun h =
    let last = begun_more c.as_bytes-byte-items.result.now c.loop-byte.byte-index cs c.loop-byte-test.true begun in
    subst (LeadsToSet ps begin c.args.rows.now table c.in-Some.next) (append_assoc read last.front last.last ∙ ap (λ l. read ++ l) (sym last.parts))
    (c.in-Some.ensures ps begin table (read ++ last.front) last.last last.ends (c.loop-byte.invariant ps begin table read last.front last.begun h))

pub returns : goal.returns
returns c ps begin table read h =
    let bytes = c.as_bytes-byte-items.result.now in
    let whole : take c.loop-byte.byte-index bytes ≡ c.args.text.now =
    take_all c.loop-byte.byte-index bytes c.loop-byte-test.false ∙ c.as_bytes-byte-items.ensures.value in
    c.loop-byte.invariant ps begin table read (chars c.args.text.now)
    (subst (λ l. AreBegun l (chars c.args.text.now)) (sym whole) (text_begun c.args.text.now c.utf8.text)) h
