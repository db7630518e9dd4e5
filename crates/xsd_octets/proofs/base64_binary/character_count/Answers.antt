use Rattle.std.proofs.Common.{◌∙◌, sym}
use Rattle.xsd_octets.proofs.Base64Values.{is_stuck, is_ended, is_cut_off}
use Rattle.xsd_octets.proofs.base64_binary.character_count.Goals as goal

pub returns-in_err-place : goal.returns-in_err-place
returns-in_err-place c =
    c.from_residual.ensures
    ∙ is_stuck c.args.text.now c.characters.rest.now c.characters.place c.characters.invariant.groups c.in-Some.behind.now c.in-Some.byte
    c.in-Some.ensures.0 (sym c.in_err-place.ensures)

pub returns-then-is_end : goal.returns-then-is_end
returns-then-is_end c =
    is_ended c.args.text.now c.characters.rest.now c.characters.place c.characters.invariant.groups c.characters.count c.in_default.ensures
    (sym c.if-is_end.ensures) c.characters.invariant.counted

pub returns-else-is_end : goal.returns-else-is_end
returns-else-is_end c =
    is_cut_off c.args.text.now c.characters.rest.now c.characters.place c.characters.invariant.groups c.in_default.ensures (sym c.if-is_end.ensures)
