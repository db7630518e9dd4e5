use Rattle.std.proofs.Common.{◌-◌, ◌∙◌, length, take, drop, map, ap, sym}
use Rattle.pyx.specs.plain.NamespacesSlots.{is_met}
use Rattle.pyx.specs.plain.Declarations.{is_written_twice}
use Rattle.pyx.specs.views.WrittenAttributes.{written_attribute, written_bytes}
use Rattle.pyx.proofs.Scopes.DeclarationSlots.{first_written, unmet_written}
use Rattle.pyx.proofs.Scopes.DeclarationSlots.{kept_names}
use Rattle.pyx.proofs.namespaces.written.+is_repeated.Goals as goal

pub returns-else-mark-clause-twice : goal.returns-else-mark-clause-twice
returns-else-mark-clause-twice t c =
    let parts = first_written c.args.attributes.now c.first-item.result c.in-len1-up.len_at_least c.first-item.is in
    let rest = take (length c.args.attributes.now - 1) (drop 1 c.args.attributes.now) in
    let met = ap (is_met c.is_repeated.new.slots) (sym c.as_str-name.ensures.value) ∙ sym c.mark.ensures.met ∙ c.if-mark.false in
    c.if-mark.false ∙ sym (ap (λ all. is_written_twice (map written_attribute all)) parts ∙ unmet_written c.first-item.result c.is_repeated.new.slots rest met
    (c.is_repeated.ensures.met c.if-is_repeated.false) (sym c.is_repeated.ensures.twice ∙ c.if-is_repeated.false))

pub returns-else-mark-clause-met : goal.returns-else-mark-clause-met
returns-else-mark-clause-met t c = λ e.
    let parts = ap (map written_bytes) (first_written c.args.attributes.now c.first-item.result c.in-len1-up.len_at_least c.first-item.is) in
    rw parts (
      ap (is_met c.mark.new.slots) (sym c.as_str-name.ensures.value) ∙ c.mark.ensures.set,
      kept_names c.is_repeated.new.slots c.mark.new.slots _ c.mark.ensures.kept (c.is_repeated.ensures.met c.if-is_repeated.false),
    )
