use Rattle.std.proofs.Common.{◌-◌, ◌∙◌, length, take, drop, map, ap, sym}
use Rattle.rng_model.specs.documents.EventViews.{attribute_of}
use Rattle.pyx.specs.plain.NamespacesSlots.{is_met}
use Rattle.pyx.specs.plain.TagReader.{is_named_twice}
use Rattle.pyx.proofs.Tags.Slots.{all_kept, first_and_rest, unmet}
use Rattle.pyx.proofs.slots.+is_repeated.Goals as goal

pub returns-else-mark-clause-twice : goal.returns-else-mark-clause-twice
returns-else-mark-clause-twice t c =
    let parts = first_and_rest c.args.attrs.now c.first-item.result c.in-len1-up.len_at_least c.first-item.is in
    let rest = map attribute_of (take (length c.args.attrs.now - 1) (drop 1 c.args.attrs.now)) in
    let met = ap (is_met c.is_repeated.new.slots) (sym c.as_str.ensures.value) ∙ sym c.mark.ensures.met ∙ c.if-mark.false in
    c.if-mark.false ∙ sym (ap is_named_twice parts ∙ unmet (attribute_of c.first-item.result) c.is_repeated.new.slots rest met
    (c.is_repeated.ensures.met c.if-is_repeated.false) (sym c.is_repeated.ensures.twice ∙ c.if-is_repeated.false))

pub returns-else-mark-clause-met : goal.returns-else-mark-clause-met
returns-else-mark-clause-met t c = λ e.
    let parts = first_and_rest c.args.attrs.now c.first-item.result c.in-len1-up.len_at_least c.first-item.is in
    rw parts (
      ap (is_met c.mark.new.slots) (sym c.as_str.ensures.value) ∙ c.mark.ensures.set,
      all_kept c.is_repeated.new.slots c.mark.new.slots _ c.mark.ensures.kept (c.is_repeated.ensures.met c.if-is_repeated.false),
    )
