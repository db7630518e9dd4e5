use Rattle.std.proofs.Common.{◌≡◌, ◌∙◌, ◌<◌, ◌++◌, ℕ, List, ap, drop, length, subst, sym}
use Rattle.rncv_c_handles.specs.views.Held.{schema_in}
use Rattle.rncv_c_values.specs.declared.status.Status.TheVariants.{Done, Space}
use Rattle.rncv_c.proofs.WrittenTexts.{text_too_long, text_written}
use Rattle.rncv_c.proofs.schemas.simple.Goals as goal

pub returns-in-Ok-clause-done : goal.returns-in-Ok-clause-done
returns-in-Ok-clause-done c = λ done.
    let old = c.args.buffer.now in
    let slice = c.as_slice.ensures.value in
    text_written c.in-Ok.text.items c.copied.new.count old (c.copied.ensures.count ∙ ap length slice) (schema_in c.args.schema.now.held) c.copied.new.buffer
    c.in-Ok.ensures.value (subst (λ (text : List ℕ). c.copied.new.buffer ≡ text ++ drop (length text) old) slice (c.copied.ensures.done done))

pub returns-in-Ok-clause-space : goal.returns-in-Ok-clause-space
returns-in-Ok-clause-space c = λ space.
    let old = c.args.buffer.now in
    let slice = c.as_slice.ensures.value in
    let long = (c.copied.ensures.space (λ done. let e : Space ≡ Done = sym space ∙ done in cc)).1 in
    text_too_long c.in-Ok.text.items c.copied.new.count old (c.copied.ensures.count ∙ ap length slice) (schema_in c.args.schema.now.held)
    c.in-Ok.ensures.value (subst (λ (text : List ℕ). length old < length text) slice long)
