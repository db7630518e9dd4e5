use Rattle.std.proofs.Common.{◌∙◌, ℕ, List, ap, reverse, string_bytes, subst, sym, take}
use Rattle.rng_model.specs.documents.PyxNamespaces.{WrittenAttribute}
use Rattle.pyx.specs.declared.elements.OpenElement.{OpenElement}
use Rattle.pyx.specs.views.ElementView.{AreNamed, Elements, stack_of}
use Rattle.pyx.specs.views.Held.{opened_held}
use Rattle.pyx.proofs.Scopes.OpenNames.{front_of}
use Rattle.pyx.proofs.opened.OpenElements.held.Goals as goal

pub opened_len-requires : goal.opened_len-requires
opened_len-requires c =
    let names = front_of c.as_str.result.now (string_bytes c.self.inside.written) c.range-names.result.now c.self.inside.begun c.as_str.ensures.value
    c.range-names.ensures.value in
    subst (λ (xs : List OpenElement). AreNamed (reverse xs) c.range-names.result.now) (sym c.as_slice.ensures.value)
    (subst (λ (t : List ℕ). AreNamed (reverse c.self.inside.opened.items) t) (sym names) c.self.invariant.named)

pub returns : goal.returns
returns c =
    let names = front_of c.as_str.result.now (string_bytes c.self.inside.written) c.range-names.result.now c.self.inside.begun c.as_str.ensures.value
    c.range-names.ensures.value in
    c.opened_len.ensures
    ∙ ap (λ (ds : List WrittenAttribute). opened_held (stack_of c.as_slice.result.now c.range-names.result.now ds)) c.as_slice-2.ensures
    ∙ ap (λ (t : List ℕ). opened_held (stack_of c.as_slice.result.now t c.self.inside.declarations)) names
    ∙ ap (λ (xs : List OpenElement). opened_held (stack_of xs (take c.self.inside.begun (string_bytes c.self.inside.written)) c.self.inside.declarations))
    c.as_slice.ensures.value
    ∙ ap (λ (e : Elements). opened_held e.opened) c.self.view_is
