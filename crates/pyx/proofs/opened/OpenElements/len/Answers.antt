use Rattle.std.proofs.Common.{◌∙◌, ap, length, string_bytes, sym, take}
use Rattle.pyx.specs.views.ElementView.{Elements}
use Rattle.pyx.proofs.Scopes.OpenStack.{stack_length}
use Rattle.pyx.proofs.opened.OpenElements.len.Goals as goal

pub returns : goal.returns
returns c =
    let names = take c.self.inside.begun (string_bytes c.self.inside.written) in
    c.len.ensures ∙ c.self.inside.opened.ok.0 ∙ sym (stack_length c.self.inside.opened.items names c.self.inside.declarations)
    ∙ ap (λ (e : Elements). length e.opened) c.self.view_is
