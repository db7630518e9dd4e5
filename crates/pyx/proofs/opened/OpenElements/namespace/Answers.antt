use Rattle.std.proofs.Common.{◌∙◌, ap, option_map, sym}
use Rattle.pyx.specs.views.ElementView.{Elements, all_declared}
use Rattle.pyx.proofs.Scopes.DeclaredNamespaces.{namespace_within}
use Rattle.pyx.proofs.opened.OpenElements.namespace.Goals as goal

pub returns : goal.returns
returns c = c.namespace.ensures ∙ namespace_within c.args.self.now.opened c.self.inside.declarations (option_map (λ x. x.now) c.args.prefix)
    (ap (λ (e : Elements). all_declared e.opened) (sym c.self.view_is) ∙ c.self.invariant.whole)
