use Rattle.std.proofs.Common.{◌∙◌, ◌∷◌, [], List, ap, drop, map, reverse, subst, sym}
use Rattle.std.proofs.lemmas.List.{reverse-append}
use Rattle.pyx.specs.declared.namespaces.places.Declaration.{Declaration}
use Rattle.pyx.specs.views.DeclarationView.{AreFound, declaration_of}
use Rattle.pyx.proofs.namespaces.declarations.Declarations.pop.Goals as goal

pub invariant_of-self : goal.invariant_of-self
invariant_of-self c =
    let rest = c.pop.new.self.items in
    c.uncover.ensures (reverse rest)
    (subst (AreFound c.self.inside.places) (ap reverse c.in-Some.ensures.items ∙ reverse-append rest (c.in-Some.removed ∷ [])) c.self.invariant)

pub returns-in-Some-clause-removed : goal.returns-in-Some-clause-removed
returns-in-Some-clause-removed c =
    let rest = c.pop.new.self.items in
    sym (ap (drop 1) (sym c.self.view_is ∙ ap (λ (x : List Declaration). map declaration_of (reverse x)) c.in-Some.ensures.items
    ∙ ap (map declaration_of) (reverse-append rest (c.in-Some.removed ∷ []))))

pub returns-in-Some-clause-returned : goal.returns-in-Some-clause-returned
returns-in-Some-clause-returned c =
    let rest = c.pop.new.self.items in
    sym c.self.view_is ∙ ap (λ (x : List Declaration). map declaration_of (reverse x)) c.in-Some.ensures.items
    ∙ ap (map declaration_of) (reverse-append rest (c.in-Some.removed ∷ []))
