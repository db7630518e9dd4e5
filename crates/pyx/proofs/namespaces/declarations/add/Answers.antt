use Rattle.std.proofs.Common.{◌∙◌, ◌∷◌, [], List, ℕ, ap, map, refl, reverse, string_bytes, subst, sym}
use Rattle.std.proofs.lemmas.List.{length-reverse, reverse-append}
use Rattle.pyx.specs.declared.namespaces.places.Declaration.{Declaration}
use Rattle.pyx.specs.plain.WrittenNames.{written_of}
use Rattle.pyx.specs.views.DeclarationView.{AreFound, declaration_of}
use Rattle.pyx.proofs.namespaces.declarations.add.Goals as goal

pub returns-clause-found : goal.returns-clause-found
returns-clause-found c =
    let own : Declaration = record { name = c.args.written.name; namespace = c.in_ok-namespace.namespace; buffer = c.in_ok-namespace.buffer; hidden = c.in_ok-hidden.hidden } in
    let list = c.args.list.now.items in
    subst (AreFound c.cover.new.places) (sym (ap reverse c.in_ok-push.ensures.items ∙ reverse-append list (own ∷ [])))
    (c.in_ok-hidden.ensures (reverse list) own (sym c.as_str.ensures.value) refl (length-reverse list ∙ sym c.args.list.now.ok.0 ∙ sym c.len.ensures) c.requires)

pub returns-clause-added : goal.returns-clause-added
returns-clause-added c =
    let own : Declaration = record { name = c.args.written.name; namespace = c.in_ok-namespace.namespace; buffer = c.in_ok-namespace.buffer; hidden = c.in_ok-hidden.hidden } in
    let outer = map declaration_of (reverse c.args.list.now.items) in
    ap (map declaration_of) (ap reverse c.in_ok-push.ensures.items ∙ reverse-append c.args.list.now.items (own ∷ []))
    ∙ ap (λ (uri : List ℕ). record { name = written_of (string_bytes c.args.written.name); content = uri } ∷ outer) c.in_ok-namespace.ensures
