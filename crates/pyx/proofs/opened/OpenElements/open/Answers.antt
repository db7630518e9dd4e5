use Rattle.std.proofs.Common.{◌≡◌, ◌∷◌, [], ◌∙◌, List, ap, drop, map, subst, sym, string_bytes, take}
use Rattle.std.specs.Prelude.{IfSome}
use Rattle.std.proofs.lemmas.Bool.{eqb-true}
use Rattle.std.proofs.lemmas.List.{nil_from_length}
use Rattle.rng_model.specs.documents.PyxNamespaces.{WrittenAttribute}
use Rattle.pyx.specs.plain.DocumentReader.{declared_in}
use Rattle.pyx.specs.plain.TagReader.{element_name}
use Rattle.pyx.specs.plain.WrittenNames.{written_of}
use Rattle.pyx.specs.views.WrittenAttributes.{written_attribute}
use Rattle.pyx.specs.views.ElementView.{Elements, IsPlace, resolved, stack_of}
use Rattle.pyx.proofs.Scopes.DeclaredNamespaces.{name_within, name_within_none}
use Rattle.pyx.proofs.opened.OpenElements.open.Goals as goal

pub returns-in_ok-push-in-Some-clause-name : goal.returns-in_ok-push-in-Some-clause-name
returns-in_ok-push-in-Some-clause-name c =
    let ds = c.self.inside.declarations in
    let names = string_bytes c.self.inside.written in
    let begun = drop c.self.inside.begun names in
    let own : List WrittenAttribute = map written_attribute c.args.tag.now.items in
    let none : own ≡ [] = ap (map written_attribute) (nil_from_length c.args.tag.now.items
    (sym c.args.tag.now.ok.0 ∙ eqb-true _ 0 (sym c.is_empty.ensures ∙ c.if-is_empty.true))) in
    let there : IsPlace (ds ∷ []) begun c.self.inside.known.items c.in-Some.at =
    subst (λ place. IfSome place (IsPlace (ds ∷ []) begun c.self.inside.known.items)) c.in-Some.is c.self.invariant.placed in
    ap resolved (ap (λ (os : List WrittenAttribute). element_name (os ∷ declared_in c.args.self.now.opened) (written_of c.args.self.now.begun)) none
    ∙ name_within_none (declared_in c.args.self.now.opened) (written_of c.args.self.now.begun)
    ∙ sym (ap (λ (e : Elements). element_name (declared_in e.opened) (written_of e.begun)) c.self.view_is)
    ∙ sym (name_within (stack_of c.self.inside.opened.items (take c.self.inside.begun names) ds) ds (written_of begun) c.self.invariant.whole) ∙ there.1)
