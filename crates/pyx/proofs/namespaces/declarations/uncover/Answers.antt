use Rattle.std.proofs.Common.{◌≡◌, ◌∙◌, List, ℕ, Some, None, ap, option_map, sym}
use Rattle.pyx.specs.plain.WrittenNames.{written_of}
use Rattle.pyx.specs.plain.Declarations.{declared_by}
use Rattle.pyx.specs.views.DeclarationView.{declaration_of}
use Rattle.pyx.proofs.Scopes.DeclarationPlaces.{placed, uncovered, unpassed}
use Rattle.pyx.proofs.namespaces.declarations.uncover.Goals as goal

pub returns-in-Some : goal.returns-in-Some
returns-in-Some c =
    let is : declared_by (declaration_of c.args.removed.now).name ≡ Some (option_map (λ x. x.now) c.in-Some.prefix) =
    ap (λ (x : List ℕ). declared_by (written_of x)) (sym c.as_str.ensures.value) ∙ sym c.declared_by.ensures
    ∙ ap (option_map (λ p. option_map (λ x. x.now) p)) c.in-Some.is in
    λ outer all. uncovered c.args.places.now c.restore.new.self c.args.removed.now outer (option_map (λ x. x.now) c.in-Some.prefix) is
    (c.restore.ensures (placed c.args.places.now c.args.places.now c.args.removed.now outer (option_map (λ x. x.now) c.in-Some.prefix) is all)) all

pub returns-in-None : goal.returns-in-None
returns-in-None c =
    let is : declared_by (declaration_of c.args.removed.now).name ≡ None =
    ap (λ (x : List ℕ). declared_by (written_of x)) (sym c.as_str.ensures.value) ∙ sym c.declared_by.ensures
    ∙ ap (option_map (λ p. option_map (λ x. x.now) p)) c.in-None.is in
    λ outer all. unpassed c.args.places.now c.args.places.now c.args.removed.now outer is all
