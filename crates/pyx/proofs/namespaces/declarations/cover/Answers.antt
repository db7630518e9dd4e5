use Rattle.std.proofs.Common.{◌≡◌, ◌∙◌, List, ℕ, Some, None, ap, option_map, sym}
use Rattle.pyx.specs.plain.WrittenNames.{written_of}
use Rattle.pyx.specs.plain.Declarations.{declared_by}
use Rattle.pyx.proofs.Scopes.DeclarationPlaces.{covers, passed}
use Rattle.pyx.proofs.namespaces.declarations.cover.Goals as goal

pub returns-in-Some : goal.returns-in-Some
returns-in-Some c =
    let is : declared_by (written_of c.args.name.now) ≡ Some (option_map (λ x. x.now) c.in-Some.prefix) =
    sym c.declared_by.ensures ∙ ap (option_map (λ p. option_map (λ x. x.now) p)) c.in-Some.is in
    covers c.set.result c.args.places.now c.set.new.self c.args.name.now c.args.place (option_map (λ x. x.now) c.in-Some.prefix) is c.set.ensures.before
    c.set.ensures.set

pub returns-in-None : goal.returns-in-None
returns-in-None c =
    let is : declared_by (written_of c.args.name.now) ≡ None =
    sym c.declared_by.ensures ∙ ap (option_map (λ p. option_map (λ x. x.now) p)) c.in-None.is in
    λ outer own n h l all. passed c.args.places.now c.args.places.now own outer (ap (λ (x : List ℕ). declared_by (written_of x)) n ∙ is) all
