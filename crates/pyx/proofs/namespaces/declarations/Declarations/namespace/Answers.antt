use Rattle.std.proofs.Common.{◌≡◌, ◌∙◌, List, ℕ, Option, Some, None, ap, arith, option_map, sym}
use Rattle.pyx.specs.plain.Declarations.{beforehand, found_in, namespace_of, or_else}
use Rattle.pyx.specs.views.DeclarationView.{declaration_of}
use Rattle.pyx.proofs.Scopes.DeclarationPlaces.{found_at, inside_list, not_found}
use Rattle.pyx.proofs.namespaces.declarations.Declarations.namespace.Goals as goal

pub index-requires : goal.index-requires
index-requires c =
    let p : Option (List ℕ) = option_map (λ x. x.now) c.args.prefix in
    omega (
      arith,
      c.self.inside.list.ok.0,
      inside_list p c.self.inside.list.items c.in-Some.place
          (sym (c.self.invariant.found p) ∙ sym c.get.ensures ∙ c.in-Some.is),
    )

pub returns-in-Some : goal.returns-in-Some
unfolding namespace_of
returns-in-Some c =
    let p : Option (List ℕ) = option_map (λ x. x.now) c.args.prefix in
    let found : found_in p c.args.self.now ≡ Some (declaration_of c.index.result.now).content = ap (found_in p) (sym c.self.view_is) ∙ found_at p c.self.inside.list.items c.in-Some.place
    c.index.result.now (sym (c.self.invariant.found p) ∙ sym c.get.ensures ∙ c.in-Some.is) c.index.ensures in
    sym (ap (λ (o : Option (List ℕ)). or_else o (beforehand p)) found)

pub returns-in-None : goal.returns-in-None
unfolding namespace_of
returns-in-None c =
    let p : Option (List ℕ) = option_map (λ x. x.now) c.args.prefix in
    let none : found_in p c.args.self.now ≡ None = ap (found_in p) (sym c.self.view_is)
    ∙ not_found p c.self.inside.list.items (sym (c.self.invariant.found p) ∙ sym c.get.ensures ∙ c.in-None.is) in
    c.beforehand.ensures ∙ sym (ap (λ (o : Option (List ℕ)). or_else o (beforehand p)) none)
