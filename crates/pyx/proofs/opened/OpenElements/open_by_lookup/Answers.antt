use Rattle.std.proofs.Common.{◌≡◌, ◌∙◌, ◌++◌, ◌∷◌, [], ℕ, List, Option, ap, drop, map, reverse, sym, subst, length, string_bytes, take, rules}
use Rattle.pyx.specs.declared.elements.OpenElement.{OpenElement}
use Rattle.rng_model.specs.documents.PyxNamespaces.{WrittenAttribute}
use Rattle.rng_model.specs.names.Names.{Name}
use Rattle.rng_model.specs.plain.Answers.{Gives}
use Rattle.pyx.specs.plain.WrittenNames.{written_of}
use Rattle.pyx.specs.views.WrittenAttributes.{written_attribute}
use Rattle.pyx.specs.plain.DocumentReader.{Open, declared_in}
use Rattle.pyx.specs.plain.TagReader.{element_name}
use Rattle.pyx.specs.views.ElementView.{AreNamed, Elements, clause_of, name_at, names_of, resolved, stack_of}
use Rattle.pyx.proofs.Scopes.DeclaredNamespaces.{name_within}
use Rattle.pyx.proofs.Scopes.OpenNames.{cut_at_end, named_push, none_behind}
use Rattle.pyx.proofs.Scopes.OpenStack.{opened_is, opened_whole, take_end, whole_none}
use Rattle.pyx.proofs.opened.OpenElements.open_by_lookup.Goals as goal

pub invariant_of-self-in_err-declare : goal.invariant_of-self-in_err-declare
invariant_of-self-in_err-declare c =
    let e : OpenElement = record { start = c.self.inside.begun; count = c.len-count.result } in
    let xs = c.self.inside.opened.items in
    let names = string_bytes c.self.inside.written in
    let n = c.len-self-inside.result in
    let end : n ≡ length names = search rules in
    record {
      known = c.declare.ensures.known;
      whole = whole_none c.push.new.self.items (take n names) c.declare.new.declarations c.in_err-declare.ensures.declared;
      cut = cut_at_end n names end;
      judged = none_behind n names end;
      placed = tt;
      named = rw (c.in_ok-push.ensures.items) (subst (λ (t : List ℕ). AreNamed (reverse (xs ++ e ∷ [])) t) (sym (take_end n names end))
          (named_push xs e names c.self.invariant.cut c.self.invariant.judged c.self.invariant.named));
    }

pub returns-clause-name : goal.returns-clause-name
returns-clause-name c =
    let e : OpenElement = record { start = c.self.inside.begun; count = c.len-count.result } in
    let xs = c.self.inside.opened.items in
    let names = string_bytes c.self.inside.written in
    let n = c.len-self-inside.result in
    let end : n ≡ length names = search rules in
    let ds = c.self.inside.declarations in
    let new = c.declare.new.declarations in
    let tag = c.args.tag.now.items in
    let own : List WrittenAttribute = map written_attribute tag in
    let name = c.range_from-name.result.now in
    let count = sym c.args.tag.now.ok.0 ∙ sym c.len-count.ensures in
    let whole = opened_whole xs e tag names n ds new count end c.in_ok-declare.ensures.declared c.self.invariant.whole in
    let is = opened_is xs e tag names n ds new count end c.in_ok-declare.ensures.declared in
    let begun : name ≡ c.args.self.now.begun = c.range_from-name.ensures.value ∙ ap (λ (t : List ℕ). drop c.self.inside.begun t) c.as_str.ensures.value
    ∙ ap (λ (x : Elements). x.begun) c.self.view_is in
    let same : element_name (new ∷ []) (written_of name) ≡ element_name (own ∷ declared_in c.args.self.now.opened) (written_of c.args.self.now.begun) =
    name_within (stack_of (xs ++ e ∷ []) (take n names) new) new (written_of name) whole
    ∙ ap (λ (o : List Open). element_name (declared_in o) (written_of name)) is
    ∙ ap (λ (x : Elements). element_name (own ∷ declared_in x.opened) (written_of name)) c.self.view_is
    ∙ ap (λ (x : List ℕ). element_name (own ∷ declared_in c.args.self.now.opened) (written_of x)) begun in
    subst (λ (o : Option Name). Gives clause_of (λ at. name_at (names_of c.place_of_name.new.known.items) at) c.place_of_name.result (resolved o)) same
    c.place_of_name.ensures.name
