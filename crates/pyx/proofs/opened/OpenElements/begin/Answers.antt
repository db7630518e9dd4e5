use Rattle.std.proofs.Common.{◌≡◌, ◌∷◌, ◌++◌, [], ◌∙◌, List, ℕ, ap, drop, subst, sym, string_bytes, take, reverse, refl}
use Rattle.std.specs.Prelude.{IfSome}
use Rattle.pyx.specs.plain.LineReader.{is_name}
use Rattle.pyx.specs.views.ElementView.{AreKnown, AreNamed, IsPlace, all_declared, stack_of}
use Rattle.pyx.proofs.Scopes.OpenNames.{cut_stays, front_stays, name_behind}
use Rattle.pyx.proofs.opened.OpenElements.begin.Goals as goal

pub truncate-requires : goal.truncate-requires
truncate-requires c = λ _. (c.self.invariant.cut.0, λ _. c.self.invariant.cut.1)

pub returns-then-not-good-clause-judged : goal.returns-then-not-good-clause-judged
returns-then-not-good-clause-judged c =
    let scope = c.self.inside.declarations ∷ [] in
    let there = c.judge-good.ensures scope (subst (AreKnown scope c.self.inside.round) (sym c.as_slice.ensures.value) c.self.invariant.known) in
    sym c.if-not-good.true ∙ there.0

pub invariant_of-self-2 : goal.invariant_of-self-2
invariant_of-self-2 c =
    let scope = c.self.inside.declarations ∷ [] in
    let place = c.judge-good.result.1 in
    let name = c.args.name.now in
    let old = string_bytes c.self.inside.written in
    let begun = c.self.inside.begun in
    let is : string_bytes c.push_str.new.self ≡ take begun old ++ name = rw (c.in_ok-push_str.ensures.bytes, c.truncate.ensures.bytes) refl in
    let within = c.self.invariant.cut.0 in
    let front : take begun (string_bytes c.push_str.new.self) ≡ take begun old = ap (take begun) is ∙ front_stays old begun within name in
    let same : drop begun (string_bytes c.push_str.new.self) ≡ name = ap (drop begun) is ∙ name_behind old begun within name in
    let there = c.judge-good.ensures scope (subst (AreKnown scope c.self.inside.round) (sym c.as_slice.ensures.value) c.self.invariant.known) in
    record {
      known = c.self.invariant.known;
      whole = ap (λ (t : List ℕ). all_declared (stack_of c.self.inside.opened.items t c.self.inside.declarations)) front ∙ c.self.invariant.whole;
      cut = rw is (cut_stays old begun within name c.utf8.name);
      judged = λ h. ap is_name same ∙ sym there.0 ∙ c.if-not-good.false;
      placed = subst (λ w. IfSome place (IsPlace scope w c.self.inside.known.items)) (sym same)
          (subst (λ ks. IfSome place (IsPlace scope name ks)) c.as_slice.ensures.value there.1);
      named = subst (λ (t : List ℕ). AreNamed (reverse c.self.inside.opened.items) t) (sym front) c.self.invariant.named;
    }
