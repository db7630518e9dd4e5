use Rattle.std.proofs.Common.{◌≡◌, ◌∙◌, ℕ, List, ap, drop, string_bytes, take}
use Rattle.std.proofs.lemmas.Str.{IsUtf8-string_bytes}
use Rattle.rng_model.specs.documents.PyxNamespaces.{WrittenAttribute}
use Rattle.pyx.specs.plain.DocumentReader.{around}
use Rattle.pyx.specs.views.ElementView.{Elements, stack_of}
use Rattle.pyx.proofs.Scopes.OpenNames.{cut_at_end, cut_within, front_ends, front_left, named_parts, none_behind}
use Rattle.pyx.proofs.Scopes.OpenStack.{stack_close, whole_close}
use Rattle.pyx.proofs.opened.OpenElements.close.Goals as goal

pub truncate-requires : goal.truncate-requires
truncate-requires c = λ _.
    let names = string_bytes c.self.inside.written in
    let begun = c.self.inside.begun in
    let inner = named_parts c.self.inside.opened.items c.pop-closed.new.self.items c.in-Some.element (take begun names) c.in-Some.ensures.items
    c.self.invariant.named in
    let cut = cut_within names begun c.in-Some.element.start (IsUtf8-string_bytes c.self.inside.written) c.self.invariant.cut inner.0 in
    (cut.0, λ _. cut.1)

pub invariant_of-self : goal.invariant_of-self
invariant_of-self c =
    let names = string_bytes c.self.inside.written in
    let begun = c.self.inside.begun in
    let e = c.in-Some.element in
    let old = c.self.inside.opened.items in
    let new = c.pop-closed.new.self.items in
    let ds = c.self.inside.declarations in
    let u = IsUtf8-string_bytes c.self.inside.written in
    let inner = named_parts old new e (take begun names) c.in-Some.ensures.items c.self.invariant.named in
    let is : string_bytes c.truncate.new.self ≡ take e.start names = c.truncate.ensures.bytes in
    let ends = front_ends names begun e.start u c.self.invariant.cut inner.0 in
    let left = front_left names begun e.start u c.self.invariant.cut inner.0 in
    record {
      known = c.undeclare.ensures.known;
      whole = rw (c.undeclare.ensures.removed, is, left) (whole_close old new e (take begun names) ds c.in-Some.ensures.items c.self.invariant.whole);
      cut = rw is (cut_at_end e.start (take e.start names) ends);
      judged = rw is (none_behind e.start (take e.start names) ends);
      placed = tt;
      named = rw (is, left) inner.1.1;
    }

pub returns-in-Some : goal.returns-in-Some
returns-in-Some c =
    let names = string_bytes c.self.inside.written in
    let begun = c.self.inside.begun in
    let e = c.in-Some.element in
    let old = c.self.inside.opened.items in
    let new = c.pop-closed.new.self.items in
    let inner = named_parts old new e (take begun names) c.in-Some.ensures.items c.self.invariant.named in
    let front : take e.start (string_bytes c.truncate.new.self) ≡ take e.start (take begun names) = ap (take e.start) c.truncate.ensures.bytes
    ∙ front_left names begun e.start (IsUtf8-string_bytes c.self.inside.written) c.self.invariant.cut inner.0 in
    ap (λ (ds : List WrittenAttribute). stack_of new (take e.start (string_bytes c.truncate.new.self)) ds) c.undeclare.ensures.removed
    ∙ ap (λ (t : List ℕ). stack_of new t (drop e.count c.self.inside.declarations)) front
    ∙ stack_close old new e (take begun names) c.self.inside.declarations c.in-Some.ensures.items
    ∙ ap (λ (x : Elements). around x.opened) c.self.view_is
