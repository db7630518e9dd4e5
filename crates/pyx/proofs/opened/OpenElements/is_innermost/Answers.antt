use Rattle.std.proofs.Common.{◌≡◌, ◌∙◌, ◌&&◌, ℕ, List, ap, drop, string_bytes, subst, sym, take}
use Rattle.std.specs.Str.{IsCharBoundary}
use Rattle.std.proofs.lemmas.Bool.{eqb-true}
use Rattle.pyx.specs.plain.WrittenNames.{written_of}
use Rattle.pyx.specs.plain.Declarations.{same_written}
use Rattle.pyx.specs.plain.LineReader.{is_name}
use Rattle.pyx.specs.views.ElementView.{Elements, is_innermost}
use Rattle.pyx.proofs.Scopes.OpenNames.{front_of, named_parts, not_innermost, same_as_innermost, some}
use Rattle.pyx.proofs.opened.OpenElements.is_innermost.Goals as goal

pub range_from-requires : goal.range_from-requires
range_from-requires c = λ _.
    let names = take c.self.inside.begun (string_bytes c.self.inside.written) in
    let front = front_of c.as_str.result.now (string_bytes c.self.inside.written) c.range-names.result.now c.self.inside.begun c.as_str.ensures.value
    c.range-names.ensures.value in
    let parts = sym c.as_slice.ensures.value ∙ c.in-Some.ensures.parts in
    let e = c.in-Some.element.now in
    subst (λ (t : List ℕ). IsCharBoundary t e.start) (sym front)
    (named_parts c.self.inside.opened.items c.in-Some.field-0-1.now e names parts c.self.invariant.named).0

pub returns-then-not-is_empty : goal.returns-then-not-is_empty
returns-then-not-is_empty c =
    let names = take c.self.inside.begun (string_bytes c.self.inside.written) in
    let front = front_of c.as_str.result.now (string_bytes c.self.inside.written) c.range-names.result.now c.self.inside.begun c.as_str.ensures.value
    c.range-names.ensures.value in
    let parts = sym c.as_slice.ensures.value ∙ c.in-Some.ensures.parts in
    let e = c.in-Some.element.now in
    let name = c.args.name.now in
    let own : c.range_from.result.now ≡ drop e.start names = c.range_from.ensures.value ∙ ap (drop e.start) front in
    same_as_innermost c.self.inside.opened.items c.in-Some.field-0-1.now e names c.self.inside.declarations name c.is_same.result parts
    (named_parts c.self.inside.opened.items c.in-Some.field-0-1.now e names parts c.self.invariant.named).1.0
    (some name (sym c.is_empty.ensures ∙ c.if-not-is_empty.true))
    (c.is_same.ensures ∙ ap (λ (x : List ℕ). same_written (written_of x) (written_of name)) own)
    ∙ ap (λ (x : Elements). is_name name && is_innermost (written_of name) x.opened) c.self.view_is

pub returns-else-not-is_empty : goal.returns-else-not-is_empty
returns-else-not-is_empty c = rw (c.if-not-is_empty.false)
    (not_innermost c.args.name.now c.args.self.now.opened (eqb-true _ 0 (sym c.is_empty.ensures ∙ c.if-not-is_empty.false)))
