use Rattle.std.proofs.Common.{◌≡◌, ◌∙◌, [], sym, refl}
use Rattle.std.proofs.lemmas.Bool.{eqb-true}
use Rattle.std.proofs.lemmas.List.{nil_from_length}
use Rattle.pyx.specs.plain.TagReader.{expanded}
use Rattle.pyx.proofs.attributes.expand_attributes.Goals as goal

pub returns-then-is_empty : goal.returns-then-is_empty
unfolding expanded
returns-then-is_empty c =
    let none : c.args.others.now.items ≡ [] =
    sym c.as_slice.ensures.value ∙ nil_from_length _ (eqb-true _ 0 (sym c.is_empty.ensures ∙ c.if-is_empty.true)) in
    rw (none, c.clear.ensures.items) refl
