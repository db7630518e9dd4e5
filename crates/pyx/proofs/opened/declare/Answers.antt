use Rattle.std.proofs.Common.{◌≡◌, ◌∙◌, ◌∷◌, [], sym, refl}
use Rattle.std.proofs.lemmas.Bool.{eqb-true}
use Rattle.std.proofs.lemmas.List.{nil_from_length}
use Rattle.pyx.proofs.opened.declare.Goals as goal

pub returns-then-is_empty-clause-declared : goal.returns-then-is_empty-clause-declared
returns-then-is_empty-clause-declared c =
    let none : c.args.tag.now.items ≡ [] = sym c.as_slice.ensures.value ∙ nil_from_length _ (eqb-true _ 0 (sym c.is_empty.ensures ∙ c.if-is_empty.true)) in
    rw none refl

pub returns-clause-known : goal.returns-clause-known
returns-clause-known c = c.forget.ensures (c.args.declarations.now ∷ []) (c.add_tag.new.self ∷ []) c.requires
