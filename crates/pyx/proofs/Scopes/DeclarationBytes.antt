-- The bytes of declarations in a list of which the innermost is last.
use Rattle.std.proofs.Common.{◌≡◌, ◌∙◌, List, [], ◌∷◌, ◌++◌, ap, length, map, reverse}
use Rattle.std.proofs.lemmas.List.{reverse-append}
use Rattle.rng_model.specs.documents.PyxHeld.{name_length}
use Rattle.pyx.specs.declared.namespaces.places.Declaration.{Declaration}
use Rattle.pyx.specs.plain.Held.{declarations_held, plus}
use Rattle.pyx.specs.views.DeclarationView.{declaration_of}

pub held_push : (all rest : List Declaration) (last : Declaration) → all ≡ rest ++ last ∷ []
    → declarations_held (map declaration_of (reverse all))
    ≡ plus (plus (name_length (declaration_of last).name) (length (declaration_of last).content)) (declarations_held (map declaration_of (reverse rest)))
unfolding declarations_held
held_push all rest last parts = ap (λ (x : List Declaration). declarations_held (map declaration_of (reverse x))) parts
    ∙ ap (λ (x : List Declaration). declarations_held (map declaration_of x)) (reverse-append rest (last ∷ []))
