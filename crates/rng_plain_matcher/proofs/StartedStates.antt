-- The states inside the bodies that a start opens, one way at a time.
use Rattle.std.proofs.Common.{◌≡◌, ◌∙◌, ℕ, List, ◌∷◌, Option, Some, None, ap, ap₂, sym}
use Rattle.rng_model.specs.names.Names.{Name}
use Rattle.rng_model.specs.simple.Tree.{Simple}
use Rattle.rng_model.specs.matching.Document.{Attribute}
use Rattle.rng_model.specs.matching.GrammarMatching.{Reading}
use Rattle.rng_deriv_laws.specs.plain.Derivatives.{Way, after_attributes, bodies_of, closed}
use Rattle.rng_deriv_laws.specs.plain.States.{State, after_of, either_of, enter}
use Rattle.rng_plain_matcher.specs.plain.Bodies.{body_named}
use Rattle.rng_plain_matcher.proofs.GrammarRows.{bodies_more, with_body}

module _ (g : Reading) (q : Name) (xs : List Attribute) (leaf rest : Simple ℕ) (ws : List Way) (outer : State) where
  with_option : (o : Option (Simple ℕ)) → o ≡ body_named g q leaf
      → enter g xs (bodies_of g q (record { leaf = leaf; rest = rest } ∷ ws)) outer ≡ enter g xs (with_body o rest (bodies_of g q ws)) outer
  with_option o is =
      ap (λ l. enter g xs l outer) (bodies_more g q leaf rest ws) ∙ ap (λ o. enter g xs (with_body o rest (bodies_of g q ws)) outer) (sym is)

  pub not_opened : (others : State) → None ≡ body_named g q leaf → others ≡ enter g xs (bodies_of g q ws) outer
      → others ≡ enter g xs (bodies_of g q (record { leaf = leaf; rest = rest } ∷ ws)) outer
  not_opened others none is = is ∙ sym (with_option None none)

  pub one_opened : (body : Simple ℕ) (inside others : State) → Some body ≡ body_named g q leaf
      → inside ≡ after_of (closed (after_attributes g body xs)) (after_of rest outer) → others ≡ enter g xs (bodies_of g q ws) outer
      → either_of inside others ≡ enter g xs (bodies_of g q (record { leaf = leaf; rest = rest } ∷ ws)) outer
  one_opened body inside others named opened is = ap₂ either_of opened is ∙ sym (with_option (Some body) named)
