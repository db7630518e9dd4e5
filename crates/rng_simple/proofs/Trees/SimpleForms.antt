-- Each tree has exactly one simple form, and the function returns it.
use Rattle.std.proofs.Common.{◌≡◌, ap, ◌∙◌, sym}
use Rattle.rng_model.specs.simple.Tree.{Tree, as_tree}
use Rattle.rng_model.specs.simple.Simplification.{IsSimpleFormOf}
use Rattle.rng_simple.specs.plain.SimpleOf.{simple_of}
use Rattle.rng_simple.proofs.Trees.StepSimpleOf.{steps_keep}
use Rattle.rng_simple.proofs.Trees.NoStep.{unchanged}
use Rattle.rng_simple.proofs.Trees.ReachedValues.{reached}
use Rattle.rng_simple.proofs.Trees.NormalValues.{normal}

module _ {L : Type 0} where
  pub has_simple_form : (a : Tree L) → IsSimpleFormOf a (as_tree (simple_of a))
  has_simple_form a = record { reached = reached a; last = λ b s. normal a s.0 b s.1 }

  pub is_only_simple_form : (a b : Tree L) → IsSimpleFormOf a b → b ≡ as_tree (simple_of a)
  is_only_simple_form a b f = sym (unchanged b (λ g c s. f.last c (g, s))) ∙ ap as_tree (sym (steps_keep f.reached))
