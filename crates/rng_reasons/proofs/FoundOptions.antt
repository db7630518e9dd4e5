-- What a tag may have after some attributes, by what is left of the bodies that were found.
use Rattle.std.proofs.Common.{ℕ, List, map, Some, None}
use Rattle.rng_model.specs.names.Names.{Name}
use Rattle.rng_model.specs.simple.Tree.{Simple}
use Rattle.rng_model.specs.matching.Document.{Attribute}
use Rattle.rng_model.specs.matching.GrammarMatching.{Reading}
use Rattle.rng_deriv_table.specs.views.Choices.{SomeTakes}
use Rattle.rng_deriv_table.specs.views.Trees.{tree_in}
use Rattle.rng_deriv_table.specs.declared.pattern.PatternNumber.{PatternNumber}
use Rattle.rng_expected.specs.Tags.{AreBodies}
use Rattle.rng_reasons.specs.TagOptions.{AreOptionsOf, IsRest, IsTagOptionsOf, Options}
use Rattle.rng_reasons.specs.TagReasons.{OneTakes}
use Rattle.rng_reasons.proofs.TagReasons.{left_either, none_either, one_of_numbers}

module _ (g : Reading) (trees : List (Simple ℕ)) (of : ℕ → Simple ℕ) (now : List (Simple ℕ)) (q : Name) (xs : List Attribute) (named : Name)
    (numbers : List PatternNumber) (are : AreBodies g now q (map (λ (n : PatternNumber). of n.0) numbers)) where
  abbrev bodies : List (Simple ℕ)
  bodies = map (λ (n : PatternNumber). of n.0) numbers

  pub no_options : IsRest g trees (SomeTakes g of numbers) xs None → IsTagOptionsOf g trees now q xs named None
  no_options none = record {
    bodies = bodies;
    are = are;
    is = none_either (SomeTakes g of numbers) (OneTakes g bodies) (one_of_numbers g of numbers) g trees xs none;
  }

  pub some_options : (n : PatternNumber) → IsRest g trees (SomeTakes g of numbers) xs (Some n) → (o : Options)
      → AreOptionsOf g (tree_in trees n.0) named o → IsTagOptionsOf g trees now q xs named (Some o)
  some_options n left o is = record {
    bodies = bodies;
    are = are;
    is = (n, left_either (SomeTakes g of numbers) (OneTakes g bodies) (one_of_numbers g of numbers) g trees xs n left, is);
  }
