-- What a start tag may have after some of its attributes (RELAX NG Specification, sections 6.2.7 and 6.2.8).
use Rattle.std.specs.Prelude.{List, [], ◌∷◌, ℕ, Option, Some, None}
use Rattle.rng_model.specs.names.Names.{Name}
use Rattle.rng_model.specs.simple.Tree.{Simple}
use Rattle.rng_model.specs.matching.Document.{Attribute, Item}
use Rattle.rng_model.specs.matching.GrammarMatching.{Reading}
use Rattle.rng_deriv_table.specs.views.Trees.{tree_in}
use Rattle.rng_deriv_table.specs.declared.pattern.PatternNumber.{PatternNumber}
use Rattle.rng_expected.specs.AttributeValues.{IsExpectedValue}
use Rattle.rng_expected.specs.Expectations.{Next}
use Rattle.rng_expected.specs.Tags.{AreBodies, IsTagOf, Tag}
use Rattle.rng_reasons.specs.TagFaults.{IsLeftAfter, NoneTakesThese}
use Rattle.rng_reasons.specs.TagReasons.{OneTakes}

-- the attributes that a tag may still have, the names that it still needs, and what the value of one attribute may be
pub record Options : Type 0 where
  pub tag : Tag
  pub value : Next

module _ (g : Reading) where
  -- by this pattern for what is left, this is what may come; the value is that of an attribute of this name
  pub record AreOptionsOf (p : Simple ℕ) (named : Name) (options : Options) : Type 0 where
    pub tag : IsTagOf (p ∷ []) options.tag
    pub value : IsExpectedValue g (p ∷ []) named options.value

  -- what is left is told by patterns among these trees
  module _ (trees : List (Simple ℕ)) where
    -- given which attributes and items some body takes: the pattern that is left after these attributes, or none if no body
    -- takes them
    abbrev pub IsRest : (List Attribute → List Item → Type 0) → List Attribute → Option PatternNumber → Type 0
    IsRest Taken xs None = NoneTakesThese Taken xs
    IsRest Taken xs (Some n) = IsLeftAfter Taken g trees xs n

    -- this may come after these attributes, or none of the bodies takes them
    abbrev pub IsTagOptions : List (Simple ℕ) → List Attribute → Name → Option Options → Type 0
    IsTagOptions bodies xs named None = IsRest (OneTakes g bodies) xs None
    IsTagOptions bodies xs named (Some options) =
        (n : PatternNumber) × IsRest (OneTakes g bodies) xs (Some n) × AreOptionsOf (tree_in trees n.0) named options

    -- This is what a start tag of this name may have after these attributes, by the alternatives for what remains of the
    -- element around it.
    pub record IsTagOptionsOf (now : List (Simple ℕ)) (q : Name) (xs : List Attribute) (named : Name) (options : Option Options) : Type 0 where
      pub bodies : List (Simple ℕ)
      pub are : AreBodies g now q bodies
      pub is : IsTagOptions bodies xs named options
