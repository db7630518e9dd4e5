-- Why a start tag leaves nothing of what may come next, by its name and its attributes (RELAX NG Specification, sections
-- 6.2.7 and 6.2.8).
use Rattle.std.specs.Prelude.{ℕ, List, Contains, Option}
use Rattle.rng_model.specs.names.Names.{Name}
use Rattle.rng_model.specs.simple.Tree.{Simple}
use Rattle.rng_model.specs.matching.Document.{Attribute, Item}
use Rattle.rng_model.specs.matching.GrammarMatching.{Reading}
use Rattle.rng_deriv_laws.specs.plain.Taking.{Takes}
use Rattle.rng_expected.specs.Tags.{AreBodies}
use Rattle.rng_reasons.specs.TagFaults.{IsTagFault}
use Rattle.rng_reasons.specs.declared.tag_faults.TagFault.{TagFault}

-- one of these patterns takes the attributes and the items
abbrev pub OneTakes : Reading → List (Simple ℕ) → List Attribute → List Item → Type 0
OneTakes g ps xs ns = (p : Simple ℕ) × Contains ps p × Takes g p xs ns

-- This is why a start tag of this name with these attributes leaves nothing of the bodies of the elements that it may begin
-- by these alternatives. What is left is told by patterns among these trees.
pub record IsTagFaultOf (g : Reading) (trees now : List (Simple ℕ)) (q : Name) (xs : List Attribute) (fault : Option TagFault) : Type 0 where
  pub bodies : List (Simple ℕ)
  pub are : AreBodies g now q bodies
  pub is : IsTagFault (OneTakes g bodies) g trees xs fault
