-- Why a start tag leaves nothing of the bodies of the elements that its name may begin (RELAX NG Specification, sections
-- 6.2.7 and 6.2.8). Attributes have no order, and no two have one name (Namespaces in XML 1.0, section 6.3). That something
-- is left is told by a pattern of the table in which notAllowed occurs nowhere.
use Rattle.std.specs.Prelude.{◌≡◌, ◌↔◌, ℕ, ◌+◌, ◌<◌, List, [], ◌∷◌, ◌++◌, length, take, slice_get, Bool, false, Option, Some, None}
use Rattle.rng_model.specs.simple.Tree.{Simple}
use Rattle.rng_model.specs.matching.Document.{Attribute, Item, Distinct}
use Rattle.rng_model.specs.matching.GrammarMatching.{Reading}
use Rattle.rng_deriv_laws.specs.plain.Taking.{Takes}
use Rattle.rng_deriv_laws.specs.plain.Restricted.{HasNoAttribute}
use Rattle.rng_deriv_table.specs.views.Trees.{tree_in}
use Rattle.rng_deriv_table.specs.declared.pattern.PatternNumber.{PatternNumber}
use Rattle.rng_reasons.specs.declared.tag_faults.TagFault.{TagFault}
use Rattle.rng_reasons.specs.declared.tag_faults.TagFault.TheVariants as faults
use Rattle.rng_reasons.specs.AllowedPatterns.{HasNoNotAllowed}
use Rattle.rng_reasons.specs.NamedAttributes.{has_named}

-- given which attributes and items some body takes
module _ (Taken : List Attribute → List Item → Type 0) where
  -- no body takes these attributes, whatever others and whatever items are beside them
  abbrev pub NoneTakesThese : List Attribute → Type 0
  NoneTakesThese xs = (zs : List Attribute) (ns : List Item) → Distinct (xs ++ zs) → ¬ (Taken (xs ++ zs) ns)

  -- given the trees of a table of patterns
  module _ (g : Reading) (trees : List (Simple ℕ)) where
    -- the pattern takes exactly what may be beside these attributes
    pub record IsLeftAfter (xs : List Attribute) (n : PatternNumber) : Type 0 where
      pub inside : n.0 < length trees
      pub allowed : HasNoNotAllowed (tree_in trees n.0)
      pub takes : (zs : List Attribute) (ns : List Item) → Distinct (xs ++ zs) → Takes g (tree_in trees n.0) zs ns ↔ Taken (xs ++ zs) ns

    -- the pattern takes exactly the items that may follow a tag of these attributes, and no attribute
    pub record IsLeftAfterTag (xs : List Attribute) (n : PatternNumber) : Type 0 where
      pub inside : n.0 < length trees
      pub allowed : HasNoNotAllowed (tree_in trees n.0)
      pub bare : HasNoAttribute (tree_in trees n.0)
      pub takes : Distinct xs → (ns : List Item) → Takes g (tree_in trees n.0) [] ns ↔ Taken xs ns

    -- The attribute at this place is the first one that nothing takes which is left by those before it. Its name is taken
    -- if an attribute pattern that is left before it has the name; otherwise nothing takes it whatever its value is.
    pub record IsFirstAtFault (xs : List Attribute) (i : ℕ) (is_name_taken : Bool) : Type 0 where
      pub fault : Attribute
      pub there : slice_get xs i ≡ Some fault
      pub left : PatternNumber
      pub before : IsLeftAfter (take i xs) left
      pub none : NoneTakesThese (take (i + 1) xs)
      pub named : is_name_taken ≡ has_named fault.name (tree_in trees left.0)
      pub unnamed : is_name_taken ≡ false → (value : List ℕ) → NoneTakesThese (take i xs ++ record { name = fault.name; content = value } ∷ [])

    -- something is left after these attributes, but no body takes them alone
    pub record AreOthersMissing (xs : List Attribute) : Type 0 where
      pub left : PatternNumber
      pub after : IsLeftAfter xs left
      pub none : Distinct xs → (ns : List Item) → ¬ (Taken xs ns)

    -- this is why a tag of these attributes leaves nothing; none says that something is left
    abbrev pub IsTagFault : List Attribute → Option TagFault → Type 0
    IsTagFault xs None = (n : PatternNumber) × IsLeftAfterTag xs n
    IsTagFault xs (Some faults.NoElement) = (ys : List Attribute) (ns : List Item) → ¬ (Taken ys ns)
    IsTagFault xs (Some (faults.Attribute i is_name_taken)) = IsFirstAtFault xs i is_name_taken
    IsTagFault xs (Some faults.Missing) = AreOthersMissing xs
