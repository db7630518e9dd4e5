-- Why a tag leaves nothing stays so when patterns are added to the table.
use Rattle.std.proofs.Common.{◌≡◌, ◌↔◌, ℕ, ◌<◌, List, [], ◌∷◌, ◌++◌, All, Bool, true, false, arith, length, map, take, Option, Some, None, subst, sym, refl}
use Rattle.std.proofs.Common.{ap₂, inl, inr}
use Rattle.std.proofs.lemmas.List.Elements.{All-head, All-tail}
use Rattle.rng_model.specs.names.Names.{Name}
use Rattle.rng_model.specs.simple.Table.{Table}
use Rattle.rng_model.specs.simple.Tree.{Simple}
use Rattle.rng_model.specs.matching.Document.{Attribute, Item, Distinct}
use Rattle.rng_model.specs.matching.GrammarMatching.{Reading, reading_of}
use Rattle.rng_deriv_laws.specs.plain.Restricted.{HasNoAttribute}
use Rattle.rng_deriv_laws.specs.plain.Taking.{Takes}
use Rattle.rng_deriv_table.specs.views.Node.{Node}
use Rattle.rng_deriv_table.specs.views.PatternTable.{Longer}
use Rattle.rng_deriv_table.specs.views.Trees.{tree_of, trees}
use Rattle.rng_deriv_table.specs.declared.pattern.PatternNumber.{PatternNumber}
use Rattle.rng_deriv_table.proofs.Trees.{Longer-length, length-trees, tree_stays}
use Rattle.rng_reasons.specs.AllowedPatterns.{HasNoNotAllowed}
use Rattle.rng_reasons.specs.NamedAttributes.{has_named}
use Rattle.rng_reasons.specs.Reasons.{IsTextFaulty}
use Rattle.rng_reasons.specs.TagFaults.{IsLeftAfter, IsTagFault}
use Rattle.rng_reasons.specs.TagReasons.{IsTagFaultOf, OneTakes}
use Rattle.rng_reasons.specs.declared.tag_faults.TagFault.{TagFault}
use Rattle.rng_reasons.specs.declared.tag_faults.TagFault.TheVariants as faults

module _ (t : Table) (old new : List Node) (longer : Longer old new) where
  -- the trees of numbers of the table
  pub trees_same : (ns : List PatternNumber) → All (λ (n : PatternNumber). n.0 < length old) ns
      → map (λ (n : PatternNumber). tree_of t new n.0) ns ≡ map (λ (n : PatternNumber). tree_of t old n.0) ns
  trees_same [] all = refl
  trees_same (n ∷ ns) all =
      let P : PatternNumber → Type 0 = λ n. n.0 < length old in
      ap₂ (λ p ps. p ∷ ps) (tree_stays t old new n.0 longer (All-head P n ns all)) (trees_same ns (All-tail P n ns all))

  -- a number of the table is still one
  pub there_stays : (n : PatternNumber) → n.0 < length old → n.0 < length new
  there_stays n inside = let more = Longer-length old new longer in omega (arith, inside, more)

  module _ (Taken : List Attribute → List Item → Type 0) where
    abbrev g : Reading
    g = reading_of t

    inside_old : (n : PatternNumber) → n.0 < length (trees t old) → n.0 < length old
    inside_old n inside = subst (λ l. n.0 < l) (length-trees t old) inside

    same : (n : PatternNumber) → n.0 < length (trees t old) → tree_of t old n.0 ≡ tree_of t new n.0
    same n inside = sym (tree_stays t old new n.0 longer (inside_old n inside))

    inside_new : (n : PatternNumber) → n.0 < length (trees t old) → n.0 < length (trees t new)
    inside_new n inside = subst (λ l. n.0 < l) (sym (length-trees t new)) (there_stays n (inside_old n inside))

    left_stays : (xs : List Attribute) (n : PatternNumber) → IsLeftAfter Taken g (trees t old) xs n → IsLeftAfter Taken g (trees t new) xs n
    left_stays xs n l = record {
      inside = inside_new n l.inside;
      allowed = subst HasNoNotAllowed (same n l.inside) l.allowed;
      takes = subst (λ (p : Simple ℕ). (zs : List Attribute) (ns : List Item) → Distinct (xs ++ zs) → Takes g p zs ns ↔ Taken (xs ++ zs) ns) (same n l.inside) l.takes;
    }

    pub fault_stays : (xs : List Attribute) (fault : Option TagFault) → IsTagFault Taken g (trees t old) xs fault → IsTagFault Taken g (trees t new) xs fault
    fault_stays xs None l = (
      l.0,
      record {
        inside = inside_new l.0 l.1.inside;
        allowed = subst HasNoNotAllowed (same l.0 l.1.inside) l.1.allowed;
        bare = subst HasNoAttribute (same l.0 l.1.inside) l.1.bare;
        takes = subst (λ (p : Simple ℕ). Distinct xs → (ns : List Item) → Takes g p [] ns ↔ Taken xs ns) (same l.0 l.1.inside) l.1.takes;
      },
    )
    fault_stays xs (Some faults.NoElement) none = none
    fault_stays xs (Some (faults.Attribute i is_name_taken)) f = record {
      fault = f.fault;
      there = f.there;
      left = f.left;
      before = left_stays (take i xs) f.left f.before;
      none = f.none;
      named = subst (λ (p : Simple ℕ). is_name_taken ≡ has_named f.fault.name p) (same f.left f.before.inside) f.named;
      unnamed = f.unnamed;
    }
    fault_stays xs (Some faults.Missing) m = record { left = m.left; after = left_stays xs m.left m.after; none = m.none }

  module _ (now : List (Simple ℕ)) (q : Name) (xs : List Attribute) where
    pub fault_of_stays : (fault : Option TagFault) → IsTagFaultOf (reading_of t) (trees t old) now q xs fault → IsTagFaultOf (reading_of t) (trees t new) now q xs fault
    fault_of_stays fault f =
        record { bodies = f.bodies; are = f.are; is = fault_stays (OneTakes (reading_of t) f.bodies) xs fault f.is }

    pub text_stays : (b : Bool) → IsTextFaulty (reading_of t) (trees t old) q xs now b → IsTextFaulty (reading_of t) (trees t new) q xs now b
    text_stays true (inl none) = inl none
    text_stays true (inr f) = inr (fault_of_stays None f)
    text_stays false right = (right.0, (right.1.0, fault_of_stays (Some right.1.0) right.1.1))
