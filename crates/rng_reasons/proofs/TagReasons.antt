-- Why a start tag leaves nothing, by what the bodies take.
use Rattle.std.proofs.Common.{◌↔◌, ℕ, ◌+◌, List, [], ◌∷◌, ◌++◌, map, take, subst, Option, Some, None, sym}
use Rattle.rng_model.proofs.Members.{contains_mapped}
use Rattle.rng_model.specs.simple.Tree.{Simple}
use Rattle.rng_model.specs.matching.Document.{Attribute, Item}
use Rattle.rng_model.specs.matching.GrammarMatching.{Reading}
use Rattle.rng_deriv_laws.specs.plain.Taking.{Takes}
use Rattle.rng_deriv_table.specs.views.Choices.{SomeTakes}
use Rattle.rng_deriv_table.specs.declared.pattern.PatternNumber.{PatternNumber}
use Rattle.rng_expected.proofs.FoundLeaves.{member_before}
use Rattle.rng_reasons.specs.TagFaults.{IsLeftAfter, IsTagFault, NoneTakesThese}
use Rattle.rng_reasons.specs.declared.tag_faults.TagFault.{TagFault}
use Rattle.rng_reasons.specs.declared.tag_faults.TagFault.TheVariants as faults
use Rattle.rng_reasons.specs.TagReasons.{OneTakes}

-- one of the patterns takes what one of their numbers takes
pub one_of_numbers : (g : Reading) (of : ℕ → Simple ℕ) (ms : List PatternNumber) (xs : List Attribute) (ns : List Item)
    → SomeTakes g of ms xs ns ↔ OneTakes g (map (λ (m : PatternNumber). of m.0) ms) xs ns
one_of_numbers g of ms xs ns = (
  λ d. (of d.0.0, contains_mapped (λ (m : PatternNumber). of m.0) ms d.0 d.1, d.2),
  λ d. let m = member_before (λ (m : PatternNumber). of m.0) d.0 ms d.1 in (m.0, m.1, subst (λ p. Takes g p xs ns) (sym m.2) d.2),
)

-- a fault depends only on what is taken
module _ (A B : List Attribute → List Item → Type 0) (same : (xs : List Attribute) (ns : List Item) → A xs ns ↔ B xs ns) (g : Reading) (trees : List (Simple ℕ)) where
  pub none_either : (xs : List Attribute) → NoneTakesThese A xs → NoneTakesThese B xs
  none_either xs none zs ns d taken = none zs ns d ((same (xs ++ zs) ns).1 taken)

  pub left_either : (xs : List Attribute) (n : PatternNumber) → IsLeftAfter A g trees xs n → IsLeftAfter B g trees xs n
  left_either xs n l = record {
    inside = l.inside;
    allowed = l.allowed;
    takes = λ zs ns d. (
      λ h. (same (xs ++ zs) ns).0 ((l.takes zs ns d).0 h),
      λ h. (l.takes zs ns d).1 ((same (xs ++ zs) ns).1 h),
    );
  }

  pub fault_either : (xs : List Attribute) (fault : Option TagFault) → IsTagFault A g trees xs fault → IsTagFault B g trees xs fault
  fault_either xs None l = (
    l.0,
    record {
      inside = l.1.inside;
      allowed = l.1.allowed;
      bare = l.1.bare;
      takes = λ d ns. (
        λ h. (same xs ns).0 ((l.1.takes d ns).0 h),
        λ h. (l.1.takes d ns).1 ((same xs ns).1 h),
      );
    },
  )
  fault_either xs (Some faults.NoElement) none = λ ys ns taken. none ys ns ((same ys ns).1 taken)
  fault_either xs (Some (faults.Attribute i is_name_taken)) f = record {
    fault = f.fault;
    there = f.there;
    left = f.left;
    before = left_either (take i xs) f.left f.before;
    none = none_either (take (i + 1) xs) f.none;
    named = f.named;
    unnamed = λ is value. none_either (take i xs ++ record { name = f.fault.name; content = value } ∷ []) (f.unnamed is value);
  }
  fault_either xs (Some faults.Missing) m = record {
    left = m.left;
    after = left_either xs m.left m.after;
    none = λ d ns taken. m.none d ns ((same xs ns).1 taken);
  }
