-- Why a start or an end tag leaves nothing (RELAX NG Specification, sections 6.2.7 and 6.2.8).
use Rattle.std.specs.Prelude.{◌≡◌, ◌⊎◌, ℕ, List, Bool, true, false, Option, Some, None}
use Rattle.rng_model.specs.names.Names.{Name, NameClass}
use Rattle.rng_model.specs.simple.Tree.{Simple}
use Rattle.rng_model.specs.matching.Document.{Attribute}
use Rattle.rng_model.specs.matching.GrammarMatching.{Reading}
use Rattle.rng_expected.specs.Expectations.{IsElementOf, IsOfStrings, SomeBegins}
use Rattle.rng_reasons.specs.TagReasons.{IsTagFaultOf}
use Rattle.rng_reasons.specs.declared.reasons.Reason.{Reason}
use Rattle.rng_reasons.specs.declared.reasons.Reason.TheVariants as reasons
use Rattle.rng_reasons.specs.declared.tag_faults.TagFault.{TagFault}

-- the alternatives for what remains of the innermost open element
pub record Alternatives : Type 0 where
  -- behind the string since the last tag, given that an element is beside it; a blank string counts as nothing
  pub behind : List (Simple ℕ)
  -- in place of that string
  pub in_place : List (Simple ℕ)
  -- whether it is not blank
  pub has_text : Bool

-- a text that is not blank may come
abbrev pub MayBeText : List (Simple ℕ) → Type 0
MayBeText now = SomeBegins now IsOfStrings

-- some element may start
abbrev pub MayBeElement : Reading → List (Simple ℕ) → Type 0
MayBeElement g now = (c : NameClass) × SomeBegins now (IsElementOf g.grammar c)

-- what is left is told by patterns among these trees
module _ (g : Reading) (trees : List (Simple ℕ)) (q : Name) (xs : List Attribute) where
  -- given the alternatives in place of the text before a start: no text may come there, or the start leaves something
  -- without it
  abbrev pub IsTextAtFault : List (Simple ℕ) → Type 0
  IsTextAtFault now = ¬ (MayBeText now) ⊎ IsTagFaultOf g trees now q xs None

  -- a text may come there, and the start leaves nothing without it either
  abbrev pub IsTextRight : List (Simple ℕ) → Type 0
  IsTextRight now = MayBeText now × ((f : TagFault) × IsTagFaultOf g trees now q xs (Some f))

  abbrev pub IsTextFaulty : List (Simple ℕ) → Bool → Type 0
  IsTextFaulty now true = IsTextAtFault now
  IsTextFaulty now false = IsTextRight now

  -- this is why a start of this name with these attributes leaves nothing; none says that it leaves something
  abbrev pub IsStartReason : Alternatives → Option Reason → Type 0
  IsStartReason left None = IsTagFaultOf g trees left.behind q xs None
  IsStartReason left (Some reasons.Text) =
      (left.has_text ≡ true) × IsTextAtFault left.in_place × ((f : TagFault) × IsTagFaultOf g trees left.behind q xs (Some f))
  IsStartReason left (Some (reasons.Tag f)) = ((left.has_text ≡ false) ⊎ IsTextRight left.in_place) × IsTagFaultOf g trees left.behind q xs (Some f)
  IsStartReason left (Some reasons.TextValue) = ⊥
  IsStartReason left (Some reasons.Incomplete) = ⊥
  IsStartReason left (Some reasons.NothingMatches) = ⊥

-- this is why an end leaves nothing, where it may not come
abbrev pub IsEndReason : Reading → Alternatives → Reason → Type 0
IsEndReason g left reasons.Text = (left.has_text ≡ true) × ¬ (MayBeText left.in_place)
IsEndReason g left reasons.TextValue = (left.has_text ≡ true) × MayBeText left.in_place × ¬ (MayBeElement g left.behind)
IsEndReason g left reasons.Incomplete = (left.has_text ≡ false) ⊎ (MayBeText left.in_place × MayBeElement g left.behind)
IsEndReason g left (reasons.Tag f) = ⊥
IsEndReason g left reasons.NothingMatches = ⊥
