-- Why a start or an end leaves nothing of the document of events that a handle holds, and what is held of it.
use Rattle.std.specs.Prelude.{◌≡◌, ℕ, List, length, Option, None, false, true}
use Rattle.rng_model.specs.matching.Document.{Attribute}
use Rattle.rng_model.specs.matching.GrammarMatching.{reading_of}
use Rattle.rng_model.specs.names.Names.{Name}
use Rattle.rng_model.specs.documents.PyxTrees.{Event}
use Rattle.rng_deriv.specs.views.Followers.{HasStartReason, IsReason, MayReplace, TellsNone}
use Rattle.rng_deriv.specs.views.Matchers.{trees_in}
use Rattle.rng_deriv_events.specs.views.Inputs.{tests_strings}
use Rattle.rng_deriv_events.specs.views.Positions.{KeepsTag, StaysInMode}
use Rattle.rng_expected.specs.Expectations.{Next}
use Rattle.expected_text.specs.ExpectationText.{expectation_text}
use Rattle.rng_reasons.specs.declared.reasons.Reason.{Reason}
use Rattle.rncv_events.specs.views.Ending.{IsWhyNoEnd}
use Rattle.rncv_events.specs.views.Documents.{failed_since}
use Rattle.rncv_events.specs.views.Told.{HasTaken, Judging}
use Rattle.rncv_validator.specs.views.Documents as documents
use Rattle.rncv_validator.specs.views.FedDocuments as fed
use Rattle.rncv_c_values.specs.views.Reasons.{reason_numbers}
use Rattle.rncv_c_values.specs.declared.reasons.ReasonNumbers.{ReasonNumbers}

-- the numbers tell what `EventDocument::start_reason` promises
pub record TellsStartReason (q : Name) (xs : List Attribute) (told : ReasonNumbers) (old new : Judging) : Type 0 where
  pub reason : Option Reason
  pub is : (calls : List Event) (taken : HasTaken old calls)
      → HasStartReason (reading_of old.grammar) old.matching.progress (trees_in new.matching) q xs reason taken.events
  pub told_is : told ≡ reason_numbers reason
  pub mode : StaysInMode old.matching.progress new.matching.progress

-- the numbers tell what `EventDocument::end_reason` promises
pub record TellsEndReason (told : ReasonNumbers) (old new : Judging) : Type 0 where
  pub reason : Option Reason
  pub is : (calls : List Event) (taken : HasTaken old calls)
      → IsWhyNoEnd (reading_of old.grammar) old.matching.progress new.matching reason taken.events
  pub told_is : told ≡ reason_numbers reason
  pub mode : StaysInMode old.matching.progress new.matching.progress

-- the numbers tell what `EventDocument::reason` promises
pub record TellsReason (told : ReasonNumbers) (old new : Judging) : Type 0 where
  pub reason : Option Reason
  pub is : (calls : List Event) (taken : HasTaken old calls)
      → IsReason (reading_of old.grammar) old.matching.progress (trees_in new.matching) reason taken.events
  pub none : TellsNone old.matching.progress reason
  pub told_is : told ≡ reason_numbers reason
  pub mode : StaysInMode old.matching.progress new.matching.progress

-- the same of `Document::reason`
pub record TellsFedReason (told : ReasonNumbers) (old new : fed.Judging) : Type 0 where
  pub reason : Option Reason
  pub is : (bytes : List ℕ) (fed : fed.HasBeenFed old bytes)
      → IsReason (reading_of old.grammar) old.matching.progress (trees_in new.matching) reason fed.events
  pub none : TellsNone old.matching.progress reason
  pub told_is : told ≡ reason_numbers reason
  pub mode : StaysInMode old.matching.progress new.matching.progress

-- the bytes that were fed still are
abbrev pub StillHasBeenFed : fed.Judging → fed.Judging → Type 0
StillHasBeenFed old new = (bytes : List ℕ) → fed.HasBeenFed old bytes → fed.HasBeenFed new bytes

-- what `EventDocument::want_reasons` promises: the calls that were taken still are, and a start is kept from now on
pub record WantsReasons (old new : Judging) : Type 0 where
  pub grammar : new.grammar ≡ old.grammar
  pub taken : (calls : List Event) → HasTaken old calls → HasTaken new calls
  pub fault : new.fault ≡ old.fault
  pub since : failed_since new ≡ failed_since old
  pub wanted : failed_since old ≡ None → KeepsTag true new.matching.progress

-- the same of `Document::want_reasons`, and what was fed stays
pub record WantsFedReasons (old new : fed.Judging) : Type 0 where
  pub grammar : new.grammar ≡ old.grammar
  pub stays : (bytes : List ℕ) → fed.HasBeenFed old bytes → fed.HasBeenFed new bytes
  pub fault : new.fault ≡ old.fault
  pub since : documents.failed_since new ≡ documents.failed_since old
  pub wanted : documents.failed_since old ≡ None → KeepsTag true new.matching.progress

-- so many bytes are held of the text behind the last start or end, and none where nothing tests what it says
pub record IsHeldBy (count : ℕ) (d : Judging) : Type 0 where
  pub count_is : count ≡ length d.calls.state.text
  pub nothing : d.fault ≡ None → tests_strings d.matching.progress ≡ false → count ≡ 0

-- the text of what may come in place of the string since the last start or end, as `EventDocument::expected_in_place`
-- promises
pub record IsReplacementText (d : Judging) (text : List ℕ) : Type 0 where
  pub next : Next
  pub replaces : (calls : List Event) (taken : HasTaken d calls) → MayReplace (reading_of d.grammar) d.matching next taken.events
  pub text_is : text ≡ expectation_text next
