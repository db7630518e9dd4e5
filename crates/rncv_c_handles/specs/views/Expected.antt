-- What may come next in the document that a handle holds, and what a tag may have.
use Rattle.std.specs.Prelude.{◌≡◌, ◌⊎◌, ℕ, List, Option, Some, None}
use Rattle.rng_model.specs.documents.PyxTrees.{Event}
use Rattle.rng_model.specs.names.Names.{Name}
use Rattle.rng_model.specs.matching.GrammarMatching.{reading_of}
use Rattle.rng_deriv.specs.views.Followers.{MayFollow, MayHave}
use Rattle.rng_expected.specs.Expectations.{Next}
use Rattle.rng_expected.specs.Tags.{Tag}
use Rattle.expected_text.specs.ExpectationText.{expectation_text, tag_text}
use Rattle.rncv_validator.specs.views.FedDocuments as fed
use Rattle.rncv_events.specs.views.Told as told
use Rattle.rncv_c_values.specs.views.Attributes.{IsTextName}
use Rattle.rncv_c_values.specs.declared.status.Status.{Status}
use Rattle.rncv_c_values.specs.declared.status.Status.TheVariants as status
use Rattle.rncv_c_handles.specs.views.Held.{document_in, events_in}
use Rattle.rncv_c_handles.specs.declared.handle.Held.{Held}
use Rattle.rncv_c_handles.specs.declared.handle.Held.TheVariants.{Schema, Document, Events}

-- as `Document::expected` promises, of what was fed
abbrev pub MayFollowFed : fed.Judging → Next → Type 0
MayFollowFed d next = (bytes : List ℕ) (fed : fed.HasBeenFed d bytes) → MayFollow (reading_of d.grammar) d.matching next fed.events

-- as `EventDocument::expected` promises, of the calls that were taken
abbrev pub MayFollowCalls : told.Judging → Next → Type 0
MayFollowCalls d next = (calls : List Event) (taken : told.HasTaken d calls) → MayFollow (reading_of d.grammar) d.matching next taken.events

-- this may follow in the document that is held; none is held otherwise
abbrev pub MayFollowIn : Option Held → Next → Type 0
MayFollowIn None next = ⊥
MayFollowIn (Some (Schema grammar)) next = ⊥
MayFollowIn (Some (Document document)) next = MayFollowFed document next
MayFollowIn (Some (Events document)) next = MayFollowCalls document next

-- the text is that of what may follow
pub record IsExpectationIn (held : Option Held) (text : List ℕ) : Type 0 where
  pub next : Next
  pub follows : MayFollowIn held next
  pub text_is : text ≡ expectation_text next

abbrev pub HoldsNoDocument : Option Held → Type 0
HoldsNoDocument held = (document_in held ≡ None) × (events_in held ≡ None)

-- as `EventDocument::expected_tag` promises, of the calls that were taken
pub record IsTagText (q : Name) (d : told.Judging) (text : List ℕ) : Type 0 where
  pub tag : Tag
  pub may : (calls : List Event) (taken : told.HasTaken d calls) → MayHave (reading_of d.grammar) d.matching q tag taken.events
  pub text_is : text ≡ tag_text tag

-- the status of a call for a tag that gives no text, though a document of events is begun
abbrev pub IsFaultOfTag : Name → Status → Type 0
IsFaultOfTag q s = ((s ≡ status.Memory) × IsTextName q) ⊎ ((s ≡ status.Malformed) × ¬ (IsTextName q))
