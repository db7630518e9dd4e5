-- Calls that tell a document, without the texts of some of the blank strings that are beside elements.
use Rattle.std.specs.Prelude.{⊤, ◌≡◌, ℕ, List, [], ◌∷◌, ◌++◌, Bool, true, false}
use Rattle.rng_model.specs.datatypes.Texts.{is_blank}
use Rattle.rng_model.specs.documents.PyxTrees.{Event, EventKind, a_start, a_string, an_end}
use Rattle.element_events.specs.views.Told.{call}

-- the calls are texts, and P holds of each
pub data AreTexts (P : List ℕ → Type 0) : List Event → Type 0 where
  no_text : AreTexts P []
  text_and : {n : ℕ} {s : List ℕ} {more : List Event} → P s → AreTexts P more → AreTexts P (call n (a_string s) ∷ more)

abbrev pub IsTag : EventKind → Type 0
IsTag (a_start q xs) = ⊤
IsTag (a_string s) = ⊥
IsTag an_end = ⊤

abbrev pub is_end : EventKind → Bool
is_end (a_start q xs) = false
is_end (a_string s) = false
is_end an_end = true

-- A string between two tags is beside an element: the second is this tag, a start, or the first is an end, which `ended`
-- says.
abbrev pub IsBeside : Bool → EventKind → Type 0
IsBeside ended (a_start q xs) = ⊤
IsBeside ended (a_string s) = ⊥
IsBeside ended an_end = ended ≡ true

-- The second calls are the first ones, where some runs of texts are left out: all texts between two tags, which are blank
-- and beside an element. The truth value says whether an end is before the calls.
pub data LeaveOutTexts : Bool → List Event → List Event → Type 0 where
  last_texts : {b : Bool} {run : List Event} → AreTexts (λ s. ⊤) run → LeaveOutTexts b run run
  texts_stay : {b : Bool} {cs ds : List Event} (run : List Event) (n : ℕ) (k : EventKind) → AreTexts (λ s. ⊤) run → IsTag k
      → LeaveOutTexts (is_end k) cs ds → LeaveOutTexts b (run ++ call n k ∷ cs) (run ++ call n k ∷ ds)
  texts_out : {b : Bool} {cs ds : List Event} (run : List Event) (n : ℕ) (k : EventKind) → AreTexts (λ s. is_blank s ≡ true) run → IsBeside b k
      → LeaveOutTexts (is_end k) cs ds → LeaveOutTexts b (run ++ call n k ∷ cs) (call n k ∷ ds)
