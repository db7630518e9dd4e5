-- The state after calls, and which calls are refused.
use Rattle.std.specs.Prelude.{◌≡◌, ℕ, ◌==◌, Bool, true, false, ◌&&◌, not, List, [], ◌∷◌, ◌++◌}
use Rattle.rng_model.specs.datatypes.Texts.{is_blank}
use Rattle.rng_model.specs.documents.PyxTrees.{Event, EventKind, a_start, a_string, an_end}
use Rattle.rng_model.specs.documents.Telling.{IsGood, depth_after, text_after, events_at}

pub record State : Type 0 where
  -- how many elements are open
  pub depth : ℕ
  -- whether the root has begun
  pub root : Bool
  -- the text behind which no start or end has come
  pub text : List ℕ

abbrev pub nothing_taken : State
nothing_taken = record { depth = 0; root = false; text = [] }

-- nothing of this kind can come where so many elements are open
abbrev pub is_misplaced : EventKind → ℕ → Bool → Bool
is_misplaced (a_start q xs) depth root = root && depth == 0
is_misplaced (a_string s) depth root = depth == 0 && not (is_blank s)
is_misplaced an_end depth root = depth == 0

abbrev pub root_after : EventKind → Bool → Bool
root_after (a_start q xs) root = true
root_after (a_string s) root = root
root_after an_end root = root

abbrev pub after : EventKind → State → State
after kind s = record { depth = depth_after kind s.depth; root = root_after kind s.root; text = text_after kind s.depth s.text }

-- these calls were taken, and led to this state and these events
pub data AreTaken : List Event → State → List Event → Type 0 where
  none_taken : AreTaken [] nothing_taken []
  one_more : {calls all sent out : List Event} {s t : State} (c : Event) → AreTaken calls s sent → IsGood c.kind → is_misplaced c.kind s.depth s.root ≡ false →
      all ≡ calls ++ c ∷ [] → t ≡ after c.kind s → out ≡ sent ++ events_at c.line c.kind s.text → AreTaken all t out
