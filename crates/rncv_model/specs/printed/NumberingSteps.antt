-- A numbering step by step, as it is computed.
use Rattle.std.specs.Prelude.{ℕ, zero, suc, ◌+◌, Bool, List, slice_get, Option, Some, None}
use Rattle.rncv_model.specs.printed.Items.{and_new, first_times}

module _ {A : Type 0} (same : A → A → Bool) where
  -- As long as something is written and has no line, the first such thing
  -- gets its line. In `numbered_from`, `lines` is the number of lines so far.
  abbrev pub numbered_at : Option A → (A → List A → List A) → List A → List A
  numbered_at None next written = written
  numbered_at (Some a) next written = next a written

  unfoldable pub numbered_from : (A → List A) → ℕ → ℕ → List A → List A
  numbered_from line zero lines written = written
  numbered_from line (suc steps) lines written =
      numbered_at (slice_get written lines) (λ a written. numbered_from line steps (1 + lines) (and_new same written (line a))) written

  unfoldable pub numbered : ℕ → List A → (A → List A) → List A
  numbered steps start line = numbered_from line steps 0 (first_times same start)
