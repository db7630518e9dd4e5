-- A text that is copied is written, or does not fit.
use Rattle.std.proofs.Common.{◌≡◌, ◌<◌, ◌++◌, ℕ, List, Option, None, Some, drop, length}
use Rattle.std.specs.Prelude.{IsSomeAnd}
use Rattle.rng_model.specs.simple.Table.{Table}
use Rattle.rncv_c_values.specs.views.Texts.{IsTextOf, IsTooLong, IsWritten}

module _ (text : List ℕ) (count : ℕ) (old : List ℕ) (count_is : count ≡ length text) where
  pub text_written : (held : Option Table) (new : List ℕ) → IsSomeAnd held (λ g. IsTextOf g text) → new ≡ text ++ drop (length text) old
      → IsSomeAnd held (λ g. IsWritten (IsTextOf g) count old new)
  text_written None new is written = is
  text_written (Some g) new is written = record { text = text; is = is; count_is = count_is; written = written }

  pub text_too_long : (held : Option Table) → IsSomeAnd held (λ g. IsTextOf g text) → length old < length text
      → IsSomeAnd held (λ g. IsTooLong (IsTextOf g) count old)
  text_too_long None is long = is
  text_too_long (Some g) is long = record { text = text; is = is; count_is = count_is; too_long = long }
