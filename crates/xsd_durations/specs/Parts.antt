-- Parts of the definition of the duration that a text writes.
use Rattle.std.specs.Prelude.{List, ℕ, Bool, Option}
use Rattle.rng_model.specs.xsd.primitives.Fronts.{◌>>=◌, after}
use Rattle.rng_model.specs.xsd.primitives.Durations.{Duration, duration_fields}

-- `P` and the numbers
abbrev pub period : Bool → List ℕ → Option Duration
period minus s = after 0x50 s >>= duration_fields minus
