-- Definitions in an order, and a rest that cannot be ordered.
use Rattle.std.proofs.Common.{◌⊎◌, List, Contains}
use Rattle.rng_model.specs.schema.Schema.{Schema, Definition}
use Rattle.rng_model.specs.schema.Unfolding.{Aim}
use Rattle.rng_model.proofs.Unfolding.{IsStuck}
use Rattle.rng_simple.specs.plain.Met.{Met, IsSettled, IsOrder}

-- the result of sorting definitions: an order and a stuck rest, which together have everything that is met
pub record IsSplit (s : Schema) (ds : List Definition) (Rest : Definition → Type 0) : Type 0 where
  pub order : IsOrder s ds
  pub stuck : IsStuck s Rest
  pub all : (w : Aim) → Met s w → IsSettled (λ d. Contains ds d ⊎ Rest d) w
