-- The bounds of the code, and the ordered types.
use Rattle.std.specs.Prelude.{ℕ, List, Bool, true, Option, None}
use Rattle.rng_model.specs.xsd.Limits as written
use Rattle.xsd_limits.specs.declared.limits.Limits.{Limits}

abbrev pub limits_of : {B : Type 0} → Limits B → written.Limits B
limits_of l = record {
  min_inclusive = l.min_inclusive;
  min_exclusive = l.min_exclusive;
  max_inclusive = l.max_inclusive;
  max_exclusive = l.max_exclusive;
}

-- the ordered type without bounds of its own whose values are ordered so, and that texts write so
abbrev pub ordered : {B : Type 0} → (B → B → Bool) → (B → B → Bool) → (List ℕ → Option B) → written.Ordered B
ordered at_most less value_of = record { value_of = value_of; has = λ b. true; is_at_most = at_most; is_less = less }

-- no text writes a value: of which values are within bounds, the texts say nothing
abbrev pub nothing : {B : Type 0} → List ℕ → Option B
nothing s = None
