-- A moment that is written in another time zone is the same: clock and zone are shifted by as much.
use Rattle.std.proofs.Common.{◌≡◌, ℕ, ◌+◌, ◌*◌, true, ap, arith}
use Rattle.rng_model.specs.xsd.primitives.Calendar.{minute}
use Rattle.rng_model.specs.xsd.primitives.Zones.{Moment, ahead, behind, in_zone}

abbrev known : ℕ → Moment
known n = record { zoned = true; at = n }

-- a zone that is further ahead shows a later time
pub further_ahead : (n minutes more : ℕ) → in_zone (ahead (minutes + more)) (n + more * minute) ≡ in_zone (ahead minutes) n
further_ahead n minutes more = ap known (omega arith)

-- a zone that is further behind shows an earlier time
pub further_behind : (n minutes more : ℕ) → in_zone (behind (minutes + more)) n ≡ in_zone (behind minutes) (n + more * minute)
further_behind n minutes more = ap known (omega arith)

-- a zone that is ahead shows a later time than one that is behind
pub ahead_or_behind : (n minutes more : ℕ) → in_zone (ahead minutes) (n + (minutes + more) * minute) ≡ in_zone (behind more) n
ahead_or_behind n minutes more = ap known (omega arith)

-- `+00:00`, `-00:00` and `Z` are the same zone
pub no_offset : (n : ℕ) → in_zone (ahead 0) n ≡ in_zone (behind 0) n
no_offset n = ap known (omega arith)
