-- The names of overriding components, as they are looked up.
use Rattle.std.specs.Prelude.{ℕ, List, Bool, Option, Some, None, map}
use Rattle.std.specs.List.{list_any}
use Rattle.std.specs.Str.{bytes_eq}
use Rattle.rng_overrides.specs.declared.overriding_names.OverridingNames.{OverridingNames}

-- one of the names is this one; no name means a start
abbrev pub has_name : OverridingNames → Option (List ℕ) → Bool
has_name names None = names.has_start
has_name names (Some y) = list_any (λ n. bytes_eq y n) (map (λ n. n.now) names.defines.keys)
