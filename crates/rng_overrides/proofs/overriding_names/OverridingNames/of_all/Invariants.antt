use Rattle.std.proofs.Common.{◌≡◌, ◌||◌, map, drop}
use Rattle.rnc_model.specs.loading.Places.{Gathered, is_overridden}
use Rattle.rng_overrides.specs.views.Gathered.{without_grammars}
use Rattle.rng_overrides.specs.views.OverridingNames.{has_name}
use Rattle.rng_overrides.proofs.overriding_names.OverridingNames.of_all.Given as goal

abbrev pub invariant-loop-component : goal.invariant-loop-component
invariant-loop-component g l = (x : Gathered) → is_overridden (map without_grammars l.overriding) x ≡
    (has_name l.names x.component.name || is_overridden (map without_grammars (drop l.component-index l.overriding)) x)
