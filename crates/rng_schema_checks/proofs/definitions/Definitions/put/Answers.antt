use Rattle.std.proofs.Common.{◌∙◌, ap}
use Rattle.std.specs.Map.{lookup}
use Rattle.rng_schema_checks.specs.views.Defined.{has_if}
use Rattle.rng_schema_checks.proofs.NamesByPlace.{defined_after, is_at}
use Rattle.rng_schema_checks.proofs.definitions.Definitions.put.Goals as goal

pub returns : goal.returns
returns c = λ x y.
    ap (λ es. has_if (lookup (is_at x) es) y) c.in_ok-insert.ensures.entries
    ∙ defined_after x y c.args.place c.args.names c.args.self.now.by_place.entries
