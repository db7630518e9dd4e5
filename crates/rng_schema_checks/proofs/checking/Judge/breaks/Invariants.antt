use Rattle.std.proofs.Common.{◌≡◌, drop}
use Rattle.std.specs.List.{list_any}
use Rattle.rng_model.specs.views.SchemaView.{place_of}
use Rattle.rng_load.specs.views.PlacedGrammars.{schema_of}
use Rattle.rng_schema_checks.specs.plain.ClauseTests.{is_broken_at}
use Rattle.rng_schema_checks.proofs.checking.Judge.breaks.Given as goal

abbrev pub invariant-loop-place : goal.invariant-loop-place
invariant-loop-place l =
    list_any (λ p. is_broken_at l.self.types l.clause (schema_of l.self.schema.now) (place_of p)) l.place-items ≡
    list_any (λ p. is_broken_at l.self.types l.clause (schema_of l.self.schema.now) (place_of p)) (drop l.place-index l.place-items)
