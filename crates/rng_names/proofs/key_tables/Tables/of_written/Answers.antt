use Rattle.std.proofs.Common.{subst}
use Rattle.rng_names.specs.plain.SharedKeys.{AreLed}
use Rattle.rng_names.specs.views.KeyTables.{places_in}
use Rattle.rng_names.proofs.key_tables.Tables.of_written.Goals as goal

pub returns : goal.returns
returns c = record {
  told = c.in_ok-places.ensures;
  shared = c.in_ok-shared.ensures.shared;
  led = subst (λ rs. AreLed (places_in c.in_ok-places.places).names rs c.in_ok-shared.shared) c.as_slice.ensures.value c.in_ok-shared.ensures.led;
}
