-- Views of the grammars that are left to be put at their places.
use Rattle.rng_model.specs.schema.Patterns.{Place}
use Rattle.rng_model.specs.views.SchemaView.{place_of}
use Rattle.rnc_model.specs.loading.Places.{Nested}
use Rattle.rng_load.specs.declared.schema_reader.PendingGrammar.{PendingGrammar}
use Rattle.rng_load.specs.views.ReadPatterns.{nested_of}

-- a grammar that is left, and the place of the grammar around it
pub record Pending : Type 0 where
  pub outer : Place
  pub nested : Nested

abbrev pub pending_of : PendingGrammar → Pending
pending_of p = record { outer = place_of p.outer; nested = nested_of p.nested }
