use Rattle.std.proofs.Common.{◌≡◌, ◌++◌, length, map}
use Rattle.rng_model.specs.views.SchemaView.{place_of}
use Rattle.rng_load.specs.plain.FoundGrammars.{left_by}
use Rattle.rng_load.specs.views.PendingGrammars.{pending_of}
use Rattle.rng_load.specs.views.ReadPatterns.{nested_of}
use Rattle.rng_load.proofs.schema_reader.FoundGrammars.add.Given as goal

abbrev pub invariant-inner : goal.invariant-inner
invariant-inner l = record {
  grammars : l.self.grammars ≡ l.fn.self.grammars;
  outer : l.outer ≡ l.fn.outer;
  left : map pending_of l.self.left.items ++ left_by (place_of l.place) (map nested_of l.nested.items)
      ≡ map pending_of l.fn.self.left.items ++ left_by (place_of l.place) (map nested_of l.fn.parts.nested.items);
}

abbrev pub decreases-inner : goal.decreases-inner
decreases-inner l = length l.nested.items
