use Rattle.std.proofs.Common.{◌≡◌, ◌++◌, map}
use Rattle.std.specs.Vec.Iter.{into_iter_items}
use Rattle.rng_model.specs.views.SchemaView.{schema_component_of}
use Rattle.rng_load.specs.plain.FoundGrammars.{nested_in}
use Rattle.rng_load.specs.views.GatheredComponents.{gathered_of}
use Rattle.rng_load.specs.views.ReadPatterns.{nested_of}
use Rattle.rng_load.proofs.gathering.GrammarParts.append.Given as goal

abbrev pub invariant-loop-gathered : goal.invariant-loop-gathered
invariant-loop-gathered l = (l.yielded ++ into_iter_items l.gathered-iterator ≡ l.fn.all.items)
    × (map schema_component_of l.self.components.items ≡ map schema_component_of l.fn.self.components.items ++ map (λ g. g.component) (map gathered_of l.yielded))
    × (map nested_of l.self.nested.items ≡ map nested_of l.fn.self.nested.items ++ nested_in (map gathered_of l.yielded))
