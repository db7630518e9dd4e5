use Rattle.std.proofs.Common.{map, reverse}
use Rattle.rng_model.specs.names.NameViews.{namespace_bytes}
use Rattle.rnc_model.specs.grammar.Syntax.{components_of}
use Rattle.rnc_grammar.specs.views.View.{component_of}
use Rattle.rng_load.specs.plain.OpenComponents.{gathered_at_end}
use Rattle.rng_load.specs.plain.PlainReading.{gather_at}
use Rattle.rng_load.specs.views.GatheredComponents.{gathered_in, lists_in}
use Rattle.rng_load.specs.views.GrammarParts.{AreJoined}
use Rattle.rng_load.specs.views.ReadPatterns.{files_in}
use Rattle.rng_load.proofs.reading_patterns.TreeReader.gather_all.Given as goal

abbrev pub invariant-steps : goal.invariant-steps
invariant-steps l =
    let files = files_in l.self in
    AreJoined l.parts (gathered_at_end files (lists_in l.made) (gathered_in l.made, reverse l.way.items)).0
    (gather_at files l.levels (namespace_bytes l.uri) (reverse l.fn.way.items) 0 (components_of (map component_of l.components)))
