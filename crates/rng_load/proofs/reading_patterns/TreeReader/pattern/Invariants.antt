use Rattle.std.proofs.Common.{◌≡◌, ◌∷◌, [], reverse}
use Rattle.rng_model.specs.names.NameViews.{namespace_bytes}
use Rattle.rnc_grammar.specs.views.View.{pattern_of}
use Rattle.rng_load.specs.plain.OpenPatterns.{finished}
use Rattle.rng_load.specs.plain.PlainReading.{read_at}
use Rattle.rng_load.specs.views.PatternRows.{made_of, opens}
use Rattle.rng_load.specs.views.ReadPatterns.{files_in}
use Rattle.rng_load.proofs.reading_patterns.TreeReader.pattern.Given as goal

abbrev pub invariant-steps : goal.invariant-steps
invariant-steps l =
    let way = reverse l.fn.way.items in
    let r = read_at (files_in l.self) l.scope.levels (namespace_bytes l.scope.uri.now) way (pattern_of l.pattern) in
    finished (files_in l.self) (opens l.made) (reverse l.way.items) (made_of l.made) ≡ ((r.0 ∷ [], r.1), way)
