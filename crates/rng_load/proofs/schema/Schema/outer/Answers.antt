use Rattle.std.proofs.Common.{ap, ◌∙◌, None, Some}
use Rattle.rng_load.specs.views.PlacedGrammars.{outer_if}
use Rattle.rng_load.proofs.Places.GrammarLookup.{grammar_found, place_seen}
use Rattle.rng_load.proofs.schema.Schema.outer.Goals as goal

pub returns-in-Some : goal.returns-in-Some
returns-in-Some c = rw (← c.self.view_is)
    (place_seen c.as_ref.result c.in-Some.grammar.now.outer c.as_ref.ensures.value ∙ ap outer_if
    (grammar_found c.self.inside.grammars.entries c.args.place.now (Some c.in-Some.grammar) c.in-Some.ensures.value))

pub returns-in-None : goal.returns-in-None
returns-in-None c = rw (← c.self.view_is)
    (ap outer_if (grammar_found c.self.inside.grammars.entries c.args.place.now None c.in-None.ensures.value))
