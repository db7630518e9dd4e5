use Rattle.std.proofs.Common.{ap, ◌∙◌, map, option_map, None, Some}
use Rattle.rng_model.specs.views.SchemaView.{schema_component_of}
use Rattle.rng_load.proofs.Places.GrammarLookup.{grammar_found}
use Rattle.rng_load.proofs.schema.Schema.components.Goals as goal

pub returns-in-Some : goal.returns-in-Some
returns-in-Some c = rw (← c.self.view_is)
    (ap (λ cs. Some (map schema_component_of cs)) c.as_slice.ensures.value ∙ ap (option_map (λ g. g.components))
    (grammar_found c.self.inside.grammars.entries c.args.place.now (Some c.in-Some.grammar) c.in-Some.ensures.value))

pub returns-in-None : goal.returns-in-None
returns-in-None c = rw (← c.self.view_is)
    (ap (option_map (λ g. g.components)) (grammar_found c.self.inside.grammars.entries c.args.place.now None c.in-None.ensures.value))
