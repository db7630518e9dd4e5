use Rattle.std.proofs.Common.{◌≡◌, ◌∙◌, ap, subst, IfOk, OnOk, option_map}
use Rattle.rng_model.specs.views.SchemaView.{place_of}
use Rattle.rng_load.specs.views.PlacedGrammars.{schema_of}
use Rattle.rng_simple.specs.views.Definitions.{definition_of, numbering_of}
use Rattle.rng_simple.specs.views.GraphView.{graph_body_of}
use Rattle.rng_simple.proofs.BuiltGraphs.SchemaGraphs.{body_found}
use Rattle.rng_simple.proofs.graph.building.body.Goals as goal

pub returns-clause-body : goal.returns-clause-body
returns-clause-body c =
    let definition = definition_of c.args.definition in
    let found = body_found (schema_of c.args.schema.now) definition (numbering_of c.args.numbering.now) (option_map (λ p. place_of p.now) c.outer.result)
    c.components.result.now c.outer.ensures (c.components.ensures ∙ c.requires.components definition) in
    subst (λ t. IfOk c.combined.result (λ b. graph_body_of b ≡ t)) (ap (λ r. r.0) found) c.combined.ensures.body

pub returns-clause-numbering : goal.returns-clause-numbering
returns-clause-numbering c =
    let definition = definition_of c.args.definition in
    let found = body_found (schema_of c.args.schema.now) definition (numbering_of c.args.numbering.now) (option_map (λ p. place_of p.now) c.outer.result)
    c.components.result.now c.outer.ensures (c.components.ensures ∙ c.requires.components definition) in
    subst (λ v. OnOk c.combined.result (numbering_of c.combined.new.numbering ≡ v)) (ap (λ r. r.1) found) c.combined.ensures.numbering
