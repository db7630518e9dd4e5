-- Building the graph of a schema.
use Rattle.std.proofs.Common.{◌≡◌, refl, sym, ap, ap₂, ◌∙◌, subst, List, [], ◌∷◌, map, length, take, Option, Some, ◌<◌, ◌≤◌, ◌++◌}
use Rattle.std.proofs.Common.{slice_get, arith, Bor}
use Rattle.std.proofs.lemmas.Option.{slice_get_within}
use Rattle.rng_model.specs.schema.Patterns.{Place}
use Rattle.rng_model.specs.schema.Schema.{Schema, Definition}
use Rattle.rng_model.specs.views.SchemaView.{schema_component_of}
use Rattle.rng_model.specs.declared.component.Component as declared
use Rattle.rng_simple.specs.views.ComponentTable.{IsTable, Table, components_of, joining, schema_components}
use Rattle.rng_simple.specs.views.Definitions.{definition_of, numbering_of}
use Rattle.rng_simple.specs.views.ExpansionOrder.{IsGraphOfSchema}
use Rattle.rng_simple.specs.plain.Graph.{IsGraphOf, Spot}
use Rattle.rng_simple.specs.views.GraphView.{combined, graph_body_of, graph_of, graph_pattern_of}
use Rattle.rng_simple.specs.plain.ReadySchema.{IsReady}
use Rattle.rng_simple.specs.plain.ResolvedBody.{resolved_body}
use Rattle.rng_simple.specs.plain.ResolvedElements.{elements_of}
use Rattle.rng_simple.specs.plain.Resolving.{Numbering, resolve_each}
use Rattle.rng_simple.specs.declared.graph.definitions.Definition as definitions
use Rattle.rng_simple.specs.declared.graph.definitions.Numbering as numberings
use Rattle.rng_simple.specs.declared.graph.parts.GraphBody.{GraphBody}
use Rattle.rng_simple.specs.declared.graph.parts.Graph as graphs
use Rattle.rng_simple.specs.declared.graph.parts.GraphElement.{GraphElement}
use Rattle.rng_model.specs.names.Names.{NameClass}
use Rattle.rng_model.specs.simple.Tree.{Tree}
use Rattle.rng_model.specs.names.NameViews.{class_of}
use Rattle.std.proofs.lemmas.List.{length-map, map_push, take_all}
use Rattle.rng_simple.proofs.BuiltGraphs.ElementsApart.{elements_apart}
use Rattle.rng_simple.proofs.BuiltGraphs.GraphSteps.{IsGraphSoFar, fewer, goes_on, same_classes, whole}
use Rattle.rng_simple.proofs.ListParts.{map_at}

-- the patterns of components as they are viewed
pub patterns_seen : (cs : List (Bor declared.Component))
    → map (λ c. (schema_component_of c.now).pattern) cs ≡ map (λ c. c.pattern) (map (λ c. schema_component_of c.now) cs)
patterns_seen [] = refl
patterns_seen (c ∷ cs) = ap (λ ps. (schema_component_of c.now).pattern ∷ ps) (patterns_seen cs)

-- the combined components that are found are the body
pub body_found : (s : Schema) (d : Definition) (v : Numbering) (outer : Option Place) (cs : List (Bor declared.Component)) → outer ≡ s.outer d.place
    → map (λ c. schema_component_of c.now) cs ≡ schema_components s d
    → let r = resolve_each d.place outer (map (λ c. (schema_component_of c.now).pattern) cs) v in
    (combined (joining (map (λ c. schema_component_of c.now) cs)) r.0, r.1) ≡ resolved_body s d v
body_found s d v outer cs o e =
    ap₂ (λ z ps. let r = resolve_each d.place z ps v in (combined (joining (map (λ c. schema_component_of c.now) cs)) r.0, r.1)) o
    (patterns_seen cs ∙ ap (map (λ c. c.pattern)) e)
    ∙ ap (λ these. let r = resolve_each d.place (s.outer d.place) (map (λ c. c.pattern) (schema_components s d)) v in (combined (joining these) r.0, r.1)) e

seen_first : (es : List GraphElement) → map (λ (e : NameClass
    × Tree Spot). e.0) (map (λ e. (class_of e.class.now, graph_pattern_of e.content)) es) ≡ map (λ e. class_of e.class.now) es
seen_first [] = refl
seen_first (e ∷ es) = ap (λ cs. class_of e.class.now ∷ cs) (seen_first es)

seen_second : (es : List GraphElement) → map (λ (e : NameClass
    × Tree Spot). e.1) (map (λ e. (class_of e.class.now, graph_pattern_of e.content)) es) ≡ map (λ e. graph_pattern_of e.content) es
seen_second [] = refl
seen_second (e ∷ es) = ap (λ ps. graph_pattern_of e.content ∷ ps) (seen_second es)

-- all definitions have a body
pub built : (s : Schema) → IsReady s → (n : numberings.Numbering) (bodies : List (Tree Spot)) → IsGraphSoFar s (numbering_of n) bodies
    → length (numbering_of n).definitions ≤ length bodies
    → (g : graphs.Graph) → map graph_body_of g.bodies.items ≡ bodies → g.elements.items ≡ n.elements.items → IsGraphOfSchema s g
built s ready n bodies is all g same elements =
    let v = numbering_of n in
    let apart = elements_apart s v.definitions is.numbering.apart in
    let graph : record { bodies = bodies; contents = map (λ (e : NameClass × Tree Spot). e.1) v.elements } ≡ graph_of g =
    ap₂ (λ bs cs. record { bodies = bs; contents = cs }) (sym same)
    (seen_second n.elements.items ∙ ap (map (λ e. graph_pattern_of e.content)) (sym elements)) in
    let leaves : elements_of s (take (length bodies) v.definitions) ≡ elements_of s v.definitions =
    ap (elements_of s) (take_all (length bodies) v.definitions all) in record {
      definitions = v.definitions;
      elements = elements_of s v.definitions;
      is = subst (IsGraphOf s v.definitions (elements_of s v.definitions)) graph (whole s ready v bodies is all apart);
      classes = ap (map (λ m. m.class)) (sym leaves) ∙ same_classes s (elements_of s (take (length bodies) v.definitions)) v is.numbering
          ∙ seen_first n.elements.items ∙ ap (map (λ e. class_of e.class.now)) (sym elements);
    }

-- one more body in the code
pub step : (s : Schema) → IsReady s → (n : numberings.Numbering) (bodies : List GraphBody) (d : definitions.Definition)
    → IsGraphSoFar s (numbering_of n) (map graph_body_of bodies)
    → slice_get n.definitions.keys (length bodies) ≡ Some d → (later : numberings.Numbering) (b : GraphBody) (more : List GraphBody)
    → graph_body_of b ≡ (resolved_body s (definition_of d) (numbering_of n)).0 → numbering_of later ≡ (resolved_body s (definition_of d) (numbering_of n)).1
    → more ≡ bodies ++ b ∷ [] → IsGraphSoFar s (numbering_of later) (map graph_body_of more)
step s ready n bodies d is e later b more body numbering grown =
    let here : slice_get (numbering_of n).definitions (length (map graph_body_of bodies)) ≡ Some (definition_of d) =
    ap (slice_get (numbering_of n).definitions) (length-map bodies graph_body_of) ∙ map_at definition_of n.definitions.keys (length bodies) d e in
    let all : map graph_body_of more ≡ map graph_body_of bodies ++ (resolved_body s (definition_of d) (numbering_of n)).0 ∷ [] =
    ap (map graph_body_of) grown ∙ map_push graph_body_of bodies b ∙ ap (λ r. map graph_body_of bodies ++ r ∷ []) body in
    subst (λ v. IsGraphSoFar s v (map graph_body_of more)) (sym numbering) (subst (IsGraphSoFar s (resolved_body s (definition_of d) (numbering_of n)).1)
    (sym all)
    (goes_on s ready (numbering_of n) (map graph_body_of bodies) (definition_of d) is here))

-- so there is capacity for it
pub room : (s : Schema) → IsReady s → (t : Table) → IsTable t → ((d : Definition) → components_of t d ≡ schema_components s d) → (n : numberings.Numbering)
    (bodies : List GraphBody) (d : definitions.Definition) → IsGraphSoFar s (numbering_of n) (map graph_body_of bodies)
    → slice_get n.definitions.keys (length bodies) ≡ Some d → length bodies < length t.definitions
room s ready t table same n bodies d is e =
    let few = fewer s ready t table same (numbering_of n) (map graph_body_of bodies) is in
    omega (arith, slice_get_within n.definitions.keys (length bodies) d e, length-map n.definitions.keys definition_of, few)
