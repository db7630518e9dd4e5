use Rattle.std.proofs.Common.{◌≡◌, ◌∙◌, ap, sym, map, [], ◌∷◌, ◌++◌, append_assoc, append-nil, List}
use Rattle.std.proofs.lemmas.List.{map-append}
use Rattle.std.specs.Vec.Iter.{into_iter_items}
use Rattle.rng_model.specs.views.SchemaView.{schema_component_of}
use Rattle.rng_load.specs.plain.FoundGrammars.{nested_in}
use Rattle.rng_load.specs.views.GatheredComponents.{gathered_of}
use Rattle.rnc_model.specs.loading.Places.{Gathered}
use Rattle.rng_load.specs.views.ReadPatterns.{nested_of}
use Rattle.rng_load.proofs.Places.PlacesApart.{nested_in_both}
use Rattle.rng_load.proofs.gathering.GrammarParts.append.Goals as goal

nested_last : (gs : List Gathered) (g : Gathered) → nested_in (gs ++ g ∷ []) ≡ nested_in gs ++ g.nested
nested_last gs g = nested_in_both gs (g ∷ []) ∙ ap (λ ns. nested_in gs ++ ns) (append-nil g.nested)

pub loop-gathered-preserved : goal.loop-gathered-preserved
loop-gathered-preserved c =
    let at = c.loop-gathered in
    let g = c.in-Some.gathered in
    let before = c.args.self.now in
    let steps : into_iter_items at.gathered-iterator ≡ g ∷ into_iter_items c.next.new.self = c.in-Some.ensures.steps.0 in
    let seen = map-append gathered_of at.yielded (g ∷ []) in
    let old = map schema_component_of before.components.items in
    let kept = map (λ g. g.component) (map gathered_of at.yielded) in
    let inner = map nested_of before.nested.items in (
      append_assoc at.yielded (g ∷ []) _ ∙ rw (← steps) at.invariant.0,
      ap (map schema_component_of) c.in_ok-push.ensures.items ∙ map-append schema_component_of at.self.components.items (g.component ∷ [])
          ∙ ap (λ cs. cs ++ schema_component_of g.component ∷ []) at.invariant.1 ∙ append_assoc old kept (schema_component_of g.component ∷ [])
          ∙ ap (λ cs. old ++ cs) (sym (map-append (λ g. g.component) (map gathered_of at.yielded) (gathered_of g ∷ [])) ∙ ap (map (λ g. g.component)) (sym seen)),
      ap (map nested_of) c.in_ok-append.ensures.items ∙ map-append nested_of at.self.nested.items g.grammars.items
          ∙ ap (λ ns. ns ++ map nested_of g.grammars.items) at.invariant.2
          ∙ append_assoc inner (nested_in (map gathered_of at.yielded)) (map nested_of g.grammars.items)
          ∙ ap (λ ns. inner ++ ns) (sym (nested_last (map gathered_of at.yielded) (gathered_of g)) ∙ ap nested_in (sym seen)),
    )
