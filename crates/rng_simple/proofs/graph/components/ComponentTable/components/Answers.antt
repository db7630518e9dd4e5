use Rattle.std.proofs.Common.{◌∙◌, [], ap, map, length, ◌<◌, arith, slice_index_or}
use Rattle.std.proofs.lemmas.List.{length-map}
use Rattle.rng_simple.specs.views.ComponentTable.{table_of}
use Rattle.rng_simple.specs.views.Definitions.{definition_of}
use Rattle.rng_simple.specs.plain.Graph.{number_of}
use Rattle.rng_simple.proofs.BuiltGraphs.ComponentTables.{all_seen, list_at, no_list_at, no_position, position_is, seen}
use Rattle.rng_simple.proofs.NumberedGraphs.DefinitionNumbers.{number_seen}
use Rattle.rng_simple.proofs.graph.components.ComponentTable.components.Goals as goal
use Rattle.rng_simple.specs.contracts.graph.definitions.DefinitionPartialEq.TheImpl as same

pub returns-in-Some : goal.returns-in-Some
returns-in-Some c =
    let t = c.args.self.now in
    let number = position_is (same.ghosts.eq c.args.definition) t.definitions.keys c.in-Some.number c.in-Some.ensures.index
    ∙ number_seen c.args.definition t.definitions.keys in
    let inside : c.in-Some.number < length t.components.items =
    omega (arith, c.in-Some.ensures.within, c.requires, length-map t.definitions.keys definition_of, length-map t.components.items all_seen) in
    ap (map seen) c.as_slice.ensures.value
    ∙ list_at all_seen t.components.items c.in-Some.number c.index.result.now inside c.index.ensures
    ∙ ap (λ n. slice_index_or (table_of t).components n []) number

pub returns-in-None : goal.returns-in-None
returns-in-None c =
    let t = c.args.self.now in
    no_list_at (table_of t).components (number_of (table_of t).definitions (definition_of c.args.definition))
    (omega (
      arith,
      c.requires,
      length-map t.definitions.keys definition_of,
      number_seen c.args.definition t.definitions.keys,
      no_position (same.ghosts.eq c.args.definition) t.definitions.keys c.in-None.ensures.index,
    ))
