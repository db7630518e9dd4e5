use Rattle.std.proofs.Common.{◌≡◌, map, drop}
use Rattle.rnc_model.specs.grammar.Syntax.{components_of}
use Rattle.rnc_grammar.specs.views.View.{component_of}
use Rattle.rng_load.specs.plain.ComponentNames.{gather, names_in}
use Rattle.rng_load.proofs.component_names.ComponentNames.+component_names.Given as goal

abbrev pub invariant-add_all-loop-component : goal.invariant-add_all-loop-component
invariant-add_all-loop-component l =
    gather (names_in l.fn.self) (components_of (map component_of l.components)) ≡ gather (names_in l.self) (components_of (map component_of
    (drop l.component-index l.components)))
