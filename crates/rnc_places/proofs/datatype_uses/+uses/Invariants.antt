use Rattle.std.proofs.Common.{◌≡◌, ◌++◌, map, drop}
use Rattle.rnc_model.specs.grammar.Syntax.{components_of, patterns_of}
use Rattle.rnc_places.specs.plain.DatatypeNumbers.{uses_of_components, uses_of_patterns}
use Rattle.rnc_places.specs.views.DatatypeUses.{use_of}
use Rattle.rnc_syntax.specs.views.SyntaxView.{component_of, pattern_of}
use Rattle.rnc_places.proofs.datatype_uses.+uses.Given as goal

abbrev pub invariant-push_from_components-loop-component : goal.invariant-push_from_components-loop-component
invariant-push_from_components-loop-component l =
    map use_of l.fn.all.items ++ uses_of_components (components_of (map component_of l.components)) ≡ map use_of l.all.items
    ++ uses_of_components (components_of (map component_of (drop l.component-index l.components)))

abbrev pub invariant-push_from_patterns-loop-pattern : goal.invariant-push_from_patterns-loop-pattern
invariant-push_from_patterns-loop-pattern l =
    map use_of l.fn.all.items ++ uses_of_patterns (patterns_of (map pattern_of l.patterns)) ≡ map use_of l.all.items
    ++ uses_of_patterns (patterns_of (map pattern_of (drop l.pattern-index l.patterns)))
