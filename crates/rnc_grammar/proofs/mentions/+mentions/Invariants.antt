use Rattle.std.proofs.Common.{◌≡◌, ◌++◌, map, drop}
use Rattle.rnc_model.specs.grammar.Syntax.{components_of, patterns_of}
use Rattle.rnc_model.specs.loading.Mentions.{mentions_of_components, mentions_of_patterns}
use Rattle.rnc_grammar.specs.views.View.{component_of, mentioned_file_of, pattern_of}
use Rattle.rnc_grammar.proofs.mentions.+mentions.Given as goal

abbrev pub invariant-push_from_components-loop-component : goal.invariant-push_from_components-loop-component
invariant-push_from_components-loop-component l =
    map mentioned_file_of l.fn.all.items ++ mentions_of_components (components_of (map component_of l.components)) ≡ map mentioned_file_of l.all.items
    ++ mentions_of_components (components_of (map component_of (drop l.component-index l.components)))

abbrev pub invariant-push_from_patterns-loop-pattern : goal.invariant-push_from_patterns-loop-pattern
invariant-push_from_patterns-loop-pattern l =
    map mentioned_file_of l.fn.all.items ++ mentions_of_patterns (patterns_of (map pattern_of l.patterns)) ≡ map mentioned_file_of l.all.items
    ++ mentions_of_patterns (patterns_of (map pattern_of (drop l.pattern-index l.patterns)))
