use Rattle.std.proofs.Common.{◌≡◌, map, drop}
use Rattle.rnc_model.specs.declarations.Declarations.{pattern_in, component_in}
use Rattle.rnc_grammar.specs.views.Resolved.{each, scope_view}
use Rattle.rnc_syntax.specs.views.SyntaxView as syntax
use Rattle.rnc_grammar.specs.views.View as tree
use Rattle.rnc_grammar.proofs.ResolvedMembers.{after}
use Rattle.rnc_grammar.proofs.resolving.Resolver.+resolved.Given as goal

abbrev pub invariant-members-loop-pattern : goal.invariant-members-loop-pattern
invariant-members-loop-pattern l = each (pattern_in (scope_view l.self.scope.now)) (map syntax.pattern_of l.all) ≡ after (map tree.pattern_of l.patterns.items)
    (each (pattern_in (scope_view l.self.scope.now)) (map syntax.pattern_of (drop l.pattern-index l.all)))

abbrev pub invariant-components-loop-component : goal.invariant-components-loop-component
invariant-components-loop-component l = each (component_in (scope_view l.self.scope.now)) (map syntax.component_of l.all) ≡ after
    (map tree.component_of l.components.items) (each (component_in (scope_view l.self.scope.now)) (map syntax.component_of (drop l.component-index l.all)))
