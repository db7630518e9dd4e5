use Rattle.std.proofs.Common.{◌≡◌, map, drop}
use Rattle.rnc_model.specs.declarations.Declarations.{class_in}
use Rattle.rnc_grammar.specs.views.Resolved.{each, namespace_at, scope_view}
use Rattle.rnc_syntax.specs.views.SyntaxView as syntax
use Rattle.rnc_grammar.specs.views.View as tree
use Rattle.rnc_grammar.proofs.ResolvedMembers.{after}
use Rattle.rnc_grammar.proofs.resolving.Resolver.+resolved_classes.Given as goal

abbrev pub invariant-classes-loop-class : goal.invariant-classes-loop-class
invariant-classes-loop-class l = each (class_in (scope_view l.self.scope.now) (namespace_at (scope_view l.self.scope.now) l.place))
    (map syntax.class_of l.all) ≡ after (map tree.class_of l.classes.items)
    (each (class_in (scope_view l.self.scope.now) (namespace_at (scope_view l.self.scope.now) l.place)) (map syntax.class_of (drop l.class-index l.all)))
