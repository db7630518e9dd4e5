use Rattle.std.proofs.Common.{◌≡◌, map, drop}
use Rattle.rnc_model.specs.declarations.Declarations as declarations
use Rattle.rnc_grammar.specs.views.Resolved.{scope_view}
use Rattle.rnc_syntax.specs.views.SyntaxView as syntax
use Rattle.rnc_grammar.proofs.resolving.scope_of.Given as goal

abbrev pub invariant-loop-declaration : goal.invariant-loop-declaration
invariant-loop-declaration l = declarations.declare_all declarations.nothing_declared (map syntax.declaration_of l.declarations) ≡ declarations.declare_all
    (scope_view l.scope) (map syntax.declaration_of (drop l.declaration-index l.declarations))
