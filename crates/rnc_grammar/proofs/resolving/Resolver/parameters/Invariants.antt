use Rattle.std.proofs.Common.{◌≡◌, ◌++◌, map, drop, string_bytes}
use Rattle.rnc_syntax.specs.views.SyntaxView as syntax
use Rattle.rnc_grammar.proofs.resolving.Resolver.parameters.Given as goal

abbrev pub invariant-loop-parameter : goal.invariant-loop-parameter
invariant-loop-parameter l = map syntax.parameter_of l.all ≡ map (λ p. (string_bytes p.0, string_bytes p.1)) l.parameters.items ++ map syntax.parameter_of
    (drop l.parameter-index l.all)
