use Rattle.std.proofs.Common.{◌≡◌, ◌≤◌, drop, length, map}
use Rattle.rnc_model.specs.declarations.Declarations.{nothing_declared}
use Rattle.rnc_grammar.specs.views.Resolved.{scope_view}
use Rattle.rnc_syntax.specs.plain.Reading.{lexemes_in}
use Rattle.rnc_syntax.specs.views.SyntaxView.{declaration_of}
use Rattle.rnc_places.specs.plain.FaultNumbers.{fault_number}
use Rattle.rnc_places.proofs.declarations.fault_number.Given as goal

abbrev pub invariant-loop-declaration : goal.invariant-loop-declaration
invariant-loop-declaration l = record {
  number : fault_number (length l.tokens) nothing_declared (map declaration_of l.declarations) (lexemes_in (length l.tokens) l.tokens)
      ≡ fault_number (length l.tokens) (scope_view l.scope) (map declaration_of (drop l.declaration-index l.declarations))
      (lexemes_in (length l.tokens) l.rest);
  within : length l.rest ≤ length l.tokens;
}
