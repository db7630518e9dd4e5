use Rattle.std.proofs.Common.{◌≡◌, ◌≤◌, ℕ, drop, length, map}
use Rattle.rnc_model.specs.declarations.Declarations.{nothing_declared}
use Rattle.rnc_grammar.specs.views.Resolved.{scope_view}
use Rattle.rnc_syntax.specs.plain.Reading.{lexemes_in}
use Rattle.rnc_syntax.specs.views.SyntaxView.{declaration_of}
use Rattle.rnc_places.specs.plain.BrokenDatatypes.{applied}
use Rattle.rnc_places.proofs.datatypes.applied.Given as goal

abbrev pub invariant-loop-declaration : goal.invariant-loop-declaration
invariant-loop-declaration l = record {
  is : (total : ℕ) → applied nothing_declared (map declaration_of l.declarations) (lexemes_in total l.tokens)
      ≡ applied (scope_view l.scope) (map declaration_of (drop l.declaration-index l.declarations)) (lexemes_in total l.rest);
  within : length l.rest ≤ length l.tokens;
}
