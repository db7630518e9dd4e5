use Rattle.std.proofs.Common.{◌∙◌, sym}
use Rattle.rnc_grammar.specs.views.Resolved.{scope_view}
use Rattle.rnc_syntax.specs.plain.Reading.{lexemes_in}
use Rattle.rnc_places.proofs.DatatypeSteps.{all_applied}
use Rattle.rnc_places.proofs.datatypes.applied.Goals as goal

pub returns-clause-is : goal.returns-clause-is
returns-clause-is c = λ total.
    sym (c.loop-declaration.invariant.is total ∙ all_applied (scope_view c.loop-declaration.scope) c.args.declarations.now
    c.loop-declaration.declaration-index (lexemes_in total c.loop-declaration.rest.now) c.loop-declaration-test.false)
