use Rattle.std.proofs.Common.{rules}
use Rattle.written_grammars.proofs.FoundDatatypes.{known_as}
use Rattle.written_grammars.proofs.grammar_builder.fits.Goals as goal

pub returns-in-Data-clause-known : goal.returns-in-Data-clause-known
returns-in-Data-clause-known c = rw c.in-Data.is (known_as _ _ c.is_known.result (search rules) c.is_known.ensures)

pub returns-then-body-next-2-clause-known : goal.returns-then-body-next-2-clause-known
returns-then-body-next-2-clause-known c =
    rw c.in-DataExcept.is (known_as _ _ c.is_known-then-body-next-2.result (search rules) c.is_known-then-body-next-2.ensures)
