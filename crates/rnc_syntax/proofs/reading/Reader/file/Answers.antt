use Rattle.std.proofs.Common.{refl}
use Rattle.rnc_syntax.specs.views.SyntaxView.{file_of}
use Rattle.rnc_syntax.proofs.FileEnds.{file_ends}
use Rattle.rnc_syntax.proofs.reading.Reader.file.Goals as goal

pub returns : goal.returns
returns c = file_ends file_of c.ended.result _ _ _ _ _ _ _ c.in_ok-declarations.ensures c.in_ok-body.ensures refl c.ended.ensures
