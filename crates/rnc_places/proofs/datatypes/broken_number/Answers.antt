use Rattle.rnc_syntax.specs.views.SyntaxView.{file_of}
use Rattle.rnc_places.proofs.BrokenDatatypes.{told_result}
use Rattle.rnc_places.proofs.datatypes.broken_number.Goals as goal

pub returns-in-Ok : goal.returns-in-Ok
returns-in-Ok c = told_result c.args.types c.args.tokens.now (file_of c.in-Ok.file) c.number_in.result c.number_in.ensures c.in-Ok.ensures.one
    c.in-Ok.ensures.tree.sentence
