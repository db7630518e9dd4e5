use Rattle.std.proofs.Common.{ap, map, sym}
use Rattle.rnc_syntax.specs.views.SyntaxView.{declaration_of, file_of}
use Rattle.rnc_places.proofs.FirstFault.{told_faults}
use Rattle.rnc_places.proofs.declarations.unruly_number.Goals as goal

pub returns-in-Ok : goal.returns-in-Ok
returns-in-Ok c = told_faults c.args.tokens.now (file_of c.in-Ok.file) (map declaration_of c.deref.result.now) c.fault_number.result
    (ap (map declaration_of) (sym c.deref.ensures.value)) c.fault_number.ensures c.in-Ok.ensures.one c.in-Ok.ensures.tree.sentence
