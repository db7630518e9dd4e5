use Rattle.std.proofs.Common.{rules}
use Rattle.pyx.proofs.Scopes.DeclarationBytes.{held_push}
use Rattle.pyx.proofs.namespaces.places.+declarations_len.Goals as goal

pub returns-in-Some : goal.returns-in-Some
returns-in-Some t c = rw (held_push c.args.declarations.now c.in-Some.rest.now c.in-Some.last.now c.in-Some.ensures.cases.0) (search rules)
