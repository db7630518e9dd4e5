use Rattle.std.proofs.Common.{◌%◌, rules}
use Rattle.pyx.proofs.Scopes.KnownNames.{known_there}
use Rattle.pyx.proofs.known.find.Goals as goal

pub returns-in-Some : goal.returns-in-Some
returns-in-Some c = λ scope all. known_there scope c.args.round c.args.known.now (c.hash_of-at.result % 256) c.in-Some.name.now c.args.written.now
    c.in-Some.ensures.lookup.3.0 c.in-Some.ensures.lookup.1 c.if-name-round.true (search rules) all
