use Rattle.std.proofs.Common.{rules}
use Rattle.pyx.proofs.Scopes.KnownNames.{known_set, name_set}
use Rattle.pyx.proofs.known.learn.Goals as goal

pub returns-in_err-make_places-clause-known : goal.returns-in_err-make_places-clause-known
returns-in_err-make_places-clause-known c = λ scope says all. c.make_places.ensures.known scope c.args.round all

pub returns-in_err-learn-clause-known : goal.returns-in_err-learn-clause-known
returns-in_err-learn-clause-known c = λ scope says all.
    known_set scope c.args.round c.make_places.new.known.items c.if-written-le-SIZE_LIMIT.at c.learn.new.self
    (c.learn.ensures.known scope says) (c.make_places.ensures.known scope c.args.round all)

pub returns-clause-known : goal.returns-clause-known
returns-clause-known c = λ scope says all.
    known_set scope c.args.round c.make_places.new.known.items c.if-written-le-SIZE_LIMIT.at c.learn.new.self
    (c.learn.ensures.known scope says) (c.make_places.ensures.known scope c.args.round all)

pub returns-clause-name : goal.returns-clause-name
returns-clause-name c = (search rules, name_set c.make_places.new.known.items c.if-written-le-SIZE_LIMIT.at c.learn.new.self _ (search rules) (search rules))
