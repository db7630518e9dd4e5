use Rattle.rnc_grammar.specs.views.View.{file_of}
use Rattle.rnc_places.proofs.ToldPlaces.{is_another, is_asked, is_none}
use Rattle.rnc_places.proofs.places.place_of.Goals as goal

pub returns-in-Ok-clause-found : goal.returns-in-Ok-clause-found
returns-in-Ok-clause-found c = λ broken. absurd (is_none c.args.file.now (file_of c.in-Ok.tree) c.args.clause c.in-Ok.ensures.tree broken)

pub returns-in-Broken-clause-place : goal.returns-in-Broken-clause-place
returns-in-Broken-clause-place c =
    is_asked c.args.file.now c.in-Err.cause c.args.clause c.in-Broken.broken c.in-Broken.place c.in-Broken.is c.if-broken-clause.true c.in-Err.ensures.fault

pub returns-in-Broken-2-clause-found : goal.returns-in-Broken-2-clause-found
returns-in-Broken-2-clause-found c = λ broken.
    absurd (is_another c.args.file.now c.in-Err.cause c.args.clause c.in-Broken.broken c.in-Broken.place c.in-Broken.is c.if-broken-clause.false
    c.in-Err.ensures.fault broken)
