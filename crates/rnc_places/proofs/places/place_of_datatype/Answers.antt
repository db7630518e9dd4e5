use Rattle.std.proofs.Common.{ap, subst}
use Rattle.rnc_grammar.specs.views.ParsingFaults.{unless_memory}
use Rattle.rnc_grammar.specs.views.View.{file_of}
use Rattle.rnc_model.specs.tokens.Cut.{lexemes}
use Rattle.rnc_model.specs.tokens.CutTokens.{tokens_of}
use Rattle.rnc_places.specs.views.Told.{IsBrokenNumber}
use Rattle.rnc_places.proofs.ToldDatatypes.{not_numbered, not_parsed, numbered, placed}
use Rattle.rnc_places.proofs.places.place_of_datatype.Goals as goal

pub returns-in-Err-At-clause-found : goal.returns-in-Err-At-clause-found
returns-in-Err-At-clause-found c = λ number broken.
    absurd (not_parsed c.args.types (lexemes (tokens_of c.args.tokens.now)) c.in-Err-At.field-0 _ (ap unless_memory c.in-Err-At.field-0-is)
    c.in-Err-At.ensures.only number broken)

pub returns-in-Err-Clause-clause-found : goal.returns-in-Err-Clause-clause-found
returns-in-Err-Clause-clause-found c = λ number broken.
    absurd (not_parsed c.args.types (lexemes (tokens_of c.args.tokens.now)) c.in-Err-Clause.field-0 _ (ap unless_memory c.in-Err-Clause.field-0-is)
    c.in-Err-Clause.ensures.only number broken)

pub returns-in-Some-clause-place : goal.returns-in-Some-clause-place
returns-in-Some-clause-place c = λ cs decoded has size.
    let ts = lexemes (tokens_of c.args.tokens.now) in
    let tree = c.in-Ok.ensures.tree in
    let told = subst (IsBrokenNumber c.args.types ts) c.in-Some.is (c.in_ok-number.ensures (file_of c.in-Ok.tree) tree) in
    placed c.args.types c.args.file.now cs (tokens_of c.args.tokens.now) c.in-Some.number c.place_of_token.result decoded has
    (numbered c.args.types ts (file_of c.in-Ok.tree) tree c.in-Some.number told) (c.place_of_token.ensures cs decoded has size)

pub returns-in-None-clause-found : goal.returns-in-None-clause-found
returns-in-None-clause-found c = λ number broken.
    let ts = lexemes (tokens_of c.args.tokens.now) in
    absurd (not_numbered c.args.types ts
    (subst (IsBrokenNumber c.args.types ts) c.in-None.is (c.in_ok-number.ensures (file_of c.in-Ok.tree) c.in-Ok.ensures.tree)) number broken)
