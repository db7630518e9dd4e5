use Rattle.std.proofs.Common.{Global, Vec}
use Rattle.rnc_model.specs.declared.token.Token.{Token}
use Rattle.rnc_model.specs.loading.DatatypePlaces.{BreaksDatatypesAt}
use Rattle.rnc_model.specs.tokens.Cut.{lexemes}
use Rattle.rnc_model.specs.tokens.CutTokens.{tokens_of}
use Rattle.rnc_places.proofs.ToldDatatypes.{among_tokens, not_cut, not_decoded}
use Rattle.rnc_places.proofs.places.datatype_place_of.Goals as goal

pub returns-in-Err-At-clause-found : goal.returns-in-Err-At-clause-found
returns-in-Err-At-clause-found c = λ broken.
    absurd (not_decoded (λ t. t) c.args.types c.args.file.now c.in-Err-At.field-0 _ _ c.in-Err-At.field-0-is c.in-Err-At.ensures.only broken)

pub returns-in-Err-At-tokens-clause-found : goal.returns-in-Err-At-tokens-clause-found
returns-in-Err-At-tokens-clause-found c = λ broken.
    absurd (not_cut (λ (v : Vec Token Global). tokens_of v.items) c.args.types c.args.file.now c.in-Ok.text c.in-Err-At-tokens.field-0 _ _
    c.in-Err-At-tokens.field-0-is c.in-Ok.ensures.found c.in-Ok.ensures.one c.in-Err-At-tokens.ensures.only broken)

pub returns-clause-found : goal.returns-clause-found
returns-clause-found c = λ broken.
    let b = among_tokens (λ (v : Vec Token Global). tokens_of v.items) c.args.types c.args.file.now c.in-Ok.text c.in-Ok-tokens.tokens
    c.in-Ok.ensures.found c.in-Ok.ensures.one c.in-Ok-tokens.ensures.only broken in
    let same : BreaksDatatypesAt c.args.types (lexemes (tokens_of c.as_slice.result.now)) b.0 = rw (c.as_slice.ensures.value) b.1 in
    c.place_of_datatype.ensures.found b.0 same
