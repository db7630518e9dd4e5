use Rattle.std.proofs.Common.{◌≡◌, ◌∙◌, ◌-◌, Some, None, option_map, ap, refl, sym}
use Rattle.std.specs.List.{slice_get}
use Rattle.std.proofs.lemmas.Option.{slice_get-map, slice_get_past, slice_get_read}
use Rattle.rnc_model.specs.tokens.CutTokens.{token_of, tokens_of}
use Rattle.rnc_places.proofs.ToldPlaces.{place_of_none, place_of_some}
use Rattle.rnc_places.proofs.places.place_of_token.Goals as goal

pub returns-in-Some : goal.returns-in-Some
returns-in-Some c = λ cs decoded has size.
    let e : slice_get (tokens_of c.args.tokens.now) (c.args.number - 1) ≡ Some (token_of c.in-Some.token.now) =
    ap (slice_get (tokens_of c.args.tokens.now)) (sym c.saturating_sub.ensures) ∙ slice_get-map token_of c.args.tokens.now c.saturating_sub.result
    ∙ ap (option_map token_of) (slice_get_read c.args.tokens.now _ c.saturating_sub.result c.in-Some.token.now refl c.in-Some.ensures.lookup.3.0 (c.in-Some.ensures.lookup.3.1 _)) in
    place_of_some _ cs _ _ _ _ decoded has e c.place_of_decoded.ensures

pub returns-in-None : goal.returns-in-None
returns-in-None c = λ cs decoded has size.
    let e : slice_get (tokens_of c.args.tokens.now) (c.args.number - 1) ≡ None =
    ap (slice_get (tokens_of c.args.tokens.now)) (sym c.saturating_sub.ensures) ∙ slice_get-map token_of c.args.tokens.now c.saturating_sub.result
    ∙ ap (option_map token_of) (slice_get_past c.args.tokens.now c.saturating_sub.result c.in-None.ensures.lookup.3) in
    place_of_none _ cs _ _ _ decoded e (λ front numbers after spelling decodes long. c.place_of_decoded-in-None.ensures front numbers after spelling decodes (long ∙ size))
