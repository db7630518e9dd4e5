-- What a map of grammars by their places finds.
use Rattle.std.proofs.Common.{◌≡◌, ap, ◌∙◌, List, Option, Some, None, option_map, map, Bor}
use Rattle.std.specs.Option.{option_copied}
use Rattle.std.specs.Map.{lookup}
use Rattle.rng_model.specs.views.SchemaView.{place_eq, place_of}
use Rattle.rng_model.specs.declared.place.Place as declared
use Rattle.rng_model.proofs.SamePlaces.{lookup_place_seen}
use Rattle.rng_load.specs.views.PlacedGrammars.{grammar_at, grammar_of}
use Rattle.rng_load.specs.declared.schema.Grammar.{Grammar}

pub grammar_found : (es : List (declared.Place × Grammar)) (k : declared.Place) (o : Option (Bor Grammar)) → option_copied o ≡ lookup (place_eq k) es
    → option_map (λ g. grammar_of g.now) o ≡ grammar_at (map (λ e. (place_of e.0, grammar_of e.1)) es) (place_of k)
grammar_found es k None e = ap (option_map grammar_of) e ∙ lookup_place_seen grammar_of k es
grammar_found es k (Some g) e = ap (option_map grammar_of) e ∙ lookup_place_seen grammar_of k es

pub place_seen : (o : Option (Bor declared.Place)) (p : Option declared.Place) → option_copied o ≡ p
    → option_map (λ x. place_of x.now) o ≡ option_map place_of p
place_seen None p e = ap (option_map place_of) e
place_seen (Some x) p e = ap (option_map place_of) e
