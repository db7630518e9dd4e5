use Rattle.std.proofs.Common.{◌≡◌, ◌∙◌, ap, map, subst, sym}
use Rattle.std.specs.Map.{keys_of}
use Rattle.rng_model.specs.views.SchemaView.{place_of}
use Rattle.rng_load.specs.views.PlacedGrammars.{grammars_of, schema_with}
use Rattle.rng_load.specs.plain.SchemaPlaces.{AreItsPlaces}
use Rattle.rng_load.proofs.Places.PlacesListed.{keys_seen, places_listed, places_once}
use Rattle.rng_model.specs.names.Lists.{HasTwice}
use Rattle.rng_load.proofs.schema.Schema.places.Goals as goal

pub returns : goal.returns
returns c =
    let schema = c.self.inside in
    let keys : c.as_slice.result.now ≡ keys_of schema.grammars.entries = c.as_slice.ensures ∙ c.keys.ensures.rest in
    rw (← c.self.view_is)
    (subst (AreItsPlaces (schema_with (place_of schema.main) (grammars_of schema.grammars))) (keys_seen schema.grammars.entries ∙ ap (map place_of) (sym keys))
    (places_listed (place_of schema.main) (grammars_of schema.grammars)
    (subst (λ ps. ¬ (HasTwice ps)) (sym (keys_seen schema.grammars.entries)) (places_once (keys_of schema.grammars.entries) c.keys.ensures.unique))))
