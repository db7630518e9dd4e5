-- The places of a schema are the keys of its map.
use Rattle.std.proofs.Common.{◌≡◌, ◌∙◌, sym, true≢false, refl, ap, List, [], ◌∷◌, map, Option, Some, None, option_map, IsSome}
use Rattle.std.specs.Str.{bytes_eq}
use Rattle.std.specs.Cmp.{decided}
use Rattle.std.specs.Map.{keys_of}
use Rattle.std.proofs.lemmas.Map.Views.{Contains-keys_from_lookup, IsSome-lookup_from_Contains}
use Rattle.std.proofs.lemmas.Slice.Eq.{bytes_eq-Decides}
use Rattle.rng_model.specs.schema.Patterns.{Place}
use Rattle.rng_model.specs.schema.Schema.{Component}
use Rattle.rng_model.specs.names.Lists.{there, HasTwice, at_first, later}
use Rattle.rng_model.specs.views.SchemaView.{place_of, place_eq}
use Rattle.rng_model.proofs.SamePlaces.{same_place}
use Rattle.rng_load.proofs.NameLists.{from_map, none_twice}
use Rattle.std.specs.List.{IsDistinct}
use Rattle.rng_model.proofs.Members.{all_among}
use Rattle.rng_model.specs.declared.place.Place as declared
use Rattle.rng_load.specs.views.PlacedGrammars.{PlacedGrammar, PlacedGrammars, grammar_at, grammar_of, schema_with}
use Rattle.rng_load.specs.plain.SchemaPlaces.{AreItsPlaces}
use Rattle.rng_load.specs.declared.schema.Grammar.{Grammar}

has_components : (o : Option PlacedGrammar) → IsSome o → (cs : List Component) × (option_map (λ g. g.components) o ≡ Some cs)
has_components None h = absurd (cc)
has_components (Some g) h = (g.components, refl)

is_there : (o : Option PlacedGrammar) (cs : List Component) → option_map (λ g. g.components) o ≡ Some cs → IsSome o
is_there None cs e = absurd (cc)
is_there (Some g) cs e = refl

pub places_listed : (main : Place) (gs : PlacedGrammars) → ¬ (HasTwice (keys_of gs)) → AreItsPlaces (schema_with main gs) (keys_of gs)
places_listed main gs once = record {
  there = λ x h. has_components (grammar_at gs x) (IsSome-lookup_from_Contains (decided bytes_eq bytes_eq-Decides) x gs h);
  all = λ x cs e. Contains-keys_from_lookup (λ y z. (bytes_eq-Decides y z).0) x gs (is_there (grammar_at gs x) cs e);
  once = once;
}

pub places_once : (ps : List declared.Place) → IsDistinct place_eq ps → ¬ (HasTwice (map place_of ps))
unfolding IsDistinct
places_once [] d t = none_twice t
places_once (p ∷ ps) d (at_first a) =
    let q = from_map place_of ps a in
    true≢false (sym ((same_place p q.0).1 q.2) ∙ all_among _ d.0 q.1)
places_once (p ∷ ps) d (later t) = places_once ps d.1 t

-- the keys as they are viewed
pub keys_seen : (es : List (declared.Place × Grammar)) → keys_of (map (λ e. (place_of e.0, grammar_of e.1)) es) ≡ map place_of (keys_of es)
keys_seen [] = refl
keys_seen (e ∷ es) = ap (λ xs. place_of e.0 ∷ xs) (keys_seen es)
