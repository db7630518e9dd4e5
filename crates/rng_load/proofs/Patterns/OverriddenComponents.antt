-- Included components, of which some are overridden.
use Rattle.std.proofs.Common.{◌≡◌, ◌∙◌, refl, ap, Bool, true, false, List, [], ◌∷◌, ◌++◌, ◌||◌, map, filter, not}
use Rattle.std.proofs.lemmas.List.{map-append}
use Rattle.std.proofs.lemmas.List.Elements.{filter_agree}
use Rattle.rng_model.specs.schema.Schema.{same_component_name}
use Rattle.rnc_model.specs.loading.Places.{is_overridden}
use Rattle.rng_load.specs.plain.PlainReading as plain
use Rattle.rng_load.specs.views.GatheredComponents.{gathered_of}
use Rattle.rng_load.specs.declared.reading_patterns.NestedGrammar.{NestedGrammar}
use Rattle.rng_overrides.specs.declared.gathered.GatheredComponent.{GatheredComponent}
use Rattle.rng_overrides.specs.views.Gathered.{replaced_by, without_grammars}

-- filtering and viewing commute
module _ {E B : Type 0} (view : E → B) (test : B → Bool) where
  one_kept : (e : E) (es : List E) (b : Bool) → test (view e) ≡ b → map view (filter (λ e. test (view e)) es) ≡ filter test (map view es)
      → map view (filter (λ e. test (view e)) (e ∷ es)) ≡ filter test (map view (e ∷ es))
  one_kept e es true t rest = rw t (ap (λ bs. view e ∷ bs) rest)
  one_kept e es false t rest = rw t rest

  map_filter : (es : List E) → map view (filter (λ e. test (view e)) es) ≡ filter test (map view es)
  map_filter [] = refl
  map_filter (e ∷ es) = one_kept e es (test (view e)) refl (map_filter es)

-- the grammars that are nested in components do not matter to what is overridden
overrides_same : (os : List (GatheredComponent NestedGrammar)) (g : GatheredComponent NestedGrammar)
    → is_overridden (map without_grammars os) (without_grammars g) ≡ is_overridden (map gathered_of os) (gathered_of g)
overrides_same [] g = refl
overrides_same (o ∷ os) g = ap (λ b. same_component_name (gathered_of o).component.name (gathered_of g).component.name || b) (overrides_same os g)

abbrev is_kept : List (GatheredComponent NestedGrammar) → GatheredComponent NestedGrammar → Bool
is_kept os g = not (is_overridden (map gathered_of os) (gathered_of g))

abbrev is_kept_bare : List (GatheredComponent NestedGrammar) → GatheredComponent NestedGrammar → Bool
is_kept_bare os g = not (is_overridden (map without_grammars os) (without_grammars g))

pub gathered_replaced : (all included overriding : List (GatheredComponent NestedGrammar)) →
    map gathered_of (all ++ replaced_by included overriding) ≡ map gathered_of all ++ plain.replaced_by (map gathered_of included) (map gathered_of overriding)
gathered_replaced all included overriding =
    map-append gathered_of all (replaced_by included overriding)
    ∙ ap (λ gs. map gathered_of all ++ gs) (map-append gathered_of (filter (is_kept_bare overriding) included) overriding
    ∙ ap (λ gs. gs ++ map gathered_of overriding) (ap (map gathered_of)
    (filter_agree (is_kept_bare overriding) (is_kept overriding) (λ g. ap not (overrides_same overriding g)) included)
    ∙ map_filter gathered_of (λ g. not (is_overridden (map gathered_of overriding) g)) included))
