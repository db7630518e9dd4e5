use Rattle.std.proofs.Common.{◌≤◌, ◌∙◌, ◌&&◌, ◌||◌, Some, ap, arith, length, map, sym, take}
use Rattle.std.specs.List.{list_any}
use Rattle.std.specs.Str.{bytes_eq}
use Rattle.std.proofs.lemmas.List.{take_all}
use Rattle.std.proofs.lemmas.List.Folds.{list_any_more}
use Rattle.std.proofs.lemmas.Slice.Eq.{bytes_eq-Decides}
use Rattle.rng_model.specs.views.SchemaView.{place_of}
use Rattle.rng_load.specs.views.PlacedGrammars.{schema_of}
use Rattle.rng_schema_checks.specs.views.Defined.{defines_in, has_name}
use Rattle.rng_schema_checks.specs.plain.GrammarTests.{defines, is_named}
use Rattle.rng_schema_checks.proofs.AllPlaces.{any_mapped, defined_at_all, one_more_place}
use Rattle.rng_schema_checks.proofs.definitions.Definitions.of_schema.Goals as goal

pub loop-place-preserved : goal.loop-place-preserved
loop-place-preserved c = λ x y.
    let s = schema_of c.args.schema.now in
    let places = c.places-place-items.result.now in
    let i = c.loop-place.place-index in
    let place = c.place-item.result in
    let gone = list_any (λ p. bytes_eq x (place_of p)) (take i places) in
    let more = list_any_more (λ p. bytes_eq x (place_of p)) places i place c.loop-place-test.true
    ∙ ap (λ p. gone || bytes_eq x (place_of p)) (sym c.place-item.is) in
    one_more_place gone (bytes_eq x (place_of place)) (defines s x y) (has_name c.in_ok-names.names y) (defines_in c.loop-place.all x y)
    (defines_in c.put.new.self x y) (c.loop-place.invariant x y)
    (λ t. c.in_ok-names.ensures y ∙ ap (list_any (is_named (Some y))) c.components_at.ensures
    ∙ ap (λ z. defines s z y) (sym ((bytes_eq-Decides x (place_of place)).0 t)))
    (c.in_ok-put.ensures x y) ∙ ap (λ b. b && defines s x y) (sym more)

pub returns : goal.returns
returns c = λ x y.
    let s = schema_of c.args.schema.now in
    let places = c.places-place-items.result.now in
    let over : length places ≤ c.loop-place.place-index = omega (arith, c.loop-place-test.false) in
    c.loop-place.invariant x y
    ∙ ap (λ ps. list_any (λ p. bytes_eq x (place_of p)) ps && defines s x y) (take_all c.loop-place.place-index places over)
    ∙ ap (λ b. b && defines s x y) (sym (any_mapped (bytes_eq x) place_of places))
    ∙ defined_at_all s (map place_of places) c.places-place-items.ensures x y
