use Rattle.std.proofs.Common.{◌≡◌, ◌≤◌, ◌∙◌, ap, arith, length, map, refl, sym, false}
use Rattle.std.specs.List.{list_any}
use Rattle.std.proofs.lemmas.List.{at_drop_all}
use Rattle.std.proofs.lemmas.List.Folds.{list_any_at}
use Rattle.rng_model.proofs.Truths.{no_truth}
use Rattle.rng_model.specs.views.SchemaView.{place_of}
use Rattle.rng_load.specs.views.PlacedGrammars.{schema_of}
use Rattle.rng_schema_checks.specs.plain.ClauseTests.{is_broken_at}
use Rattle.rng_schema_checks.proofs.AllPlaces.{any_mapped}
use Rattle.rng_schema_checks.proofs.BrokenPlaces.{judged}
use Rattle.rng_schema_checks.proofs.checking.Judge.breaks.Goals as goal

pub returns-then-branch : goal.returns-then-branch
returns-then-branch c =
    let s = schema_of c.args.self.schema.now in
    let places = c.places-place-items.result.now in
    let test = is_broken_at c.args.self.types c.args.clause s in
    let met = ap (λ p. test (place_of p)) (sym c.place-item.is) ∙ sym c.in_ok-breaks_at.ensures ∙ c.if-branch.true in
    let found = list_any_at (λ p. test (place_of p)) places c.loop-place.place-index c.place-item.result c.loop-place-test.true met in
    let whole = any_mapped test place_of places ∙ found in
    (λ t. (judged c.args.self.types s (map place_of places) c.places-place-items.ensures c.args.clause).0 whole, λ b. refl)

pub returns : goal.returns
returns c =
    let s = schema_of c.args.self.schema.now in
    let places = c.places-place-items.result.now in
    let test = is_broken_at c.args.self.types c.args.clause s in
    let over : length places ≤ c.loop-place.place-index = omega (arith, c.loop-place-test.false) in
    let none : list_any (λ p. test (place_of p)) places ≡ false =
    c.loop-place.invariant ∙ at_drop_all (list_any (λ p. test (place_of p))) places c.loop-place.place-index over in
    let whole = any_mapped test place_of places ∙ none in
    (λ t. no_truth t, λ b. sym whole ∙ (judged c.args.self.types s (map place_of places) c.places-place-items.ensures c.args.clause).1 b)
