use Rattle.std.proofs.Common.{◌≡◌, ◌∙◌, [], sym, ap}
use Rattle.std.proofs.lemmas.Bool.Decides.{Decides-eqb}
use Rattle.std.proofs.lemmas.Slice.Eq.{slice_eq-Decides}
use Rattle.std.proofs.lemmas.List.{get_or-map}
use Rattle.xsd_automaton.proofs.found_sets.place_of.Goals as goal

pub returns-then-eq : goal.returns-then-eq
returns-then-eq c =
    let same : c.as_slice.result.now ≡ c.args.numbers.now =
    (slice_eq-Decides Decides-eqb c.as_slice.result.now c.args.numbers.now c.eq.result c.eq.ensures).0 c.if-eq.true in (
      c.loop-place-test.true,
      get_or-map (λ v. v.items) c.args.sets.now c.loop-place.place c.index-sets-place.result [] c.loop-place-test.true
          ∙ ap (λ v. v.items) (sym c.index-sets-place.is) ∙ sym c.as_slice.ensures.value ∙ same,
    )
