use Rattle.std.proofs.Common.{◌≡◌, ◌∙◌, ◌+◌, ℕ, [], ◌∷◌, Some, ap, arith, get_or, length, length-append, map, refl, slice_get, subst, sym}
use Rattle.std.proofs.lemmas.Option.{slice_get-get_or, slice_get-map}
use Rattle.std.specs.Option.{option_map}
use Rattle.rng_deriv_table.specs.views.Skips.{AreSkipsOf}
use Rattle.rng_deriv_table.specs.declared.pattern.PatternNumber.{PatternNumber}
use Rattle.rng_deriv_table.specs.declared.skips.Skip.{Skip}
use Rattle.rng_deriv_table.proofs.MemberSkips.{single_pushed}
use Rattle.rng_deriv_table.proofs.skips.single_skips.Goals as goal

pub members-preserved : goal.members-preserved
members-preserved c =
    let ns = c.args.table.now in
    let members = c.args.members.now in
    let ms = map (λ (m : PatternNumber). m.0) members in
    let i = c.members.position in
    let none : PatternNumber = record { 0 = 0 } in
    let old = c.members.skips.items in
    let skip : Skip = record { elements = c.facts.result.elements; behind = i + 1 } in
    let count = c.members.invariant.count in
    let long = length-append old (skip ∷ []) in
    let new = sym c.in_ok-push.ensures.items in
    let number : PatternNumber → ℕ = λ m. m.0 in
    let found : slice_get ms i ≡ Some (get_or members i none).0 =
    slice_get-map number members i ∙ ap (option_map number) (slice_get-get_or members i none c.members-test.true) in
    record {
      count = subst (λ xs. length xs ≡ i + 1) new (omega (arith, long, count));
      skips = subst (AreSkipsOf ns ms) new (single_pushed ns ms old i (get_or members i none).0 skip count found refl c.facts.ensures.elements c.members.invariant.skips);
    }
