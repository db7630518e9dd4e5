use Rattle.std.proofs.lemmas.Option.{get_or_from_slice_get}
use Rattle.std.proofs.Common.{◌≡◌, List, Some, slice_get, sym, ap, ◌∙◌, subst}
use Rattle.rng_deriv_events.specs.declared.derivatives.StartWay.{StartWay}
use Rattle.rng_deriv_ways.proofs.AddedWays.{taken_out}
use Rattle.rng_deriv.proofs.starts.take_rest.Goals as goal

pub returns-clause-found : goal.returns-clause-found
returns-clause-found c =
    let ws : List StartWay = c.args.ways.now.items in
    let found = c.in_ok-place.ensures.found in
    let at : slice_get ws c.in_ok-place.place ≡ Some found.0 = subst (λ xs. slice_get xs c.in_ok-place.place ≡ Some found.0) c.as_slice.ensures found.1 in
    let is : c.remove.result ≡ found.0 = c.remove.ensures.value ∙ get_or_from_slice_get ws c.in_ok-place.place found.0 c.remove.result at in (
      ap (λ (w : StartWay). w.rest) is ∙ found.2,
      taken_out ws c.remove.new.self.items c.in_ok-place.place c.remove.result
          (at ∙ ap Some (sym is)) c.remove.ensures.items,
    )
