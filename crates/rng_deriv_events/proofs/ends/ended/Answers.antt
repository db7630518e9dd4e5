use Rattle.std.proofs.Common.{◌≡◌, ◌∙◌, ◌+◌, ◌-◌, arith, drop, length, subst, sym, ap}
use Rattle.std.proofs.lemmas.List.{drop_all}
use Rattle.rng_deriv_events.specs.views.Basis.{reading_by}
use Rattle.rng_deriv_events.specs.views.Levels.{AddsEnded}
use Rattle.rng_deriv_events.proofs.EndedElements.{ends_at, no_ends, only_ended}
use Rattle.rng_deriv_events.proofs.ends.ended.Goals as goal

pub returns-in-Some-clause-ended : goal.returns-in-Some-clause-ended
returns-in-Some-clause-ended g c =
    only_ended (reading_by (g.D.Derivatives.basis c.args.derivatives.now)) c.args.good.now c.args.around (g.D.Derivatives.trees c.args.derivatives.now)
    c.args.links.now
    c.in-Some.rest c.in_ok-from_slice.field-0.items c.in-Some.ensures c.requires c.in_ok-from_slice.ensures.ok

pub links-init : goal.links-init
links-init g c =
    let trees = g.D.Derivatives.trees in
    let links = c.args.links.now in
    record {
      within = omega arith;
      basis = c.in_ok-none.ensures.basis;
      first = subst (λ ls. AddsEnded (reading_by (g.D.Derivatives.basis c.args.derivatives.now)) c.args.good.now c.args.around (trees c.args.derivatives.now)
          (trees c.choice.new.self) ls c.in_ok-outside.outside.items) (sym (drop_all (length links) links (omega arith)))
          (no_ends (reading_by (g.D.Derivatives.basis c.args.derivatives.now)) c.args.good.now c.args.around (trees c.args.derivatives.now)
          (trees c.choice.new.self)
          c.in_ok-none.none c.in_ok-outside.outside.items c.in_ok-none.ensures.choice (c.in_ok-outside.ensures.items_if_clones_equal (λ y e. e)));
    }

pub links-preserved : goal.links-preserved
links-preserved g c =
    let trees = g.D.Derivatives.trees in
    let basis = g.D.Derivatives.basis in
    let before = c.links.invariant in
    let i = c.links.left - 1 in
    let positive = c.links-test.true in
    let within = before.within in
    let at : c.links.left ≡ i + 1 = omega (arith, positive) in
    record {
      within = omega (arith, within);
      basis = c.in_ok-leave.ensures.basis ∙ before.basis;
      first = ends_at (reading_by (basis c.links.derivatives)) (reading_by (basis c.args.derivatives.now)) c.args.good.now c.args.around
          (trees c.args.derivatives.now)
          (trees c.links.derivatives) (trees c.leave.new.derivatives) c.args.links.now i _ c.links.outside.items c.leave.new.outside.items
          (ap reading_by before.basis) (subst (λ k. AddsEnded (reading_by (basis c.args.derivatives.now)) c.args.good.now c.args.around
          (trees c.args.derivatives.now)
          (trees c.links.derivatives) (drop k c.args.links.now) c.links.outside.items) at before.first) c.requires (omega (arith, positive, within))
          c.in_ok-leave.ensures.leaves;
    }
