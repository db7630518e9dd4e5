use Rattle.std.proofs.Common.{◌∙◌, [], refl, false, subst, sym, None}
use Rattle.rng_deriv_events.specs.views.Basis.{reading_by}
use Rattle.rng_deriv_events.specs.views.OpenPositions.{IsPositionKept, open_position}
use Rattle.rng_deriv_events.specs.views.Positions.{HasCome}
use Rattle.rng_deriv_events.specs.declared.position.Position.{Position}
use Rattle.rng_deriv_events.proofs.KnownDocuments.{comes_first}
use Rattle.rng_deriv_events.proofs.OpenStates.{kept_first, levels_first}
use Rattle.rng_deriv_events.proofs.event_matcher.EventMatcher.with_table.Goals as goal

pub invariant_of-result : goal.invariant_of-result
invariant_of-result g c =
    let d = c.args.derivatives in
    let reading = reading_by (g.D.Derivatives.basis d) in
    let keys = (g.D.Derivatives.basis d).keys in
    let told = c.in_ok-now.ensures in
    subst (IsPositionKept reading keys (g.D.Derivatives.trees d)) (sym c.in_ok-position.ensures.ok) (record {
      state = kept_first reading keys (g.D.Derivatives.trees d)
          (record { table = c.level_of.new.table; now = c.in_ok-now.now; carried = c.new.result; steps = c.new-2.result }) told.adds.kept told.level.0
          c.new.ensures.items c.new-2.ensures.items;
      held = tt;
    })

pub returns-clause-known : goal.returns-clause-known
returns-clause-known g c =
    let d = c.args.derivatives in
    let reading = reading_by (g.D.Derivatives.basis d) in
    let told = c.in_ok-now.ensures in
    let p : Position = record {
      state = record { table = c.level_of.new.table; now = c.in_ok-now.now; carried = c.new.result; steps = c.new-2.result };
      has_begun = false;
      held = None;
      keeps_tag = false;
    } in
    subst (λ (p : Position). HasCome reading (g.D.Derivatives.trees d) (open_position p) 0 []) (sym c.in_ok-position.ensures.ok)
    (comes_first reading (g.D.Derivatives.trees d) (open_position p) 0 c.in_ok-start.start
    (told.level.1 ∙ c.in_ok-numbers.ensures.ok) (levels_first p.state c.new.ensures.items c.new-2.ensures.items) refl refl c.in_ok-start.ensures.start)
