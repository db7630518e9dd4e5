use Rattle.std.proofs.Common.{ap, length, refl, subst, sym, All}
use Rattle.rng_model.specs.names.NameViews.{name_of}
use Rattle.rng_deriv_events.specs.views.Basis.{reading_by}
use Rattle.rng_deriv_events.specs.views.LevelTable.{levels_in, steps_in}
use Rattle.rng_deriv_events.specs.declared.level_table.step.Step.{Step}
use Rattle.rng_deriv_events.specs.views.Levels.{AddsOpened}
use Rattle.rng_deriv_events.specs.views.Numbers.{IsInside}
use Rattle.rng_deriv_events.proofs.KeptLevels.{adds_step, adds_through, kept_on, last_step, numbers_inside, step_kept}
use Rattle.rng_deriv_events.proofs.steps.add_step.Goals as goal

pub started-requires-clause-now : goal.started-requires-clause-now
started-requires-clause-now g c =
    let trees = g.D.Derivatives.trees c.args.derivatives.now in
    subst (All (IsInside trees)) (sym c.numbers-numbers.ensures)
    (numbers_inside trees (levels_in c.args.table.now) c.args.from.0 c.requires.kept.levels c.requires.from)

pub level_of-requires-clause-inside : goal.level_of-requires-clause-inside
level_of-requires-clause-inside g c =
    (c.in_ok-bodies.ensures.opened (name_of c.args.name.now) c.key-key.ensures.key).inside

pub level_of-requires-clause-kept : goal.level_of-requires-clause-kept
level_of-requires-clause-kept g c =
    let trees = g.D.Derivatives.trees in
    let basis = g.D.Derivatives.basis in
    let old = c.args.derivatives.now in
    let new = c.started.new.derivatives in
    let told = c.in_ok-bodies.ensures in
    kept_on (basis old) (basis new) (trees old) (trees new) c.args.table.now told.basis told.longer c.requires.kept

pub returns-clause-keeps : goal.returns-clause-keeps
returns-clause-keeps g c =
    let trees = g.D.Derivatives.trees in
    let basis = g.D.Derivatives.basis in
    let before = c.args.derivatives.now in
    let d = c.started.new.derivatives in
    let q = name_of c.args.name.now in
    let t = c.level_of.new.table in
    let key = c.key-key.result in
    let bodies = c.in_ok-bodies.field-0.bodies.items in
    let opened = c.in_ok-bodies.field-0.links in
    let told = c.in_ok-step.ensures in
    let first = c.in_ok-child.ensures in
    let step : Step = record { from = c.args.from; key = key; child = c.in_ok-child.child; around = length c.numbers-numbers.result.now; links = opened } in
    let law = step_kept (basis before) (basis d) (trees before) (trees d) c.args.table.now t step bodies q
    c.in_ok-bodies.ensures.basis c.requires.from first.adds.levels
    (ap length c.numbers-numbers.ensures) c.key-key.ensures.key
    (λ r e. subst (λ ps. AddsOpened (reading_by (basis before)) r (trees before) (trees d) ps bodies opened.items) c.numbers-numbers.ensures
    (c.in_ok-bodies.ensures.opened r e)) first.level in
    record {
      basis = c.in_ok-bodies.ensures.basis;
      right = adds_through (reading_by (basis d)) (reading_by (basis d)) (basis d).keys (basis d).keys (trees d) (trees d) c.args.table.now t
          c.add_step.new.self first.adds
          (adds_step (reading_by (basis d)) (basis d).keys (trees d) t c.add_step.new.self first.adds.kept step law told.levels told.steps told.known.closed
          told.known.sampled told.known.ends);
    }

pub returns-clause-step : goal.returns-clause-step
returns-clause-step g c =
    let told = c.in_ok-step.ensures in
    let t = c.level_of.new.table in
    let step : Step = record {
      from = c.args.from;
      key = c.key-key.result;
      child = c.in_ok-child.child;
      around = length c.numbers-numbers.result.now;
      links = c.in_ok-bodies.field-0.links;
    } in
    (step, last_step (steps_in t) (steps_in c.add_step.new.self) step c.in_ok-step.step.0 told.number told.steps, refl, sym c.key-key.ensures.key)
