use Rattle.std.proofs.Common.{◌∙◌, All, length, rules, subst}
use Rattle.std.proofs.lemmas.List.Elements.{All-append, All-take}
use Rattle.rng_deriv_events.specs.views.Basis.{reading_by}
use Rattle.rng_deriv_events.specs.views.LevelTable.{levels_in, numbers_in}
use Rattle.rng_deriv_events.specs.views.LevelRenewal.{rests_in}
use Rattle.rng_deriv_events.specs.views.Numbers.{IsInside}
use Rattle.rng_deriv_events.specs.declared.state.State.{State}
use Rattle.rng_deriv_events.proofs.KeptLevels.{kept_nothing, numbers_inside}
use Rattle.rng_deriv_events.proofs.LevelRenewal.{rests_inside}
use Rattle.rng_deriv_events.proofs.OpenStates.{kept_renewed, renewed_to}
use Rattle.rng_deriv_events.proofs.level_renewal.renew_carried.Goals as goal

pub renew-requires : goal.renew-requires
renew-requires g c =
    let old = g.D.Derivatives.trees c.args.derivatives.now in
    let s = c.args.state.now in
    let now = numbers_in (levels_in s.table) s.now.0 in
    subst (All (IsInside old)) (search rules)
    (All-append (IsInside old) now (rests_in s.carried.items) (numbers_inside old (levels_in s.table) s.now.0 c.requires.kept.kept.levels c.requires.kept.now)
    (rests_inside old s.carried.items c.requires.kept.carried))

pub level_of-requires-clause-inside : goal.level_of-requires-clause-inside
level_of-requires-clause-inside g c =
    let new = g.D.Derivatives.trees c.renew.new.self in
    let kept = c.in_ok-numbers.ensures.kept in
    subst (All (IsInside new)) (search rules) (All-take (IsInside new) (length c.numbers-now.result.now) c.in_ok-numbers.numbers.items kept.inside)

pub level_of-requires-clause-kept : goal.level_of-requires-clause-kept
level_of-requires-clause-kept g c =
    let d = c.renew.new.self in
    let told = c.new.ensures in
    kept_nothing (reading_by (g.D.Derivatives.basis d)) (g.D.Derivatives.basis d).keys (g.D.Derivatives.trees d) c.new.result told.levels told.steps told.closed
    told.sampled
    told.ends

pub returns-clause-keeps : goal.returns-clause-keeps
returns-clause-keeps g c =
    let trees = g.D.Derivatives.trees in
    let basis = g.D.Derivatives.basis in
    let a = c.args.derivatives.now in
    let d = c.renew.new.self in
    let s = c.args.state.now in
    let n : State = record { table = c.level_of.new.table; now = c.in_ok-state.field-0; carried = c.put_levels.new.levels; steps = s.steps } in
    let numbers = c.in_ok-numbers.numbers.items in
    let r = renewed_to (trees a) (trees d) s n c.as_slice-2.result.now numbers (reading_by (basis a)) (basis a).keys c.requires.kept c.requires.steps
    c.requires.steps
    (search rules) c.in_ok-numbers.ensures.kept (c.in_ok-state.ensures.level.1 ∙ search rules) (search rules) in
    record {
      basis = c.in_ok-numbers.ensures.basis;
      right = kept_renewed (reading_by (basis d)) (basis d).keys (trees d) n c.in_ok-state.ensures.adds.kept
          c.in_ok-state.ensures.level.0 c.requires.steps r.inside;
    }

pub returns-clause-renewed : goal.returns-clause-renewed
returns-clause-renewed g c =
    let trees = g.D.Derivatives.trees in
    let basis = g.D.Derivatives.basis in
    let a = c.args.derivatives.now in
    let d = c.renew.new.self in
    let s = c.args.state.now in
    let n : State = record { table = c.level_of.new.table; now = c.in_ok-state.field-0; carried = c.put_levels.new.levels; steps = s.steps } in
    let numbers = c.in_ok-numbers.numbers.items in
    renewed_to (trees a) (trees d) s n c.as_slice-2.result.now numbers (reading_by (basis a)) (basis a).keys c.requires.kept c.requires.steps c.requires.steps
    (search rules) c.in_ok-numbers.ensures.kept (c.in_ok-state.ensures.level.1 ∙ search rules) (search rules)
