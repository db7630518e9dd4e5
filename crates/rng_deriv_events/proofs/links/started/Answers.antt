use Rattle.std.proofs.Common.{◌∙◌, ◌<◌, ap, length, refl, subst, sym}
use Rattle.std.proofs.lemmas.List.{take_all}
use Rattle.rng_names.specs.plain.Keys.{key_of}
use Rattle.rng_deriv_events.specs.views.Basis.{Basis, reading_by}
use Rattle.rng_deriv_events.specs.views.Levels.{AddsLinks, AddsOpened}
use Rattle.rng_deriv_events.proofs.Numbers.{inside_stays, longer_same, longer_through}
use Rattle.rng_deriv_events.proofs.StartedElements.{none_opens, opens_at}
use Rattle.rng_deriv_events.proofs.links.started.Goals as goal

pub alternatives-init : goal.alternatives-init
alternatives-init g c =
    let trees = g.D.Derivatives.trees c.args.derivatives.now in
    record {
      basis = refl;
      longer = longer_same trees;
      first = λ q e. none_opens (reading_by (g.D.Derivatives.basis c.args.derivatives.now)) q trees c.new-bodies.result.items c.new-links.result.items
          c.new-bodies.ensures.items c.new-links.ensures.items;
    }

pub starts-requires-clause-inside : goal.starts-requires-clause-inside
starts-requires-clause-inside g c =
    let trees = g.D.Derivatives.trees in
    inside_stays (trees c.args.derivatives.now) (trees c.alternatives.derivatives) c.alternatives.invariant.longer _
    (c.requires.now c.alternatives.outer _ c.alternatives-test.true)

pub starts-requires-clause-key : goal.starts-requires-clause-key
starts-requires-clause-key g c =
    subst (λ (b : Basis). c.args.key.0 < length b.keys.names) (sym c.alternatives.invariant.basis) c.requires.key

pub alternatives-preserved : goal.alternatives-preserved
alternatives-preserved g c =
    let trees = g.D.Derivatives.trees in
    let basis = g.D.Derivatives.basis in
    let before = c.alternatives.invariant in
    record {
      basis = c.in_ok-ways.ensures.basis ∙ before.basis;
      longer = longer_through (trees c.args.derivatives.now) (trees c.alternatives.derivatives) (trees c.starts.new.self) before.longer
          c.in_ok-ways.ensures.longer;
      first = λ q e. opens_at (reading_by (basis c.alternatives.derivatives)) (reading_by (basis c.args.derivatives.now)) q (trees c.args.derivatives.now)
          (trees c.alternatives.derivatives) (trees c.starts.new.self) c.args.now.now c.alternatives.outer _ c.in_ok-ways.ways.items
          c.alternatives.bodies.items c.add_links.new.bodies.items c.alternatives.links.items c.add_links.new.links.items (ap reading_by before.basis)
          (before.first q e)
          c.requires.now c.alternatives-test.true
          (c.in_ok-ways.ensures.starts q (ap (λ (b : Basis). key_of b.keys q) before.basis ∙ e))
          (subst (λ ways. AddsLinks c.alternatives.outer ways c.alternatives.bodies.items c.add_links.new.bodies.items c.alternatives.links.items
          c.add_links.new.links.items) c.as_slice.ensures c.in_ok-add_links.ensures);
    }

pub returns-clause-opened : goal.returns-clause-opened
returns-clause-opened g c =
    let trees = g.D.Derivatives.trees in
    λ q e. subst (λ ps. AddsOpened (reading_by (g.D.Derivatives.basis c.args.derivatives.now)) q (trees c.args.derivatives.now)
    (trees c.alternatives.derivatives) ps
    c.alternatives.bodies.items c.alternatives.links.items) (take_all c.alternatives.outer c.args.now.now c.alternatives-test.false)
    (c.alternatives.invariant.first q e)
