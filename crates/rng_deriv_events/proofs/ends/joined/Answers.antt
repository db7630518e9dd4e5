use Rattle.std.proofs.Common.{◌∙◌, sym}
use Rattle.rng_deriv_events.specs.views.Basis.{reading_by}
use Rattle.rng_deriv_events.proofs.EndedElements.{beside_none}
use Rattle.rng_deriv_events.proofs.ends.joined.Goals as goal

pub returns-then-is_not_allowed-clause-choice : goal.returns-then-is_not_allowed-clause-choice
returns-then-is_not_allowed-clause-choice g c =
    beside_none (reading_by (g.D.Derivatives.basis c.args.derivatives.now)) (g.D.Derivatives.trees c.args.derivatives.now) c.args.first c.args.second
    c.requires.second (sym c.is_not_allowed.ensures ∙ c.if-is_not_allowed.true)
