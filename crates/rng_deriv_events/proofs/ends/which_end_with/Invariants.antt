use Rattle.std.proofs.Common.{take}
use Rattle.rng_deriv_events.specs.views.Basis.{reading_by}
use Rattle.rng_deriv_events.specs.views.Levels.{AreEndsWith}
use Rattle.rng_deriv_events.proofs.ends.which_end_with.Given as goal

abbrev pub invariant-alternatives : goal.invariant-alternatives
invariant-alternatives g l =
    AreEndsWith (reading_by (g.D.Derivatives.basis l.derivatives)) (g.D.Derivatives.trees l.derivatives) l.now l.after l.blank (take l.place l.now) l.good.items
