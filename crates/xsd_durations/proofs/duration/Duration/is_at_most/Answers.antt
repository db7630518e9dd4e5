use Rattle.std.proofs.Common.{◌||◌, ap, ◌∙◌, sym}
use Rattle.rng_model.specs.xsd.primitives.Durations.{is_less}
use Rattle.xsd_durations.specs.Views.{duration_view}
use Rattle.xsd_durations.proofs.duration.Duration.is_at_most.Goals as goal

pub returns-then-is_as_long : goal.returns-then-is_as_long
returns-then-is_as_long c =
    let a = duration_view c.args.self.now in
    let b = duration_view c.args.other.now in
    c.if-is_as_long.true ∙ ap (λ v. v || is_less a b) (sym c.if-is_as_long.true ∙ c.is_as_long.ensures)

pub returns-else-is_as_long : goal.returns-else-is_as_long
returns-else-is_as_long c =
    let a = duration_view c.args.self.now in
    let b = duration_view c.args.other.now in
    c.is_less.ensures ∙ ap (λ v. v || is_less a b) (sym c.if-is_as_long.false ∙ c.is_as_long.ensures)
