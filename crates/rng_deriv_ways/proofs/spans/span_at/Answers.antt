use Rattle.std.proofs.lemmas.Option.{slice_get-get_or}
use Rattle.rng_deriv_table.specs.declared.pattern.Span.{Span}
use Rattle.rng_deriv_ways.proofs.spans.span_at.Goals as goal

pub returns : goal.returns
returns c = λ t ns all.
    let none : Span = record { least = 0; greatest = 0 } in
    (all c.args.number.0 _ (slice_get-get_or c.args.spans.now c.args.number.0 none c.requires)).1
