use Rattle.std.proofs.Common.{◌∙◌, ap, ap₂, [], map}
use Rattle.rng_model.specs.views.SchemaView.{patterns_in}
use Rattle.rng_model.proofs.SchemaRows.{no_rows}
use Rattle.rng_load.specs.views.ReadPatterns.{nested_of}
use Rattle.rng_load.proofs.pattern_rows.PatternRows.new.Goals as goal

pub returns-clause-made : goal.returns-clause-made
returns-clause-made c =
    ap₂ (λ rs gs. (patterns_in rs, map nested_of gs)) c.new.ensures.items c.new-2.ensures.items ∙ ap (λ ps. (ps, [])) no_rows
