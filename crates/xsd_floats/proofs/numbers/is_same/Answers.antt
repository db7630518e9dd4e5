use Rattle.std.proofs.Common.{◌||◌, ◌&&◌, sym, ap, ap₂, ◌∙◌}
use lib.Ieee.{binary64, is_nan}
use Rattle.xsd_floats.proofs.Comparisons.{same_values}
use Rattle.xsd_floats.proofs.numbers.is_same.Goals as goal

pub returns-then-a-b : goal.returns-then-a-b
returns-then-a-b c =
    c.if-a-b.true ∙ ap (λ t. t || (is_nan c.args.a && is_nan c.args.b)) (sym c.if-a-b.true)
    ∙ same_values binary64 c.args.a c.args.b c.well_formed.0.1 c.well_formed.1.0.1

pub returns-then-is_nan : goal.returns-then-is_nan
returns-then-is_nan c =
    c.is_nan-then-is_nan.ensures.value ∙ ap₂ (λ t u. t || (u && is_nan c.args.b)) (sym c.if-a-b.false) c.if-is_nan.ensures.value
    ∙ same_values binary64 c.args.a c.args.b c.well_formed.0.1 c.well_formed.1.0.1

pub returns-else-is_nan : goal.returns-else-is_nan
returns-else-is_nan c =
    c.if-is_nan.false ∙ ap₂ (λ t u. t || (u && is_nan c.args.b)) (sym c.if-a-b.false) c.if-is_nan.ensures.value
    ∙ same_values binary64 c.args.a c.args.b c.well_formed.0.1 c.well_formed.1.0.1
