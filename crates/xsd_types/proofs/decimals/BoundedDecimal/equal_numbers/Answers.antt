use Rattle.std.proofs.Common.{◌&&◌, Bool, ap, ◌∙◌, sym}
use Rattle.std.proofs.lemmas.Bool.{and_left}
use Rattle.rng_model.specs.xsd.primitives.Decimals.{Decimal, is_within_decimal_facets}
use Rattle.rng_model.specs.plain.OneDecimal.{same_decimal}
use Rattle.xsd_types.specs.views.Ordered.{decimal_facets_of}
use Rattle.xsd_types.proofs.OneValue.{decimals_if}
use Rattle.xsd_types.proofs.decimals.BoundedDecimal.equal_numbers.Goals as goal

pub returns-then-is_same : goal.returns-then-is_same
returns-then-is_same c =
    let test : Decimal → Bool = is_within_decimal_facets (decimal_facets_of c.args.self.now) in
    c.allows_number.ensures ∙ ap (λ b. b && test c.args.a.now) (sym (sym c.is_same.ensures ∙ c.if-is_same.true))
    ∙ sym (decimals_if test c.args.a.now c.args.b.now)

pub returns-else-is_same : goal.returns-else-is_same
returns-else-is_same c =
    let test : Decimal → Bool = is_within_decimal_facets (decimal_facets_of c.args.self.now) in
    c.if-is_same.false
    ∙ sym (and_left (same_decimal c.args.a.now c.args.b.now) (test c.args.a.now) (sym c.is_same.ensures ∙ c.if-is_same.false))
    ∙ sym (decimals_if test c.args.a.now c.args.b.now)
