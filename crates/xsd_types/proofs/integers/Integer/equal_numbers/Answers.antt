use Rattle.std.proofs.Common.{◌&&◌, ℤ, Bool, ap, ◌∙◌, sym}
use Rattle.std.specs.Ordering.{int_eq}
use Rattle.std.proofs.lemmas.Bool.{and_left}
use Rattle.rng_model.specs.xsd.Integers.{is_within_facets}
use Rattle.xsd_types.specs.plain.Digits.{value_of}
use Rattle.xsd_types.specs.views.Numbers.{range_of, facets_of}
use Rattle.xsd_types.proofs.Values.{numbers_if}
use Rattle.xsd_types.proofs.integers.Integer.equal_numbers.Goals as goal

pub returns-then-is_same : goal.returns-then-is_same
returns-then-is_same c =
    let d = c.args.self.now in
    let test : ℤ → Bool = is_within_facets (range_of d.range) (facets_of d.facets) in
    c.allows_number.ensures ∙ ap (λ b. b && test (value_of c.args.a.now)) (sym (sym c.is_same.ensures ∙ c.if-is_same.true))
    ∙ sym (numbers_if test (value_of c.args.a.now) (value_of c.args.b.now))

pub returns-else-is_same : goal.returns-else-is_same
returns-else-is_same c =
    let d = c.args.self.now in
    let test : ℤ → Bool = is_within_facets (range_of d.range) (facets_of d.facets) in
    c.if-is_same.false
    ∙ sym (and_left (int_eq (value_of c.args.a.now) (value_of c.args.b.now)) (test (value_of c.args.a.now)) (sym c.is_same.ensures ∙ c.if-is_same.false))
    ∙ sym (numbers_if test (value_of c.args.a.now) (value_of c.args.b.now))
