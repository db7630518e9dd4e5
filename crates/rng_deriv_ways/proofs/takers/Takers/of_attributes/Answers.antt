use Rattle.std.proofs.Common.{◌∙◌, ap, arith, sym, Some}
use Rattle.rng_model.specs.names.NameViews.{class_of}
use Rattle.rng_names.specs.plain.Holding.{holds}
use Rattle.rng_deriv_ways.proofs.AttributeTakers.{all_attributes_told, class_at, no_class_at, one_more_attribute}
use Rattle.rng_deriv_ways.proofs.takers.Takers.of_attributes.Goals as goal

pub patterns-init : goal.patterns-init
patterns-init c = record { count = c.in_ok-takers.ensures; told = λ k q below has. absurd (omega (arith, below)) }

pub patterns-preserved : goal.patterns-preserved
patterns-preserved c =
    let t = c.args.grammar.now in
    let found = ap Some (sym c.in-Attribute.is) ∙ c.in-Some.ensures.value in record {
      count = c.add.ensures.count;
      told = one_more_attribute t c.args.keys.now c.patterns.takers c.add.new.self c.patterns.position c.add.ensures.stays
          (λ q has. c.add.ensures.told q (ap (λ class. holds (class_of class) q) c.deref.ensures ∙ class_at t q c.patterns.position _ _ found has))
          c.patterns.invariant.told;
    }

pub patterns-preserved-in_default-pattern : goal.patterns-preserved-in_default-pattern
patterns-preserved-in_default-pattern c =
    let t = c.args.grammar.now in record {
      count = c.patterns.invariant.count;
      told = one_more_attribute t c.args.keys.now c.patterns.takers c.patterns.takers c.patterns.position (λ k n told. told)
          (λ q has. absurd (no_class_at t q c.patterns.position _ c.in-Some.ensures.value c.in_default-pattern.not-Attribute has)) c.patterns.invariant.told;
    }

pub returns-in_default : goal.returns-in_default
returns-in_default c =
    all_attributes_told c.args.grammar.now c.args.keys.now c.patterns.takers c.patterns.position (sym c.in_default.ensures.value) c.patterns.invariant.told
