use Rattle.std.proofs.Common.{◌∙◌, ap, sym, subst}
use Rattle.std.specs.Str.{chars}
use Rattle.xsd_regex.specs.plain.Positions.{ArePositionsOf}
use Rattle.rng_model.specs.regexes.Patterns.{pattern_of}
use Rattle.xsd_regex.specs.views.Readings.{IsReading}
use Rattle.xsd_positions.specs.declared.position.Positions.{Positions}
use Rattle.xsd_positions.specs.views.Positions.{positions_of}
use Rattle.xsd_patterns.proofs.Taken.{no_expression, too_large, is_taken, they_are}
use Rattle.xsd_patterns.proofs.pattern.Pattern.compile.Goals as goal

pub returns-in_default-clause-fault : goal.returns-in_default-clause-fault
returns-in_default-clause-fault c = no_expression c.args.text.now (subst (IsReading (chars c.args.text.now)) c.in_default.is c.in_ok-expression.ensures)

pub returns-in_default-2-clause-fault : goal.returns-in_default-2-clause-fault
returns-in_default-2-clause-fault c =
    let reading = subst (IsReading (chars c.args.text.now)) c.in-Some.is c.in_ok-expression.ensures in
    too_large c.args.text.now reading.0 reading.1 (λ p. ArePositionsOf reading.0 p.first (positions_of p)) c.in_ok-positions.field-0
    (c.in_ok-positions.ensures.exact reading.0 reading.2) c.in_default-2.is

pub invariant_of-result : goal.invariant_of-result
invariant_of-result c =
    let reading = subst (IsReading (chars c.args.text.now)) c.in-Some.is c.in_ok-expression.ensures in
    let Are : Positions → Type 0 = λ p. ArePositionsOf reading.0 p.first (positions_of p) in
    let made = c.in_ok-positions.ensures.exact reading.0 reading.2 in
    record {
      expression = reading.0;
      taken = ap pattern_of c.in_ok-expression-2.ensures.ok
          ∙ is_taken c.args.text.now reading.0 reading.1 Are c.in_ok-positions.field-0 made c.in-Some-2.positions c.in-Some-2.is;
      are = subst Are (sym c.in_ok-automaton.ensures)
          (they_are c.args.text.now reading.0 reading.1 Are c.in_ok-positions.field-0 made c.in-Some-2.positions c.in-Some-2.is);
    }

pub returns-clause-taken : goal.returns-clause-taken
returns-clause-taken c =
    let reading = subst (IsReading (chars c.args.text.now)) c.in-Some.is c.in_ok-expression.ensures in
    let Are : Positions → Type 0 = λ p. ArePositionsOf reading.0 p.first (positions_of p) in
    let made = c.in_ok-positions.ensures.exact reading.0 reading.2 in (
      c.in_ok-expression-2.ensures.ok,
      (
        reading.0,
        ap pattern_of c.in_ok-expression-2.ensures.ok
            ∙ is_taken c.args.text.now reading.0 reading.1 Are c.in_ok-positions.field-0 made c.in-Some-2.positions c.in-Some-2.is,
      ),
    )
