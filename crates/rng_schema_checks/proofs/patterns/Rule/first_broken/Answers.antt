use Rattle.std.proofs.Common.{◌≡◌, ◌∙◌, ◌-◌, ap, arith, length, sym}
use Rattle.rng_model.specs.views.SchemaView.{row_arity}
use Rattle.rng_model.proofs.SchemaRows.{no_rows}
use Rattle.rng_schema_checks.specs.plain.PatternTests.{has_written}
use Rattle.rng_schema_checks.specs.plain.RowTests.{first_met}
use Rattle.rng_schema_checks.specs.plain.RuleTests.{rule_test}
use Rattle.rng_schema_checks.proofs.BrokenRows.{next_count, next_first}
use Rattle.rng_schema_checks.proofs.patterns.Rule.first_broken.Goals as goal

pub loop-row-init : goal.loop-row-init
loop-row-init c = record {
  count = ap length (sym no_rows);
  first = ap (first_met (has_written (rule_test c.args.self.now))) (sym no_rows);
  bound = omega arith;
}

pub loop-row-preserved : goal.loop-row-preserved
loop-row-preserved c =
    let rows = c.args.rows.now in
    let row = c.row-item.result in
    let i = c.loop-row.row-index in
    let count = c.loop-row.count in
    let start = c.saturating_sub-start.result in
    let from : start ≡ count - row_arity row = c.saturating_sub-start.ensures ∙ ap (λ n. count - n) c.arity.ensures in
    record {
      count = next_count rows i row count start c.loop-row-test.true c.row-item.is c.loop-row.invariant.count from;
      first = c.in_ok-broken.ensures
          ∙ next_first (rule_test c.args.self.now) rows i row count start c.loop-row.broken c.loop-row-test.true c.row-item.is c.loop-row.invariant.count
          c.loop-row.invariant.first from;
      bound = omega (arith, from, c.loop-row.invariant.bound);
    }
