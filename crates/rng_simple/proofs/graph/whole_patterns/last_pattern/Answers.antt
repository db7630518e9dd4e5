use Rattle.std.proofs.Common.{rules, ◌≡◌, ◌∙◌, sym, subst, ℕ, ◌+◌, ◌-◌, ◌<◌, ◌≤◌, length, arith}
use Rattle.std.proofs.lemmas.Bool.{eqb-true}
use Rattle.std.proofs.lemmas.List.{nil_from_length}
use Rattle.rng_simple.specs.views.GraphView.{arity}
use Rattle.rng_simple.proofs.BuiltGraphs.WholePatterns.{Takes, all_last, last_found, last_row, none_last, row_before}
use Rattle.rng_simple.proofs.graph.whole_patterns.last_pattern.Goals as goal

pub returns-then-is_empty-clause-last : goal.returns-then-is_empty-clause-last
returns-then-is_empty-clause-last c =
    let none = nil_from_length c.args.rows.now (eqb-true _ 0 (sym c.is_empty.ensures ∙ c.if-is_empty.true)) in
    λ ts t e. absurd (none_last c.args.rows.now none ts t e)

pub rows-init : goal.rows-init
rows-init c =
    let takes = last_row c.args.rows.now _ c.index-rows-begin.result (search rules) c.index-rows-begin.is in
    record {
      within = search rules;
      takes = subst (Takes c.args.rows.now _) (sym c.arity-missing.ensures) takes;
    }

pub rows-preserved : goal.rows-preserved
rows-preserved c =
    let rows = c.args.rows.now in
    let begin = c.rows.begin in
    let row = c.index-rows-begin-in-rows.result in
    let more = c.saturating_add-missing.result in
    let within : begin - 1 < length rows = search rules in
    let whole : begin ≡ begin - 1 + 1 = omega (arith, c.if-begin-gt0.true) in
    let same : (n : ℕ) → n ≤ begin - 1 → n - more ≡ n - (c.rows.missing - 1 + arity row) =
    λ n small. omega (arith, small, c.saturating_add-missing.ensures, c.arity.ensures, c.rows.auto.begin-fits) in
    record {
      within = within;
      takes = row_before rows (begin - 1) row c.rows.missing more within c.index-rows-begin-in-rows.is c.rows-test.true same
          (subst (λ n. Takes rows n c.rows.missing) whole c.rows.invariant.takes);
    }

pub returns-else-begin-gt0-clause-last : goal.returns-else-begin-gt0-clause-last
returns-else-begin-gt0-clause-last c =
    all_last c.args.rows.now c.rows.begin c.rows.missing (omega (arith, c.if-begin-gt0.false)) c.rows.invariant.takes

pub returns-after-rows-clause-last : goal.returns-after-rows-clause-last
returns-after-rows-clause-last c =
    let none : c.rows.missing ≡ 0 = omega (arith, c.rows-test.false) in
    last_found c.args.rows.now c.rows.begin (omega (arith, c.rows.invariant.within)) (subst (Takes c.args.rows.now c.rows.begin) none c.rows.invariant.takes)
