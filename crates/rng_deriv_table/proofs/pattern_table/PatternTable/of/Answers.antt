use Rattle.std.proofs.Common.{◌≡◌, ◌+◌, ◌∙◌, ◌<◌, All, ap, arith, inr, length, slice_get, List, Some, subst, sym}
use Rattle.std.proofs.lemmas.List.{length_push}
use Rattle.std.proofs.lemmas.Option.{slice_get_within}
use Rattle.rng_model.proofs.Places.{ends_before}
use Rattle.rng_model.specs.simple.Table.{Table, tree_at, tree_over}
use Rattle.rng_model.specs.simple.TableRules.{AreChildrenBelow}
use Rattle.rng_deriv_table.specs.declared.pattern.PatternNumber.{PatternNumber}
use Rattle.rng_deriv_table.specs.plain.AskedFor.{HasNumber, IsAskedFor, as_part}
use Rattle.rng_deriv_table.specs.plain.Kept.{AreRestrictedAlike, IsTakenAs}
use Rattle.rng_deriv_table.specs.views.Taking.{AreTakenAt}
use Rattle.rng_deriv_table.proofs.KeptRestrictions.{one_kept, restricted_alike}
use Rattle.rng_deriv_table.proofs.Regrouped.{options_longer}
use Rattle.rng_deriv_table.proofs.Trees.{Longer-trans}
use Rattle.rng_deriv_table.proofs.Taking.{each_inside, one_taken, taken_where}
use Rattle.rng_deriv_table.proofs.pattern_table.PatternTable.of.Goals as goal

pub take_row-requires-clause-inside : goal.take_row-requires-clause-inside
take_row-requires-clause-inside c =
    subst (λ (ns : List PatternNumber). All (λ (n : PatternNumber). n.0 < length c.rows.table) ns) (sym c.as_slice.ensures.value)
    (each_inside (length c.rows.table) c.rows.numbers.items c.rows.invariant.taken.inside)

pub regrouped-requires-clause-options : goal.regrouped-requires-clause-options
regrouped-requires-clause-options c =
    options_longer c.rows.table c.take_row.new.self c.rows.options c.in_ok-number.ensures.longer c.rows.invariant.options

pub rows-smaller : goal.rows-smaller
rows-smaller c =
    let t = c.args.grammar.now in
    let numbers = c.rows.numbers.items in
    let at : c.len.result ≡ length numbers = omega (arith, c.len.ensures, c.rows.numbers.ok.0) in
    let found : slice_get t.patterns (length numbers) ≡ Some c.in-Some.row.now =
    subst (λ n. slice_get t.patterns n ≡ Some c.in-Some.row.now) at (sym c.in-Some.ensures.value) in
    let inside = slice_get_within t.patterns (length numbers) c.in-Some.row.now found in
    let long : length c.push.new.self.items ≡ length numbers + 1 = ap length c.in_ok-push.ensures.items ∙ length_push numbers c.in_ok-number-2.number in
    omega (arith, inside, long)

pub rows-preserved : goal.rows-preserved
rows-preserved c =
    let t = c.args.grammar.now in
    let us = c.in_ok-uses.uses.by_position.items in
    let numbers = c.rows.numbers.items in
    let row = c.in-Some.row.now in
    let first = c.in_ok-number.number in
    let number = c.in_ok-number-2.number in
    let mid = c.take_row.new.self in
    let new = c.regrouped.new.self in
    let at : c.len.result ≡ length numbers = omega (arith, c.len.ensures, c.rows.numbers.ok.0) in
    let found : slice_get t.patterns (length numbers) ≡ Some row = subst (λ n. slice_get t.patterns n ≡ Some row) at (sym c.in-Some.ensures.value) in
    let inside = slice_get_within t.patterns (length numbers) row found in
    let long : length c.push.new.self.items ≡ length numbers + 1 = ap length c.in_ok-push.ensures.items ∙ length_push numbers number in
    let below = subst (λ n. AreChildrenBelow n row) at c.in-Some.ensures.below in
    let is = subst (λ n. tree_at t.patterns (record { 0 = n }) ≡ tree_over (tree_at t.patterns) row) at c.in-Some.ensures.tree in
    let Taken : Table → List PatternNumber → Type 0 = λ u numbers. IsTakenAs u us numbers (length numbers) row c.rows.table mid first.0 in
    let taken = subst (λ numbers. Taken t numbers) c.as_slice.ensures.value
    (subst (λ u. Taken u c.as_slice.result.now) c.in_ok-uses.ensures.grammar c.in_ok-number.ensures.taken) in
    let longer = Longer-trans c.rows.table mid new c.in_ok-number.ensures.longer c.in_ok-number-2.ensures.longer in
    record {
      within = omega (arith, inside, long);
      taken = one_taken t us c.rows.table mid new numbers c.push.new.self.items first number row c.rows.invariant.taken longer
          c.in_ok-push.ensures.items c.in_ok-number-2.ensures.inside below found is
          (λ k part. c.in_ok-uses.ensures.own k (as_part (length numbers) row found part)) taken (c.in_ok-number-2.ensures.is t);
      kept = one_kept t us c.rows.table mid new numbers c.push.new.self.items first number row c.rows.invariant.taken c.rows.invariant.kept longer
          c.in_ok-push.ensures.items below found is (λ k part. c.in_ok-uses.ensures.own k (as_part (length numbers) row found part)) taken
          (c.in_ok-number-2.ensures.is t);
      options = c.in_ok-number-2.ensures.options;
    }

pub returns-clause-long : goal.returns-clause-long
returns-clause-long c =
    let numbers = c.rows.numbers.items in
    let at : c.len.result ≡ length numbers = omega (arith, c.len.ensures, c.rows.numbers.ok.0) in
    let within = c.rows.invariant.within in
    let past = ends_before c.args.grammar.now.patterns c.len.result (sym c.in_default.ensures.value) in
    omega (arith, at, within, past)

pub returns-clause-taken : goal.returns-clause-taken
returns-clause-taken c =
    let us = c.in_ok-uses.uses.by_position.items in
    subst (λ table. AreTakenAt (IsAskedFor c.args.grammar.now) c.args.grammar.now table c.rows.numbers.items) (sym c.end_grammar.ensures)
    (taken_where (HasNumber c.args.grammar.now us) (IsAskedFor c.args.grammar.now) c.args.grammar.now c.rows.table c.rows.numbers.items
    (λ k asked p found. inr (c.in_ok-uses.ensures.own k asked)) c.rows.invariant.taken)

pub returns-clause-restricted : goal.returns-clause-restricted
returns-clause-restricted c =
    let us = c.in_ok-uses.uses.by_position.items in
    subst (λ table. AreRestrictedAlike c.args.grammar.now table c.rows.numbers.items) (sym c.end_grammar.ensures)
    (restricted_alike (HasNumber c.args.grammar.now us) c.args.grammar.now c.rows.table c.rows.numbers.items
    (λ k asked p found. inr (c.in_ok-uses.ensures.own k asked)) c.rows.invariant.kept)
