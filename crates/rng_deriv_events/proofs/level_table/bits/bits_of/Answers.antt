use Rattle.std.proofs.Common.{◌≡◌, ◌∙◌, ◌+◌, ◌-◌, arith, ap, drop, length, sym, false, slice_index_or}
use Rattle.std.proofs.lemmas.List.{drop_all, drop_more}
use Rattle.rng_deriv_events.specs.plain.Bits.{bits_of, with_bit}
use Rattle.rng_deriv_events.proofs.level_table.bits.bits_of.Goals as goal

pub tests-init : goal.tests-init
tests-init c =
    let tests = c.args.tests.now in
    record { within = omega arith; first = sym (ap bits_of (drop_all (length tests) tests (omega arith))) }

pub tests-preserved : goal.tests-preserved
tests-preserved c =
    let tests = c.args.tests.now in
    let before = c.tests.invariant in
    let i = c.tests.left - 1 in
    let positive = c.tests-test.true in
    let within = before.within in
    let at : c.tests.left ≡ i + 1 = omega (arith, positive) in
    record {
      within = omega (arith, within);
      first = c.in_ok-bits.ensures ∙ ap (λ above. with_bit above (slice_index_or tests i false)) (before.first ∙ ap (λ k. bits_of (drop k tests)) at)
          ∙ sym (ap bits_of (drop_more tests i false (omega (arith, positive, within))));
    }
