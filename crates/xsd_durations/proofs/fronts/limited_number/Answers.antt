use Rattle.std.proofs.Common.{if◌then◌else◌, Some, None, ap, sym, arith}
use Rattle.std.specs.Str.Parse.{digits_value}
use Rattle.xsd_durations.proofs.Numerals.{one_more, past_limit}
use Rattle.xsd_durations.proofs.fronts.limited_number.Goals as goal

pub returns-then-number-ge-NUMBER_LIMIT : goal.returns-then-number-ge-NUMBER_LIMIT
returns-then-number-ge-NUMBER_LIMIT c =
    let ds = c.args.digits.now in
    let more = one_more ds _ _ c.requires c.digits-test.true c.digits.invariant.value in
    sym (ap (λ b. if b then Some (digits_value 10 ds) else None) (past_limit ds _ _ c.digits-test.true more c.if-number-ge-NUMBER_LIMIT.true))

pub digits-preserved : goal.digits-preserved
digits-preserved c = record {
  value = one_more c.args.digits.now _ _ c.requires c.digits-test.true c.digits.invariant.value;
  low = omega (arith, c.if-number-ge-NUMBER_LIMIT.false);
}
