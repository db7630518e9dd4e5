use Rattle.std.proofs.Common.{◌≡◌, ◌<◌, ◌^◌, take}
use Rattle.std.specs.Str.Parse.{digits_value}
use Rattle.xsd_durations.proofs.fronts.limited_number.Given as goal

abbrev pub invariant-digits : goal.invariant-digits
invariant-digits l = record {
  value : l.number ≡ digits_value 10 (take l.digit-index l.digits);
  low : l.number < 10 ^ 18;
}
