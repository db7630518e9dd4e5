use Rattle.std.proofs.Common.{◌≡◌, true, length}
use Rattle.std.specs.Char.{is_ascii_digit}
use Rattle.std.specs.List.{list_all}
use Rattle.std.specs.Str.Parse.{digits_value, digits_value_after}
use Rattle.xsd_moments.proofs.fronts.number.Given as goal

abbrev pub invariant-digits : goal.invariant-digits
invariant-digits l = record {
  value : digits_value_after 10 l.value l.rest ≡ digits_value 10 l.digits;
  all : list_all is_ascii_digit l.rest ≡ true;
}

abbrev pub decreases-digits : goal.decreases-digits
decreases-digits l = length l.rest
