-- The numbers of the code: bounds, facets, and the values of texts in integer types.
use Rattle.std.specs.Prelude.{Option, None, ℤ, option_copied}
use Rattle.std.specs.Option.{option_and_then}
use Rattle.rng_model.specs.datatypes.Texts.{Value}
use Rattle.rng_model.specs.datatypes.Facets.{Bounds}
use Rattle.rng_model.specs.datatypes.Datatypes.{Meaning}
use Rattle.rng_model.specs.xsd.Numbers.{written_integer}
use Rattle.rng_model.specs.xsd.Limits as written
use Rattle.rng_model.specs.xsd.Integers.{IntegerFacets, is_within_facets}
use Rattle.rng_model.specs.xsd.Types.{xsd_number, number_if}
use Rattle.xsd_types.specs.declared.range.WrittenRange.{WrittenRange}
use Rattle.xsd_types.specs.declared.range.Range.{Range}
use Rattle.xsd_types.specs.declared.limits.Limits.{Limits}
use Rattle.xsd_types.specs.declared.number_facets.NumberFacets.{NumberFacets}
use Rattle.xsd_types.specs.declared.integers.Integer.{Integer}

-- the range that is written so
abbrev pub written_range : WrittenRange → Bounds
written_range r = record { least = option_and_then written_integer (option_copied r.least); greatest = option_and_then written_integer (option_copied r.greatest) }

-- all integers: of which numbers are in the type, the limits on a number say nothing
abbrev pub any_range : Bounds
any_range = record { least = None; greatest = None }

abbrev pub range_of : Range → Bounds
range_of r = record { least = r.least; greatest = r.greatest }

abbrev pub limits_of : Limits → written.Limits ℤ
limits_of l = record {
  min_inclusive = l.min_inclusive;
  min_exclusive = l.min_exclusive;
  max_inclusive = l.max_inclusive;
  max_exclusive = l.max_exclusive;
}

abbrev pub facets_of : NumberFacets → IntegerFacets
facets_of f = record { limits = limits_of f.limits; total_digits = f.total_digits }

-- the value of a number in an integer type
abbrev pub number_by : Integer → ℤ → Option Value
number_by d = number_if (is_within_facets (range_of d.range) (facets_of d.facets))

-- the values of texts in an integer type
abbrev pub number_meaning : Integer → Meaning
number_meaning d = xsd_number (range_of d.range) (facets_of d.facets)
