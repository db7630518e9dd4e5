-- The ordered types of the code, and the values of texts in them.
use Rattle.std.specs.Prelude.{ℕ, List, Bool, Option}
use Rattle.std.specs.Option.{option_and_then}
use Rattle.rng_model.specs.datatypes.Texts.{Value}
use Rattle.rng_model.specs.datatypes.Datatypes.{Meaning}
use Rattle.rng_model.specs.xsd.Limits as written
use Rattle.rng_model.specs.xsd.Limits.{is_within_limits}
use Rattle.rng_model.specs.xsd.primitives.Types.{value_if}
use Rattle.xsd_limits.specs.views.Limits.{limits_of, ordered}
use Rattle.rng_model.specs.xsd.primitives.Decimals as decimals
use Rattle.rng_model.specs.xsd.primitives.Decimals.{is_within_decimal_facets, DecimalFacets}
use Rattle.rng_model.specs.xsd.primitives.Durations.{durations}
use Rattle.rng_model.specs.xsd.primitives.Moments.{times}
use Rattle.rng_model.specs.xsd.primitives.Floats.{floats}
use Rattle.rng_model.specs.xsd.primitives.Values.{decimal, float, moment, time, duration}
use Rattle.std.specs.Float.{binary64}
use Rattle.xsd_floats.specs.views.Values.{format_of}
use Rattle.xsd_moments.specs.Views.{ordered_of}
use Rattle.xsd_moments.specs.declared.kind.MomentKind.TheVariants as moments
use Rattle.xsd_types.specs.declared.floats.FloatBound.{FloatBound}
use Rattle.xsd_types.specs.declared.floats.Floats.{Floats}
use Rattle.xsd_types.specs.declared.durations.DurationBound.{DurationBound}
use Rattle.xsd_types.specs.declared.durations.Durations.{Durations}
use Rattle.xsd_types.specs.declared.times.TimeBound.{TimeBound}
use Rattle.xsd_types.specs.declared.times.Times.{Times}
use Rattle.xsd_types.specs.declared.moments.MomentBound.{MomentBound}
use Rattle.xsd_types.specs.declared.moments.Moments.{Moments}
use Rattle.xsd_types.specs.declared.decimals.DigitLimits.{DigitLimits}
use Rattle.xsd_types.specs.declared.decimals.BoundedDecimal.{BoundedDecimal}
use Rattle.xsd_types.specs.declared.limited.Limited.{Limited}

-- the values of texts in an ordered type with these bounds
abbrev pub within : {A : Type 0} → (A → Value) → written.Ordered A → written.Limits A → Meaning
within value t l s = option_and_then (value_if value (is_within_limits t l)) (t.value_of s)

abbrev pub limited_by : {B T : Type 0} → (B → Value) → (B → B → Bool) → (B → B → Bool) → (T → List ℕ → Option B) → Limited B T → Meaning
limited_by value at_most less value_of d = within value (ordered at_most less (value_of d.datatype)) (limits_of d.limits)

-- ---- decimals

abbrev pub digits_of : DigitLimits → decimals.Digits
digits_of d = record { total = d.total; fraction = d.fraction }

abbrev pub decimal_facets_of : BoundedDecimal → DecimalFacets
decimal_facets_of d = record { limits = limits_of d.limits; digits = digits_of d.digits }

abbrev pub decimal_by : BoundedDecimal → Meaning
decimal_by d s = option_and_then (value_if decimal (is_within_decimal_facets (decimal_facets_of d))) (decimals.decimals.value_of s)

-- ---- floats, durations, times and moments: the order is the same for all types of a group

abbrev pub float_by : Limited FloatBound Floats → Meaning
float_by = limited_by float (floats binary64).is_at_most (floats binary64).is_less (λ t. (floats (format_of t.kind)).value_of)

abbrev pub duration_by : Limited DurationBound Durations → Meaning
duration_by = limited_by duration durations.is_at_most durations.is_less (λ t. durations.value_of)

abbrev pub time_by : Limited TimeBound Times → Meaning
time_by = limited_by time times.is_at_most times.is_less (λ t. times.value_of)

abbrev pub moment_by : Limited MomentBound Moments → Meaning
moment_by = limited_by moment (ordered_of moments.Date).is_at_most (ordered_of moments.Date).is_less (λ t. (ordered_of t.kind).value_of)
