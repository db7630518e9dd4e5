-- Why a start or an end leaves nothing, in numbers.
use Rattle.std.specs.Prelude.{ℤ, pos, Bool, Option, Some, None, if◌then◌else◌}
use Rattle.rng_reasons.specs.declared.reasons.Reason.{Reason}
use Rattle.rng_reasons.specs.declared.reasons.Reason.TheVariants as reasons
use Rattle.rng_reasons.specs.declared.tag_faults.TagFault.{TagFault}
use Rattle.rng_reasons.specs.declared.tag_faults.TagFault.TheVariants as faults
use Rattle.rncv_c_values.specs.declared.reasons.ReasonNumbers.{ReasonNumbers}

abbrev pub of_kind : ℤ → ReasonNumbers
of_kind kind = record { kind = kind; attribute = 0 }

abbrev pub tag_numbers : TagFault → ReasonNumbers
tag_numbers faults.NoElement = of_kind (pos 1)
tag_numbers (faults.Attribute index is_name_taken) = record { kind = if is_name_taken then pos 3 else pos 2; attribute = index }
tag_numbers faults.Missing = of_kind (pos 4)

abbrev pub reason_numbers : Option Reason → ReasonNumbers
reason_numbers None = of_kind (pos 0)
reason_numbers (Some (reasons.Tag fault)) = tag_numbers fault
reason_numbers (Some reasons.Text) = of_kind (pos 5)
reason_numbers (Some reasons.TextValue) = of_kind (pos 6)
reason_numbers (Some reasons.Incomplete) = of_kind (pos 7)
reason_numbers (Some reasons.NothingMatches) = of_kind (pos 8)
