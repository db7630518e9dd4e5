-- The numbers that calls return to C.
use Rattle.std.specs.Prelude.{ℤ, pos}
use Rattle.rncv_c_values.specs.declared.status.Status.{Status}
use Rattle.rncv_c_values.specs.declared.status.Status.TheVariants as status

-- the numbers of the header
abbrev pub code_of : Status → ℤ
code_of status.Done = pos 0
code_of status.Refused = pos 1
code_of status.Malformed = pos 2
code_of status.Memory = pos 3
code_of status.Misuse = pos 4
code_of status.Space = pos 5
