-- The exit status of the program.
use Rattle.std.specs.Prelude.{ℕ, Result, Ok, Err}
use Rattle.rncv_model.specs.declared.status.Status.{Status}
use Rattle.rncv_model.specs.declared.status.Status.TheVariants.{Good, Invalid, Malformed, Refused}
use Rattle.rncv_cli.specs.declared.fault.Fault.{Fault}
use Rattle.rncv_cli.specs.declared.fault.Fault.TheVariants.{Memory, Read, Write, File, Usage}

-- words that are no command line have another status than all other faults
abbrev pub fault_status : Fault → ℕ
fault_status Memory = 4
fault_status Read = 4
fault_status Write = 4
fault_status (File name) = 4
fault_status Usage = 5

-- the one of the status if a run succeeded, otherwise the one of the fault
abbrev pub exit_status_of : Result Status Fault → ℕ
exit_status_of (Ok Good) = 0
exit_status_of (Ok Invalid) = 1
exit_status_of (Ok Malformed) = 2
exit_status_of (Ok Refused) = 3
exit_status_of (Err fault) = fault_status fault
