-- Faults, and which fault is reported where reading stops.
use Rattle.std.specs.Prelude.{ℕ, ◌+◌, ◌-◌, Option, Some, None, Result, Ok, Err}
use Rattle.rnc_syntax.specs.declared.fault.ReadFault.{ReadFault}
use Rattle.rnc_syntax.specs.declared.fault.ReadFault.TheVariants as read_faults
use Rattle.rnc_syntax.specs.declared.fault.Stop.{Stop}
use Rattle.rnc_syntax.specs.declared.fault.Stop.TheVariants as stops
use Rattle.rnc_syntax.specs.declared.fault.SyntaxFault.{SyntaxFault}
use Rattle.rnc_syntax.specs.declared.fault.SyntaxFault.TheVariants as faults

-- what a fault says about the tokens: nothing if memory ran out
abbrev pub unless_memory : SyntaxFault → Option SyntaxFault
unless_memory faults.Memory = None
unless_memory faults.TooDeep = Some faults.TooDeep
unless_memory (faults.Unexpected number) = Some (faults.Unexpected number)

-- why reading stopped, unless memory ran out
abbrev pub stop_of : ReadFault → Option Stop
stop_of read_faults.Memory = None
stop_of (read_faults.Stop s) = Some s

-- the fault where the reading of `count` tokens stops
abbrev pub fault_at : ℕ → Stop → SyntaxFault
fault_at count stops.TooDeep = faults.TooDeep
fault_at count (stops.Unexpected left) = faults.Unexpected ((count - left) + 1)

-- the result for `count` tokens
abbrev pub told : {Y : Type 0} → ℕ → Result Y Stop → Result Y SyntaxFault
told count (Ok y) = Ok y
told count (Err stop) = Err (fault_at count stop)
