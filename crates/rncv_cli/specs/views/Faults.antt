-- Why the program ends without an answer.
use Rattle.std.specs.Prelude.{⊤, ℕ, List, map, string_bytes}
use Rattle.std.proofs.Common.{String, Global}
use Rattle.rncv_model.specs.declared.run_fault.RunFault.{RunFault}
use Rattle.rncv_model.specs.declared.run_fault.RunFault.TheVariants as causes
use Rattle.rncv_cli.specs.declared.fault.Fault.{Fault}
use Rattle.rncv_cli.specs.declared.fault.Fault.TheVariants.{Memory, Read, Write, File, Usage}
use Rattle.rncv_model.specs.declared.command.Command.{Command}
use Rattle.rncv_cli.specs.plain.Answering.{IsFirstUnread}
use Rattle.rncv_cli.specs.plain.CommandLine.{Text}

-- the fault of the program if a run failed
abbrev pub fault_of_run : RunFault → Fault
fault_of_run causes.Memory = Memory
fault_of_run causes.Read = Read
fault_of_run causes.Write = Write

-- the faults of reading the words
abbrev pub IsMemoryOrUsage : Fault → Type 0
IsMemoryOrUsage Memory = ⊤
IsMemoryOrUsage Usage = ⊤
IsMemoryOrUsage Read = ⊥
IsMemoryOrUsage Write = ⊥
IsMemoryOrUsage (File name) = ⊥

-- the faults of a run
abbrev pub IsFaultOfRun : Fault → Type 0
IsFaultOfRun Memory = ⊤
IsFaultOfRun Read = ⊤
IsFaultOfRun Write = ⊤
IsFaultOfRun (File name) = ⊥
IsFaultOfRun Usage = ⊥

module _ (reads : Text → List ℕ → Type 0) (IsUnread : Text → Type 0) where
  -- the faults of reading the files with these names
  abbrev pub IsUnreadable : List (String Global) → Fault → Type 0
  IsUnreadable names Memory = ⊤
  IsUnreadable names (File name) = IsFirstUnread reads IsUnread names name
  IsUnreadable names Read = ⊥
  IsUnreadable names Write = ⊥
  IsUnreadable names Usage = ⊥

  module _ (IsLine : Command → List Text → Type 0) where
    -- the first file of a command line that is not read
    pub record IsFirstUnreadOf (name : String Global) : Type 0 where
      pub command : Command
      pub names : List (String Global)
      pub is_line : IsLine command (map string_bytes names)
      pub is_first : IsFirstUnread reads IsUnread names name

    -- the faults of the program, if these are the command lines
    abbrev pub IsFaultTo : Fault → Type 0
    IsFaultTo Memory = ⊤
    IsFaultTo Read = ⊤
    IsFaultTo Write = ⊤
    IsFaultTo (File name) = IsFirstUnreadOf name
    IsFaultTo Usage = (command : Command) (files : List Text) → IsLine command files → ⊥
