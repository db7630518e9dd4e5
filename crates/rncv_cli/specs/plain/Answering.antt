-- What is read of the files of a command line, and what the program writes.
use Rattle.std.specs.Prelude.{◌≡◌, ◌≢◌, ℕ, ◌≤◌, List, ◌∷◌, ◌++◌, length, map, take, Option, IfErr, IfSome, Result, Ok, string_bytes}
use Rattle.std.specs.Fn.{FnReturnsAt, Shared}
use Rattle.std.specs.IoError.{error_kind}
use Rattle.std.specs.List.{All}
use Rattle.std.specs.Io.KnownBytes.{Keeps}
use Rattle.std.specs.declared.io.Error.{Error}
use Rattle.std.specs.declared.io.ErrorKind.TheVariants.{OutOfMemory}
use Rattle.std.proofs.Common.{Bor, String, Vec, Global}
use Rattle.rnc_model.specs.loading.SchemaFile.{named_files}
use Rattle.rncv_model.specs.answers.Answer.{Answer}
use Rattle.rncv_model.specs.answers.Run.{IsAnswer, WritesBeginning, main_name}
use Rattle.rncv_model.specs.declared.command.Command.{Command}
use Rattle.rncv_cli.specs.plain.CommandLine.{Text}
use Rattle.rncv_cli.specs.declared.fault.Fault.{Fault}
use Rattle.rncv_cli.specs.declared.fault.Fault.TheVariants.{Memory, Read, Write, File, Usage}

-- at most this many bytes are read of a file: one more than a file of a schema may have
abbrev pub read_limit : ℕ
read_limit = 1048577

-- These bytes are read of what was opened: at most as many as the limit, and the first ones of the reader if it is
-- known which it has.
pub record IsReadOf {R E : Type 0} (remaining : R → Option (List ℕ)) (opened : Result R E) (bytes : List ℕ) : Type 0 where
  pub reader : R
  pub is_open : opened ≡ Ok reader
  pub is_front : IfSome (remaining reader) (λ all. bytes ≡ take read_limit all)
  pub within : length bytes ≤ read_limit

module _ {F R : Type 0} (opener : Shared F (Bor Text × Unit {0}) (Result R Error)) (open_file : F) where
  -- these bytes are read of what this function to open files may return for the name
  pub record IsReadBy (remaining : R → Option (List ℕ)) (name : Text) (bytes : List ℕ) : Type 0 where
    pub opened : Result R Error
    pub is_opened : FnReturnsAt opener open_file name opened
    pub is_read : IsReadOf remaining opened bytes

  -- Nothing is read of what this function to open files may return for the name: an error other than out of memory, or
  -- a reader. No contract says when a reader fails.
  pub record IsUnreadBy (name : Text) : Type 0 where
    pub opened : Result R Error
    pub is_opened : FnReturnsAt opener open_file name opened
    pub is_other : IfErr opened (λ error. error_kind error ≢ OutOfMemory)

-- A relation says which bytes may be read of the file with a name.
module _ (reads : Text → List ℕ → Type 0) where
  -- the files have these names, in order, each with the bytes that are read of it
  pub record AreRead (names : List (String Global)) (files : List (String Global × Vec ℕ Global)) : Type 0 where
    pub named : map (λ file. file.0) files ≡ names
    pub each : All (λ file. reads (string_bytes file.0) file.1.items) files

  -- the file with this name is not read, and all files before it are
  pub record IsFirstUnread (IsUnread : Text → Type 0) (names : List (String Global)) (name : String Global) : Type 0 where
    pub before : List (String Global)
    pub after : List (String Global)
    pub parts : names ≡ before ++ name ∷ after
    pub files : List (String Global × Vec ℕ Global)
    pub are_read : AreRead before files
    pub is_unread : IsUnread (string_bytes name)

  -- the answer of a run for the command and files with these names, the first of which is the main one, and for the
  -- document that a reader had left
  pub record IsAnswerOver (command : Command) (names : List (String Global)) (input_old input_new : Option (List ℕ)) (answer : Answer) : Type 0 where
    pub files : List (String Global × Vec ℕ Global)
    pub are_read : AreRead names files
    pub is : IsAnswer command (named_files files) (main_name files) input_old input_new answer

  -- the same, for the command and the files of a command line
  pub record IsAnswerTo (IsLine : Command → List Text → Type 0) (input_old input_new : Option (List ℕ)) (answer : Answer) : Type 0 where
    pub command : Command
    pub names : List (String Global)
    pub is_line : IsLine command (map string_bytes names)
    pub is : IsAnswerOver command names input_old input_new answer

-- what is written after a fault: a beginning of the answer after a failed write, otherwise nothing
abbrev pub LeavesWritten : (Answer → Type 0) → Fault → Option (List ℕ) → Option (List ℕ) → Type 0
LeavesWritten answers Memory old new = Keeps old new
LeavesWritten answers Read old new = Keeps old new
LeavesWritten answers Write old new = WritesBeginning answers old new
LeavesWritten answers (File name) old new = Keeps old new
LeavesWritten answers Usage old new = Keeps old new
