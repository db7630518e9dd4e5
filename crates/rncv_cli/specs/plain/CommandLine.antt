-- The command lines of the program: a command, and the names of one file or more.
use Rattle.std.specs.Prelude.{◌≡◌, ◌<◌, ◌++◌, ℕ, List, [], ◌∷◌, Result, Ok, Err, codes, drop, length, map, string_bytes}
use Rattle.std.specs.Vec.Iter.{into_iter_items}
use Rattle.std.specs.declared.vec.IntoIter.{IntoIter}
use Rattle.std.proofs.Common.{String, Global}
use Rattle.rncv_model.specs.declared.command.Command.{Command}
use Rattle.rncv_model.specs.declared.command.Command.TheVariants.{Valid, Check, Simple}

-- a text, as its bytes
abbrev pub Text : Type 0
Text = List ℕ

-- the words of a program without the first, which is the program's name
abbrev pub words_behind_name : List (String Global) → List Text
words_behind_name words = map string_bytes (drop 1 words)

-- the word is an option: it begins with `-`, and is longer
abbrev pub IsOption : Text → Type 0
IsOption word = (next : ℕ) × (rest : Text) × (word ≡ codes "-" ++ next ∷ rest)

-- the arguments are the words without the first `--`; before it, or everywhere if there is none, no word is an option
pub data WithoutDashes : List Text → List Text → Type 0 where
  none : WithoutDashes [] []
  dashes : {word : Text} {rest : List Text} → word ≡ codes "--" → WithoutDashes (word ∷ rest) rest
  plain : {word : Text} {rest arguments : List Text} → (IsOption word → ⊥) → WithoutDashes rest arguments → WithoutDashes (word ∷ rest) (word ∷ arguments)

-- the name of a command
abbrev pub name_of : Command → Text
name_of Valid = codes "valid"
name_of Check = codes "check"
name_of Simple = codes "simple"

-- the words are a command line: the name of the command, followed by one or more files
pub record IsCommandLine (words : List Text) (command : Command) (files : List Text) : Type 0 where
  pub arguments : WithoutDashes words (name_of command ∷ files)
  pub some : 0 < length files

-- the words of the process are a command line, if they are given
abbrev pub IsGivenLine : {E : Type 0} → Result (IntoIter (String Global) Global) E → Command → List Text → Type 0
IsGivenLine (Ok words) command files = IsCommandLine (words_behind_name (into_iter_items words)) command files
IsGivenLine (Err error) command files = ⊥
