-- What is written when a grammar is printed.
use Rattle.std.specs.Prelude.{ℕ, List, Option}
use Rattle.std.specs.Io.KnownBytes.{Appends}
use Rattle.rng_model.specs.simple.Grammar.{Grammar}
use Rattle.rng_model.specs.devices.Device.{AppendsBeginning}
use Rattle.rncv_model.specs.printed.PrintedText.{IsPrinted}

-- the printed text of the grammar is appended to the known bytes
pub record AppendsPrinted (g : Grammar) (old new : Option (List ℕ)) : Type 0 where
  pub text : List ℕ
  pub is_printed : IsPrinted g text
  pub output : Appends old new text

-- a beginning of the printed text of the grammar is appended to the known bytes
pub record AppendsPrintedBeginning (g : Grammar) (old new : Option (List ℕ)) : Type 0 where
  pub text : List ℕ
  pub is_printed : IsPrinted g text
  pub output : AppendsBeginning old new text
