-- The printed simple form of a schema.
use Rattle.std.specs.Prelude.{ℕ, List}
use Rattle.rng_model.specs.schema.Schema.{Schema}
use Rattle.rng_model.specs.simple.SchemaForm.{IsOnlySimpleGrammarOf, IsSimpleGrammarOf}
use Rattle.rng_model.specs.simple.Grammar.{Grammar}
use Rattle.rncv_model.specs.printed.PrintedText.{IsPrinted}

-- the text is the text of a grammar that is a simple form of the schema, and the only one up to the numbers of its
-- elements
pub record IsPrintedForm (s : Schema) (text : List ℕ) : Type 0 where
  pub grammar : Grammar
  pub is_form : IsSimpleGrammarOf s grammar
  pub only : IsOnlySimpleGrammarOf s grammar
  pub is_printed : IsPrinted grammar text
