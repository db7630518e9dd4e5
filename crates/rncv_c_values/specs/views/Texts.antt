-- A text that is written to a buffer of C: the simple form of a schema, the name of a refused file, or the names that a file
-- mentions.
use Rattle.std.specs.Prelude.{◌≡◌, ℕ, ◌<◌, List, ◌++◌, drop, length}
use Rattle.rng_model.specs.schema.Schema.{Schema}
use Rattle.rng_model.specs.simple.Table.{Table}
use Rattle.rng_model.specs.declared.type_set.TypeSet.{TypeSet}
use Rattle.rncv_model.specs.printed.SchemaText.{IsPrintedForm}
use Rattle.rncv_validator.specs.views.Validators.{JudgesWith}

-- the text is the printed simple form of each schema that the grammar is for
abbrev pub IsTextOf : Table → List ℕ → Type 0
IsTextOf grammar text = (types : TypeSet) (s : Schema) → JudgesWith types grammar s → IsPrintedForm s text

-- the buffer begins with such a text, and is unchanged after it; this is the length of the text
pub record IsWritten (IsText : List ℕ → Type 0) (count : ℕ) (old new : List ℕ) : Type 0 where
  pub text : List ℕ
  pub is : IsText text
  pub count_is : count ≡ length text
  pub written : new ≡ text ++ drop (length text) old

-- such a text does not fit the buffer; this is the length of the text
pub record IsTooLong (IsText : List ℕ → Type 0) (count : ℕ) (buffer : List ℕ) : Type 0 where
  pub text : List ℕ
  pub is : IsText text
  pub count_is : count ≡ length text
  pub too_long : length buffer < length text
