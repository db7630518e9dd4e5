-- Parts of lines, given by the parts of what they are written for.
use Rattle.std.specs.Prelude.{ℕ, List}
use Rattle.rng_model.specs.schema.Patterns.{without_parameters}
use Rattle.rncv_model.specs.printed.Words.{type_text}

-- the name of the datatype with this name in this library
abbrev pub named_type_text : List ℕ → List ℕ → List ℕ
named_type_text library name = type_text (without_parameters library name)
