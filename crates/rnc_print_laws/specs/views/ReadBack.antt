-- What it means for a text to be read as a file tree (RELAX NG Compact Syntax, "Lexical structure" and "Syntax").
use Rattle.std.specs.Prelude.{ℕ, List}
use Rattle.rnc_model.specs.declared.character.Character.{Character}
use Rattle.rnc_model.specs.characters.Decoding.{IsDecoded}
use Rattle.rnc_model.specs.tokens.Cut.{Token, HasTokens, lexemes}
use Rattle.rnc_model.specs.declarations.FileTree.{FileTree}
use Rattle.rnc_model.specs.loading.SchemaFile.{IsFileTree}

-- The bytes decode to characters, which are cut into tokens. The tokens are a sentence that nests within the limit and
-- breaks no rule about declarations, and it has this file tree. So no clause from S3 to S8 is broken.
pub record IsReadAs (bytes : List ℕ) (t : FileTree) : Type 0 where
  pub characters : List Character
  pub decoded : IsDecoded bytes characters
  pub tokens : List Token
  pub cut : HasTokens characters tokens
  pub tree : IsFileTree (lexemes tokens) t
