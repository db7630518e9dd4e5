-- What a file of a schema is by itself: it breaks a clause, or it has a tree (RELAX NG Compact Syntax, "Syntax"; sizes
-- and numbers of files: profile).
use Rattle.std.specs.Prelude.{◌≡◌, List, ◌≢◌, ◌⊎◌, ℕ, ◌<◌, length, map, string_bytes, String, Vec}
use Rattle.rnc_model.specs.declarations.AppliedDeclarations.{tree_of_file}
use Rattle.rnc_model.specs.declarations.DeclarationRules.{BreaksDeclarationRule}
use Rattle.rnc_model.specs.grammar.Syntax.{File}
use Rattle.rnc_model.specs.declarations.FileTree.{FileTree}
use Rattle.rnc_model.specs.grammar.Grammar.{IsFile}
use Rattle.rnc_model.specs.tokens.Cut.{Lexeme, lexemes, Token, HasTokens, BreaksTokensAt}
use Rattle.rnc_model.specs.grammar.Sentence.{NestsWithin, nesting_limit, BreaksGrammarAt, BreaksNesting}
use Rattle.rng_model.specs.names.Lists.{Among, HasTwo}
use Rattle.rnc_model.specs.declared.character.Character.{Character}
use Rattle.rnc_model.specs.characters.Decoding.{IsDecoded, BreaksUtf8At, BreaksCharactersAt}
use Rattle.std.specs.Global.{Global}

-- ---- the tree of a list of tokens

-- the tokens are a sentence that nests within the limit, and it breaks a rule about declarations (clause 8)
pub record BreaksDeclarations (ts : List Lexeme) : Type 0 where
  pub nesting : NestsWithin nesting_limit ts
  pub file : File
  pub sentence : IsFile ts file
  pub broken : BreaksDeclarationRule file

-- the tokens break no clause, and their file tree is the tree of their sentence with its declarations applied
pub record IsFileTree (ts : List Lexeme) (t : FileTree) : Type 0 where
  pub nesting : NestsWithin nesting_limit ts
  pub file : File
  pub sentence : IsFile ts file
  pub kept : ¬ (BreaksDeclarationRule file)
  pub tree : tree_of_file file ≡ t

-- ---- what is in a file

-- the bytes represent characters, and these are the tokens of the characters
pub record AreTokensOf (bytes : List ℕ) (ts : List Token) : Type 0 where
  pub characters : List Character
  pub decoded : IsDecoded bytes characters
  pub are : HasTokens characters ts

-- The bytes break this clause. A clause applies only if the bytes break none of those before it: the clause on
-- characters to bytes that are UTF-8, the one on tokens to bytes that represent characters, the ones on the grammar to
-- characters that are cut into tokens, the one on declarations to a sentence. Too many open brackets (7) come before
-- the grammar (6), so at most one of these two is broken.
pub data BreaksFileClause : List ℕ → ℕ → Type 0 where
  -- they are not UTF-8
  not_utf8 : {bytes : List ℕ} {k : ℕ} (offset : ℕ) → BreaksUtf8At bytes offset → k ≡ 3 → BreaksFileClause bytes k
  -- a character is one that XML does not have, or an escape is bad
  bad_characters : {bytes : List ℕ} {k : ℕ} (offset : ℕ) → BreaksCharactersAt bytes offset → k ≡ 4 → BreaksFileClause bytes k
  -- no blank, comment or token begins at some offset
  bad_tokens : {bytes : List ℕ} {k : ℕ} (characters : List Character) (offset : ℕ) → IsDecoded bytes characters → BreaksTokensAt characters offset → k ≡ 5 →
      BreaksFileClause bytes k
  -- the tokens are no sentence
  no_sentence : {bytes : List ℕ} {k : ℕ} (ts : List Token) (number : ℕ) → AreTokensOf bytes ts → BreaksGrammarAt (lexemes ts) number → k ≡ 6 →
      BreaksFileClause bytes k
  -- too many brackets are open
  too_deep : {bytes : List ℕ} {k : ℕ} (ts : List Token) → AreTokensOf bytes ts → BreaksNesting (lexemes ts) → k ≡ 7 → BreaksFileClause bytes k
  -- a declaration or a prefix breaks a rule
  bad_declarations : {bytes : List ℕ} {k : ℕ} (ts : List Token) → AreTokensOf bytes ts → BreaksDeclarations (lexemes ts) → k ≡ 8 → BreaksFileClause bytes k

-- the bytes break no clause, and this is their tree
pub record IsSchemaFile (bytes : List ℕ) (t : FileTree) : Type 0 where
  pub tokens : List Token
  pub are : AreTokensOf bytes tokens
  pub tree : IsFileTree (lexemes tokens) t

-- ---- the files that are given

-- how many bytes a file may have
abbrev pub size_limit : ℕ
size_limit = 1048576

-- how many files may be given
abbrev pub file_limit : ℕ
file_limit = 64

-- a file's name, as its bytes
abbrev pub FileName : Type 0
FileName = List ℕ

-- a file that is given
pub record NamedFile : Type 0 where
  pub name : FileName
  pub bytes : List ℕ

module _ (files : List NamedFile) where
  -- there is no file of this name
  abbrev pub IsMissing : FileName → Type 0
  IsMissing f = (file : NamedFile) → Among file files → file.name ≢ f

  -- there are two files of this name
  abbrev pub IsHandedInTwice : FileName → Type 0
  IsHandedInTwice f = HasTwo (λ a b. (a.name ≡ f) × (b.name ≡ f)) files

  -- there is one file of this name, with these bytes
  pub record IsHandedIn (f : FileName) (bytes : List ℕ) : Type 0 where
    pub there : Among (record { name = f; bytes = bytes }) files
    pub once : ¬ (IsHandedInTwice f)

  module _ (main : FileName) where
    -- the file is the main one and there are too many files, or it has too many bytes (S2)
    abbrev pub BreaksLimit : FileName → List ℕ → Type 0
    BreaksLimit f bytes = ((f ≡ main) × (file_limit < length files)) ⊎ (size_limit < length bytes)

    -- The file of this name breaks this clause first. The clauses on its bytes apply only if it does not break S2.
    pub data BreaksOwn (f : FileName) (k : ℕ) : Type 0 where
      missing : IsMissing f → k ≡ 1 → BreaksOwn f k
      handed_in_twice : IsHandedInTwice f → k ≡ 1 → BreaksOwn f k
      too_large : {bytes : List ℕ} → IsHandedIn f bytes → BreaksLimit f bytes → k ≡ 2 → BreaksOwn f k
      bad_content : {bytes : List ℕ} → IsHandedIn f bytes → ¬ (BreaksLimit f bytes) → BreaksFileClause bytes k → BreaksOwn f k

    -- the file of this name breaks no clause by itself, and has this tree
    pub record HasTree (f : FileName) (t : FileTree) : Type 0 where
      pub bytes : List ℕ
      pub handed_in : IsHandedIn f bytes
      pub small : ¬ (BreaksLimit f bytes)
      pub is : IsSchemaFile bytes t

abbrev pub named_files : List (String Global × Vec ℕ Global) → List NamedFile
named_files files = map (λ f. record { name = string_bytes f.0; bytes = f.1.items }) files
