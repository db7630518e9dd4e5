-- How many bytes of a document in PYX have to be kept after a front of its bytes: the line that has begun, the lines of
-- the tag that is being read, the name and the declarations of each element that is open after its tag, and the text
-- that is joined so far. (docs/use/LANGUAGE.md)
use Rattle.std.specs.Prelude.{◌≡◌, ◌⊎◌, ℕ, ◌+◌, List, [], ◌∷◌, ◌++◌, Option, Some, None, true, false, length, sum_by, All}
use Rattle.rng_model.specs.documents.Lines.{Line, lines, HasKind, EndsInTag}
use Rattle.rng_model.specs.documents.PyxLines.{QName}
use Rattle.rng_model.specs.documents.PyxNamespaces.{WrittenAttribute, AreParted, NamespaceDeclaration}
use Rattle.rng_model.specs.documents.PyxClauses.{Tag, AreOpenTags, SaysTag, EndsInText}

-- the number of bytes of a name as it is written
abbrev pub prefix_length : Option (List ℕ) → ℕ
prefix_length None = 0
prefix_length (Some p) = length p + 1

abbrev pub name_length : QName → ℕ
name_length name = prefix_length name.prefix + length name.local

-- the number of bytes of a declaration: of `xmlns` or `xmlns:p`, and of its value
abbrev pub declared_length : Option (List ℕ) → ℕ
declared_length None = 5
declared_length (Some p) = 6 + length p

abbrev pub declaration_length : NamespaceDeclaration → ℕ
declaration_length d = declared_length d.prefix + length d.uri

-- the number of bytes that are kept of open elements
pub data KeptOfTags : List Tag → ℕ → Type 0 where
  of_none : KeptOfTags [] 0
  of_tag : {tag : Tag} {outer : List Tag} {name : QName} {written others : List WrittenAttribute} {ds : List NamespaceDeclaration} {n m : ℕ} →
      SaysTag tag name written → AreParted written ds others → KeptOfTags outer m → n ≡ name_length name + sum_by declaration_length ds + m
      → KeptOfTags (tag ∷ outer) n

-- the bytes are these lines, each ended, followed by this beginning of a line
pub record IsCutAtLine (bytes : List ℕ) (whole : List Line) (begun : List ℕ) : Type 0 where
  pub ended : All (λ l. l.ended ≡ true) whole
  pub parts : (lines bytes ≡ whole × begun ≡ []) ⊎ (lines bytes ≡ whole ++ record { bytes = begun; ended = false } ∷ [])

-- the lines end with zero or more texts and instructions, whose joined text is this, and the line before these is
-- neither
pub record JoinsText (whole : List Line) (joined : List ℕ) : Type 0 where
  pub ends : EndsInText whole joined
  pub no_text : (l : Line) (rest : List Line) → ends.front ≡ rest ++ l ∷ [] → ¬ (HasKind 45 l)
  pub no_instruction : (l : Line) (rest : List Line) → ends.front ≡ rest ++ l ∷ [] → ¬ (HasKind 63 l)

-- this many bytes are kept after these
pub data KeptOf (bytes : List ℕ) : ℕ → Type 0 where
  in_tag : {whole : List Line} {begun : List ℕ} {outer : List Tag} {n m : ℕ} → IsCutAtLine bytes whole begun → (tag : EndsInTag whole)
      → AreOpenTags tag.front outer → KeptOfTags outer m
      → n ≡ length begun + length tag.tag.bytes + sum_by (λ l. length l.bytes) tag.others + m → KeptOf bytes n
  in_no_tag : {whole : List Line} {begun joined : List ℕ} {opened : List Tag} {n m : ℕ} → IsCutAtLine bytes whole begun → ¬ (EndsInTag whole)
      → AreOpenTags whole opened → KeptOfTags opened m → JoinsText whole joined → n ≡ length begun + m + length joined → KeptOf bytes n
