-- The meaning of a line of a document in PYX, and which clause a line breaks by itself: P1 to P6. Texts are lists of bytes.
-- (docs/use/LANGUAGE.md; Namespaces in XML 1.0, sections 3 and 4; XML 1.0 Fifth Edition, section 2.2)
use Rattle.std.specs.Prelude.{◌≡◌, ◌≢◌, ℕ, ◌≤◌, true, false, List, [], ◌∷◌, ◌++◌, Option, Some, None, length, All}
use Rattle.std.specs.Str.{IsUtf8, chars}
use Rattle.rng_model.specs.names.Names.{is_ncname, is_xml_char}
use Rattle.rng_model.specs.documents.Lines.{Line, line_limit, HasKind}

-- ---- names and values

-- a name as it is written: a QName (Namespaces in XML 1.0, section 4)
pub record QName : Type 0 where
  pub prefix : Option (List ℕ)
  pub local : List ℕ

-- an NCName
pub record IsNcnameText (text : List ℕ) : Type 0 where
  pub utf8 : IsUtf8 text
  pub ncname : is_ncname (chars text) ≡ true

-- an NCName, or two of them joined by a colon
pub data IsName : List ℕ → QName → Type 0 where
  alone : {local : List ℕ} → IsNcnameText local → IsName local (record { prefix = None; local = local })
  prefixed : {text prefix local : List ℕ} → IsNcnameText prefix → IsNcnameText local → text ≡ prefix ++ 58 ∷ local
      → IsName text (record { prefix = Some prefix; local = local })

-- the meaning of a value or a text: `\n`, `\t` and `\\` mean a line feed, a tab and a backslash; every other byte means
-- itself
pub data StandsFor : List ℕ → List ℕ → Type 0 where
  at_end : StandsFor [] []
  itself : {c : ℕ} {cs value : List ℕ} → c ≢ 92 → StandsFor cs value → StandsFor (c ∷ cs) (c ∷ value)
  line_feed : {cs value : List ℕ} → StandsFor cs value → StandsFor (92 ∷ 110 ∷ cs) (10 ∷ value)
  tab : {cs value : List ℕ} → StandsFor cs value → StandsFor (92 ∷ 116 ∷ cs) (9 ∷ value)
  backslash : {cs value : List ℕ} → StandsFor cs value → StandsFor (92 ∷ 92 ∷ cs) (92 ∷ value)

-- ---- lines

-- the meaning of a line: its kind, its name as it is written, and the meaning of its value or its text
pub data Said : Type 0 where
  start : QName → Said
  attribute : QName → List ℕ → Said
  text : List ℕ → Said
  end : QName → Said
  instruction : Said

-- `(` and a name; `A`, a name, a space and a value; `-` and a text; `)` and a name; `?` and anything
pub data Says : List ℕ → Said → Type 0 where
  says_start : {written : List ℕ} {name : QName} → IsName written name → Says (40 ∷ written) (start name)
  says_attribute : {line written_name written value : List ℕ} {name : QName} → IsName written_name name → StandsFor written value
      → line ≡ 65 ∷ (written_name ++ 32 ∷ written) → Says line (attribute name value)
  says_text : {written value : List ℕ} → StandsFor written value → Says (45 ∷ written) (text value)
  says_end : {written : List ℕ} {name : QName} → IsName written name → Says (41 ∷ written) (end name)
  says_instruction : {bytes : List ℕ} → Says (63 ∷ bytes) instruction

-- a line that breaks nothing by itself, and its meaning
pub record IsGoodLine (l : Line) (said : Said) : Type 0 where
  pub ended : l.ended ≡ true
  pub within : length l.bytes ≤ line_limit
  pub utf8 : IsUtf8 l.bytes
  pub characters : All (λ c. is_xml_char c ≡ true) (chars l.bytes)
  pub says : Says l.bytes said

-- each line is good, and these are the meanings of the lines, in order
pub data AreGoodLines : List Line → List Said → Type 0 where
  no_lines : AreGoodLines [] []
  line_and : {l : Line} {ls : List Line} {said : Said} {more : List Said} → IsGoodLine l said → AreGoodLines ls more → AreGoodLines (l ∷ ls) (said ∷ more)

-- ---- clauses of one line

-- the line has no kind: it is empty, or begins with another byte than the five
pub record HasNoKind (l : Line) : Type 0 where
  pub no_start : ¬ (HasKind 40 l)
  pub no_attribute : ¬ (HasKind 65 l)
  pub no_text : ¬ (HasKind 45 l)
  pub no_end : ¬ (HasKind 41 l)
  pub no_instruction : ¬ (HasKind 63 l)

-- `before` is before the first space, and `after` is after it
pub record IsCutAtSpace (bytes before after : List ℕ) : Type 0 where
  pub parts : bytes ≡ before ++ 32 ∷ after
  pub first : All (λ c. c ≢ 32) before

abbrev pub StandsForNothing : List ℕ → Type 0
StandsForNothing written = (value : List ℕ) → ¬ (StandsFor written value)

abbrev pub IsNoName : List ℕ → Type 0
IsNoName written = (name : QName) → ¬ (IsName written name)

-- a line that is not too long breaks this clause by itself
pub data BreaksAlone (l : Line) : ℕ → Type 0 where
  -- P1: no line feed ends it
  unended : l.ended ≡ false → BreaksAlone l 1
  -- P2: it is not UTF-8
  no_utf8 : ¬ (IsUtf8 l.bytes) → BreaksAlone l 2
  -- P3: it has a character that XML does not have
  no_xml_char : IsUtf8 l.bytes → ¬ (All (λ c. is_xml_char c ≡ true) (chars l.bytes)) → BreaksAlone l 3
  -- P4: it has no kind
  no_kind : HasNoKind l → BreaksAlone l 4
  -- P5: a text or a value has another escape, or ends with a single backslash
  bad_text : {written : List ℕ} → l.bytes ≡ 45 ∷ written → StandsForNothing written → BreaksAlone l 5
  bad_value : {bytes before written : List ℕ} → l.bytes ≡ 65 ∷ bytes → IsCutAtSpace bytes before written → StandsForNothing written → BreaksAlone l 5
  -- P6: a name is not a name, or an attribute has no space
  bad_start_name : {written : List ℕ} → l.bytes ≡ 40 ∷ written → IsNoName written → BreaksAlone l 6
  bad_end_name : {written : List ℕ} → l.bytes ≡ 41 ∷ written → IsNoName written → BreaksAlone l 6
  bad_attribute_name : {bytes written value : List ℕ} → l.bytes ≡ 65 ∷ bytes → IsCutAtSpace bytes written value → IsNoName written → BreaksAlone l 6
  no_space : {bytes : List ℕ} → l.bytes ≡ 65 ∷ bytes → All (λ c. c ≢ 32) bytes → BreaksAlone l 6
