-- Which clause of a document in PYX is broken at which line, and which fault is the least. First bytes alone decide
-- which tags are open, and in which tag a line is. So no clause depends on another clause being kept.
-- (docs/use/LANGUAGE.md; Namespaces in XML 1.0, sections 3 to 6; XML 1.0, section 3.1)
use Rattle.std.specs.Prelude.{◌≡◌, ◌≢◌, ℕ, ◌+◌, ◌<◌, ◌≤◌, List, [], ◌∷◌, ◌++◌, Some, length, map, All}
use Rattle.rng_model.specs.names.Lists.{Among, HasTwice}
use Rattle.rng_model.specs.matching.Document.{Attribute, Distinct}
use Rattle.rng_model.specs.documents.Lines.{Line, line_limit, attribute_limit, open_limit, text_limit, Fault, HasKind, IsBalanced, IsBefore, EndsInTag}
use Rattle.rng_model.specs.documents.PyxLines.{Said, QName, start, IsGoodLine, AreGoodLines, BreaksAlone}
use Rattle.rng_model.specs.documents.PyxNamespaces.{WrittenAttribute, AreWritten, AreParted, NamespaceDeclaration, IsForbidden, NamespaceScope, HasNoNamespace}
use Rattle.rng_model.specs.documents.PyxNamespaces.{AreExpanded}
use Rattle.rng_model.specs.documents.PyxTrees.{IsRun}

-- ---- open tags, by first bytes

-- there are no lines, or the first line is of another kind
abbrev pub BeginsOtherwise : ℕ → List Line → Type 0
BeginsOtherwise k ls = (l : Line) (rest : List Line) → ls ≡ l ∷ rest → ¬ (HasKind k l)

-- a tag: its `(` line, and the `A` lines directly after it
pub record Tag : Type 0 where
  pub first : Line
  pub attributes : List Line

-- these tags are open after these lines, the innermost first
pub data AreOpenTags : List Line → List Tag → Type 0 where
  none_open : {ls : List Line} → IsBalanced ls → AreOpenTags ls []
  one_open : {all front attributes rest : List Line} {outer : List Tag} (l : Line) → AreOpenTags front outer → HasKind 40 l → All (HasKind 65) attributes
      → BeginsOtherwise 65 rest → IsBalanced rest → all ≡ front ++ l ∷ (attributes ++ rest)
      → AreOpenTags all (record { first = l; attributes = attributes } ∷ outer)

-- ---- the lines of tags

-- the tag's lines break nothing by themselves, and this is their meaning
pub record SaysTag (tag : Tag) (name : QName) (written : List WrittenAttribute) : Type 0 where
  pub first : IsGoodLine tag.first (start name)
  pub said : List Said
  pub attributes : AreGoodLines tag.attributes said
  pub are_written : AreWritten said written

-- the declarations of the open tags
pub data HasScope : List Tag → NamespaceScope → Type 0 where
  no_tags : HasScope [] []
  one_tag : {tag : Tag} {outer : List Tag} {scope : NamespaceScope} {name : QName} {written others : List WrittenAttribute} {ds : List NamespaceDeclaration} →
      SaysTag tag name written → AreParted written ds others → HasScope outer scope → HasScope (tag ∷ outer) (ds ∷ scope)

-- P11, for such a tag inside this scope: a declaration is not allowed, or a prefix is not declared
pub data BreaksTagNamespaces (outer : NamespaceScope) (name : QName) (written : List WrittenAttribute) : Type 0 where
  forbidden : {ds : List NamespaceDeclaration} {others : List WrittenAttribute} {d : NamespaceDeclaration} → AreParted written ds others → Among d ds → IsForbidden d
      → BreaksTagNamespaces outer name written
  element_prefix : {ds : List NamespaceDeclaration} {others : List WrittenAttribute} {p : List ℕ} → AreParted written ds others → name.prefix ≡ Some p
      → HasNoNamespace (ds ∷ outer) p → BreaksTagNamespaces outer name written
  attribute_prefix : {ds : List NamespaceDeclaration} {others : List WrittenAttribute} {a : WrittenAttribute} {p : List ℕ} → AreParted written ds others
      → Among a others → a.name.prefix ≡ Some p → HasNoNamespace (ds ∷ outer) p → BreaksTagNamespaces outer name written

-- P12, for such a tag: two `A` lines have the same name, or two attributes have the same expanded name
pub data RepeatsName (outer : NamespaceScope) (written : List WrittenAttribute) : Type 0 where
  written_twice : HasTwice (map (λ a. a.name) written) → RepeatsName outer written
  expanded_twice : {ds : List NamespaceDeclaration} {others : List WrittenAttribute} {attrs : List Attribute} → AreParted written ds others
      → AreExpanded (ds ∷ outer) others attrs → ¬ (Distinct attrs) → RepeatsName outer written

-- these lines end with a tag with this meaning, inside tags with these declarations
pub record EndsWithTag (ls : List Line) (outer : NamespaceScope) (name : QName) (written : List WrittenAttribute) : Type 0 where
  pub ends : EndsInTag ls
  pub says : SaysTag (record { first = ends.tag; attributes = ends.others }) name written
  pub around : List Tag
  pub are_open : AreOpenTags ends.front around
  pub scope : HasScope around outer

-- these lines end with zero or more texts and instructions, whose joined text is this
pub record EndsInText (ls : List Line) (joined : List ℕ) : Type 0 where
  pub front : List Line
  pub run : List Line
  pub parts : ls ≡ front ++ run
  pub said : List Said
  pub good : AreGoodLines run said
  pub is_run : IsRun said joined

-- ---- clauses

-- a line that is not too long breaks the clause, between these lines
pub data BreaksBetween (before : List Line) (l : Line) (behind : List Line) : ℕ → Type 0 where
  -- P1 to P6: by itself
  alone : {clause : ℕ} → BreaksAlone l clause → BreaksBetween before l behind clause
  -- P7: an attribute that is in no tag
  no_tag : HasKind 65 l → ¬ (EndsInTag before) → BreaksBetween before l behind 7
  -- P8: an end tag where no element is open, or with a name that is not the name of the open element
  none_to_end : HasKind 41 l → AreOpenTags before [] → BreaksBetween before l behind 8
  other_name : {name opened_name : List ℕ} {tag : Tag} {outer : List Tag} → l.bytes ≡ 41 ∷ name → AreOpenTags before (tag ∷ outer)
      → tag.first.bytes ≡ 40 ∷ opened_name → name ≢ opened_name → BreaksBetween before l behind 8
  -- P9: a text outside the root, or a start tag after it
  text_outside : HasKind 45 l → AreOpenTags before [] → BreaksBetween before l behind 9
  second_root : (front rest : List Line) (root : Line) → HasKind 40 l → AreOpenTags before [] → before ≡ front ++ root ∷ rest → HasKind 40 root
      → BreaksBetween before l behind 9
  -- P10: one attribute too many in a tag, one open element too many, or a joined text that is too long
  attributes : HasKind 65 l → (tag : EndsInTag before) → attribute_limit ≤ length tag.others → BreaksBetween before l behind 10
  elements : {opened : List Tag} → HasKind 40 l → AreOpenTags before opened → open_limit ≤ length opened → BreaksBetween before l behind 10
  joined_text : {joined : List ℕ} → EndsInText (before ++ l ∷ []) joined → text_limit < length joined → BreaksBetween before l behind 10
  -- P11 and P12: by the tag that ends here
  namespaces : {outer : NamespaceScope} {name : QName} {written : List WrittenAttribute} → EndsWithTag (before ++ l ∷ []) outer name written
      → BeginsOtherwise 65 behind → BreaksTagNamespaces outer name written → BreaksBetween before l behind 11
  repeated_name : {outer : NamespaceScope} {name : QName} {written : List WrittenAttribute} → EndsWithTag (before ++ l ∷ []) outer name written
      → BeginsOtherwise 65 behind → RepeatsName outer written → BreaksBetween before l behind 12

-- the clause is broken by this line, between these lines; a line that is too long, ended or not, breaks only P10
pub data BreaksHere (before : List Line) (l : Line) (behind : List Line) : ℕ → Type 0 where
  too_long : line_limit < length l.bytes → BreaksHere before l behind 10
  within : {clause : ℕ} → length l.bytes ≤ line_limit → BreaksBetween before l behind clause → BreaksHere before l behind clause

-- the clause is broken at this line of all lines
pub data Breaks (all : List Line) : Fault → Type 0 where
  at_line : {before behind : List Line} {clause n : ℕ} (l : Line) → all ≡ before ++ l ∷ behind → n ≡ length before + 1 → BreaksHere before l behind clause
      → Breaks all (record { clause = clause; line = n })
  -- P13: an element is open at the end, or there is no root. The line is the last line, or 0 if there is none.
  unfinished : {tag : Tag} {outer : List Tag} → AreOpenTags all (tag ∷ outer) → Breaks all (record { clause = 13; line = length all })
  rootless : All (λ l. ¬ (HasKind 40 l)) all → Breaks all (record { clause = 13; line = length all })

-- the broken clause of the least line, and of the least number there
pub record IsFirstFault (all : List Line) (f : Fault) : Type 0 where
  pub broken : Breaks all f
  pub least : (g : Fault) → Breaks all g → IsBefore f g
