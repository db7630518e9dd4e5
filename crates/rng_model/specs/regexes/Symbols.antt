-- What an expression is written with: escapes, and characters that are written as themselves (XML Schema Part 2, Second
-- Edition, section F.1.1, productions 23 to 37). An escape is the same wherever it is.
use Rattle.std.specs.Prelude.{codes, ℕ, ◌≡◌, ◌≢◌, List, [], ◌∷◌, ◌++◌, map, Option, Some, ◌==◌}
use Rattle.std.specs.Map.{lookup}
use Rattle.ucd_category.specs.declared.GeneralCategory.TheVariants as one
use Rattle.ucd_category.specs.declared.GeneralCategoryGroup.TheVariants as group
use Rattle.rng_model.specs.regexes.Expressions.{Class, ranges, name_start, name_char, category, categories, either_class, complement}
use Rattle.rng_model.specs.regexes.Properties.{property_named}

pub data Symbol : Type 0 where
  -- a character that is written as itself
  char : ℕ → Symbol
  -- a character that is written by an escape
  escaped : ℕ → Symbol
  -- an escape of a class
  class : Class → Symbol

-- SingleCharEsc (production 24): line feed, carriage return, tab, and characters that are meant as they are
abbrev pub single_escapes : List (ℕ × Symbol)
single_escapes = (0x6E, escaped 0xA) ∷ (0x72, escaped 0xD) ∷ (0x74, escaped 0x9) ∷ map (λ c. (c, escaped c)) (codes "\\|.?*+(){}-[]^")

-- the white space of XML (`\s`)
abbrev pub white_space : Class
white_space = ranges ((0x9, 0xA) ∷ (0xD, 0xD) ∷ (0x20, 0x20) ∷ [])

-- all characters but punctuation, separators and others (`\w`)
abbrev pub word_char : Class
word_char = complement (either_class (either_class (categories group.Punctuation) (categories group.Separator)) (categories group.Other))

-- MultiCharEsc (production 37): `\s`, `\i`, `\c`, `\d` and `\w`, and the complement of each by the capital letter
abbrev pub multi_escapes : List (ℕ × Symbol)
multi_escapes =
    (0x73, class white_space) ∷ (0x53, class (complement white_space)) ∷
    (0x69, class name_start) ∷ (0x49, class (complement name_start)) ∷
    (0x63, class name_char) ∷ (0x43, class (complement name_char)) ∷
    (0x64, class (category one.DecimalNumber)) ∷ (0x44, class (complement (category one.DecimalNumber))) ∷
    (0x77, class word_char) ∷ (0x57, class (complement word_char)) ∷ []

-- the symbol that `\` and this character write
abbrev pub short_escape : ℕ → Option Symbol
short_escape c = lookup (λ n. n == c) (single_escapes ++ multi_escapes)

-- a symbol, and the characters that write it
pub data IsSymbol : List ℕ → Symbol → Type 0 where
  -- any character but `\`
  itself : {c : ℕ} → c ≢ 0x5C → IsSymbol (c ∷ []) (char c)
  short : {c : ℕ} {u : Symbol} → short_escape c ≡ Some u → IsSymbol (0x5C ∷ c ∷ []) u
  -- catEsc and complEsc (productions 25 and 26)
  has_property : {all : List ℕ} {k : Class} (name : List ℕ) → property_named name ≡ Some k → all ≡ codes "\\p{" ++ (name ++ codes "}")
      → IsSymbol all (class k)
  has_not : {all : List ℕ} {k : Class} (name : List ℕ) → property_named name ≡ Some k → all ≡ codes "\\P{" ++ (name ++ codes "}")
      → IsSymbol all (class (complement k))

-- the symbols of a text
pub data AreSymbols : List ℕ → List Symbol → Type 0 where
  no_symbols : AreSymbols [] []
  symbol_and : {s t all : List ℕ} {u : Symbol} {us : List Symbol} → IsSymbol s u → AreSymbols t us → all ≡ s ++ t → AreSymbols all (u ∷ us)
