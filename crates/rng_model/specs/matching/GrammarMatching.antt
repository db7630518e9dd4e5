-- How matching reads a grammar in the simple syntax (RELAX NG Specification, section 6), and a grammar of the code.
use Rattle.std.specs.Prelude.{⊤, ◌≡◌, ℕ, slice_get, Some}
use Rattle.rng_model.specs.names.Names.{NameClass, In}
use Rattle.rng_model.specs.simple.Tree.{Tree, Simple, as_tree}
use Rattle.rng_model.specs.simple.Grammar.{Grammar}
use Rattle.rng_model.specs.matching.Document.{Item}
use Rattle.rng_model.specs.matching.Matching.{Leaves, IsValid, HasText}
use Rattle.rng_model.specs.datatypes.Texts.{Texts, TextTests}
use Rattle.rng_model.specs.simple.Table.{Table, grammar_of}
use Rattle.rng_model.specs.xsd.TypeSets.{tests_in}

-- the grammar lists this class and this body for the element
pub data IsListed (g : Grammar) : ⊤ → ℕ → NameClass → ⊤ → Tree ℕ → Type 0 where
  is_listed : {x y : ⊤} {k : ℕ} {c : NameClass} {t : Tree ℕ} {s : Simple ℕ} → slice_get g.elements k ≡ Some (c, s) → t ≡ as_tree s
      → IsListed g x k c y t

-- no leaf represents another tree
pub data Nothing (X L : Type 0) : X → L → X → Tree L → Type 0 where

abbrev pub grammar_leaves : Grammar → Texts → Leaves ⊤ ℕ
grammar_leaves g texts = record { StandsFor = Nothing ⊤ ℕ; IsElement = IsListed g; Excepts = λ x a w. HasText texts a w }

-- the document with this root is valid by the grammar
abbrev pub IsValidBy : Grammar → Texts → Item → Type 0
IsValidBy g texts root = IsValid (grammar_leaves g texts) In texts tt (as_tree g.start) root

pub record Reading : Type 0 where
  pub grammar : Grammar
  pub tests : TextTests

-- a grammar as matching reads it
abbrev pub reading_of : Table → Reading
reading_of t = record { grammar = grammar_of t; tests = tests_in t.types }
