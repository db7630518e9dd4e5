-- How matching reads a schema as it is written (RELAX NG Specification, section 6; a ref is what it refers to, 4.18 and
-- 4.19).
use Rattle.std.specs.Prelude.{◌≡◌, ℕ, List, Some, ◌∷◌}
use Rattle.rng_model.specs.names.Names.{NameClass, In}
use Rattle.rng_model.specs.simple.Tree.{Tree}
use Rattle.rng_model.specs.matching.Document.{Item}
use Rattle.rng_model.specs.matching.Matching.{Leaves, IsValid, HasText}
use Rattle.rng_model.specs.datatypes.Texts.{Texts, texts_of}
use Rattle.rng_model.specs.datatypes.Datatypes.{text_tests}
use Rattle.rng_model.specs.schema.Patterns.{Place, Position, Pattern, Point, an_element, pattern_tree}
use Rattle.rng_model.specs.schema.Schema.{Schema, Definition, main_start, body}
use Rattle.rng_model.specs.schema.Unfolding.{Leaf, to_definition, aim, Unfolds}

module _ (s : Schema) where
  -- a leaf that is looked up represents the combined body that is found, at the place of that body
  pub data IsFound : Place → Point → Place → Tree Point → Type 0 where
    is_found : {x z : Place} {l : Point} {d : Definition} {a : Tree Point} → aim s x l ≡ to_definition d → body s d ≡ Some a → z ≡ d.place
        → IsFound x l z a

  -- an element has its class, and its body, which is its only child, at the same place
  pub data IsWrittenElement : Place → Point → NameClass → Place → Tree Point → Type 0 where
    is_written : {x : Place} {n : Position} {c : NameClass} {p : Pattern} {a : Tree Point} → a ≡ pattern_tree (0 ∷ n) p
        → IsWrittenElement x (an_element n c p) c x a

  -- the except of a data has the text if its unfolded tree does (section 6.2.8)
  abbrev pub ExceptHas : Texts → Place → Tree Point → List ℕ → Type 0
  ExceptHas texts x a w = (t : Tree Leaf) × Unfolds s x a t × HasText texts t w

  abbrev pub schema_leaves : Texts → Leaves Place Point
  schema_leaves texts = record { StandsFor = IsFound; IsElement = IsWrittenElement; Excepts = ExceptHas texts }

  -- the document with this root is valid by the start of the main grammar, given what is known of texts (section 6.3)
  abbrev pub IsValidOver : Texts → Item → Type 0
  IsValidOver texts root = (a : Tree Point) × (body s (main_start s) ≡ Some a) × IsValid (schema_leaves texts) In texts s.main a root

  -- the same, with the tests of the known datatypes
  abbrev pub IsValidBySchema : Item → Type 0
  IsValidBySchema root = IsValidOver (texts_of text_tests) root
