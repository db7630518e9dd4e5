-- What a walk over a schema as written meets, and in which order its definitions can be unfolded. Private contracts
-- cite it.
use Rattle.std.specs.Prelude.{◌≡◌, List, [], ◌∷◌, ◌++◌, Some, Contains}
use Rattle.rng_model.specs.simple.Tree.{Tree}
use Rattle.rng_model.specs.schema.Patterns.{Point}
use Rattle.rng_model.specs.schema.Schema.{Schema, Definition, main_start, body}
use Rattle.rng_model.specs.simple.Leaves.{LeafIn}
use Rattle.rng_model.specs.schema.Unfolding.{Leaf, content_of, Aim, to_element, to_definition, to_nothing, aim}

-- definitions and elements that are met from the start by going from a body to its points; a worklist collects them
pub data Met (s : Schema) : Aim → Type 0 where
  met_start : {w : Aim} → w ≡ to_definition (main_start s) → Met s w
  met_in_definition : {d : Definition} {a : Tree Point} {l : Point} {w : Aim} → Met s (to_definition d) → body s d ≡ Some a → LeafIn l a
      → w ≡ aim s d.place l → Met s w
  met_in_element : {m : Leaf} {l : Point} {w : Aim} → Met s (to_element m) → LeafIn l (content_of m) → w ≡ aim s m.place l → Met s w

-- an element, or one of these definitions
abbrev pub IsSettled : (Definition → Type 0) → Aim → Type 0
IsSettled P (to_element m) = Unit {0}
IsSettled P (to_definition d) = P d
IsSettled P to_nothing = ⊥

-- an order of definitions in which each mentions, outside elements, only earlier ones
pub data IsOrder (s : Schema) : List Definition → Type 0 where
  none_yet : IsOrder s []
  and_then : {ds es : List Definition} {a : Tree Point} (d : Definition) → IsOrder s ds → body s d ≡ Some a
      → ((l : Point) → LeafIn l a → IsSettled (Contains ds) (aim s d.place l)) → es ≡ ds ++ d ∷ [] → IsOrder s es

-- a definition leads to another by one mention or more
pub data Leads (s : Schema) : Definition → Definition → Type 0 where
  directly : {d e : Definition} {a : Tree Point} {l : Point} → body s d ≡ Some a → LeafIn l a → aim s d.place l ≡ to_definition e → Leads s d e
  further : {d e f : Definition} {a : Tree Point} {l : Point} → body s d ≡ Some a → LeafIn l a → aim s d.place l ≡ to_definition e → Leads s e f → Leads s d f
