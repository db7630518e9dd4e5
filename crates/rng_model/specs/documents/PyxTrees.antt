-- Which lines are which document in PYX, and at which line each of its events comes.
-- (docs/use/LANGUAGE.md; RELAX NG Specification, section 2; XML 1.0, section 3.1; Namespaces in XML 1.0, section 6)
use Rattle.std.specs.Prelude.{◌≡◌, ℕ, suc, ◌+◌, ◌≤◌, List, [], ◌∷◌, ◌++◌, length, map, All}
use Rattle.rng_model.specs.names.Lists.{HasTwice}
use Rattle.rng_model.specs.names.Names.{Name}
use Rattle.rng_model.specs.matching.Document.{Attribute, Item, a_text, an_element, Items, no_items, item_and, Distinct}
use Rattle.rng_model.specs.documents.Lines.{lines, attribute_limit, open_limit, text_limit}
use Rattle.rng_model.specs.documents.PyxLines.{Said, QName, start, text, end, instruction, AreGoodLines}
use Rattle.rng_model.specs.documents.PyxNamespaces.{WrittenAttribute, AreWritten, AreParted, NamespaceDeclaration, IsForbidden, NamespaceScope, NamesElement}
use Rattle.rng_model.specs.documents.PyxNamespaces.{AreExpanded}

-- ---- trees with lines, and events

-- a tree with the line of each event: of a text, and of an element's start and end
mutual
  pub data Placed : Type 0 where
    text_at : ℕ → List ℕ → Placed
    element_at : ℕ → Name → List Attribute → PlacedItems → ℕ → Placed

  pub data PlacedItems : Type 0 where
    none_placed : PlacedItems
    placed_and : Placed → PlacedItems → PlacedItems

-- the tree without lines
abbrev mutual
  pub item_of : Placed → Item
  item_of (text_at n t) = a_text t
  item_of (element_at n name attrs kids m) = an_element name attrs (items_of kids)

  pub items_of : PlacedItems → Items
  items_of none_placed = no_items
  items_of (placed_and x xs) = item_and (item_of x) (items_of xs)

pub data EventKind : Type 0 where
  a_start : Name → List Attribute → EventKind
  a_string : List ℕ → EventKind
  an_end : EventKind

pub record Event : Type 0 where
  pub line : ℕ
  pub kind : EventKind

-- the events of a tree, in order
abbrev mutual
  pub events_of : Placed → List Event
  events_of (text_at n t) = record { line = n; kind = a_string t } ∷ []
  events_of (element_at n name attrs kids m) = record { line = n; kind = a_start name attrs } ∷ (events_in kids ++ record { line = m; kind = an_end } ∷ [])

  pub events_in : PlacedItems → List Event
  events_in none_placed = []
  events_in (placed_and x xs) = events_of x ++ events_in xs

-- ---- documents

-- zero or more texts and instructions, and the joined text
pub data IsRun : List Said → List ℕ → Type 0 where
  no_run : IsRun [] []
  text_and : {value joined all : List ℕ} {more : List Said} → IsRun more joined → all ≡ value ++ joined → IsRun (text value ∷ more) all
  instruction_and : {joined : List ℕ} {more : List Said} → IsRun more joined → IsRun (instruction ∷ more) joined

pub data AreInstructions : List Said → Type 0 where
  no_instructions : AreInstructions []
  another_instruction : {more : List Said} → AreInstructions more → AreInstructions (instruction ∷ more)

-- a joined text is a string, unless it is empty
abbrev pub string_before : ℕ → List ℕ → PlacedItems → PlacedItems
string_before n [] rest = rest
string_before n (c ∷ cs) rest = placed_and (text_at n (c ∷ cs)) rest

-- A tag: a start and its `A` lines. Its declarations hold in the whole tag, together with those of the tags around it.
pub record IsTag (outer : NamespaceScope) (name : QName) (attributes : List Said) (q : Name) (attrs : List Attribute) (scope : NamespaceScope) : Type 0 where
  pub written : List WrittenAttribute
  pub are_written : AreWritten attributes written
  pub within : length written ≤ attribute_limit
  pub once : ¬ (HasTwice (map (λ a. a.name) written))
  pub declarations : List NamespaceDeclaration
  pub others : List WrittenAttribute
  pub are_parted : AreParted written declarations others
  pub allowed : All (λ d. ¬ (IsForbidden d)) declarations
  pub scope_is : scope ≡ declarations ∷ outer
  pub is_named : NamesElement scope name q
  pub are_expanded : AreExpanded scope others attrs
  pub distinct : Distinct attrs

-- The first number is the number of elements that may be open here at the same time, the second the number of lines
-- before. The event of a start has the first line after its tag. The event of a string has the next line that is a
-- start or an end. The event of an end has its own line.
mutual
  pub data IsElement : ℕ → NamespaceScope → ℕ → List Said → Placed → Type 0 where
    element : {room n : ℕ} {outer scope : NamespaceScope} {all attributes content : List Said} {tree : Placed} {name : QName} {q : Name}
        {attrs : List Attribute} {kids : PlacedItems} →
        IsTag outer name attributes q attrs scope → IsContent room scope (n + 1 + length attributes) content kids →
        all ≡ start name ∷ (attributes ++ (content ++ end name ∷ [])) →
        tree ≡ element_at (n + 1 + length attributes + 1) q attrs kids (n + 1 + length attributes + length content + 1) →
        IsElement (suc room) outer n all tree

  pub data IsContent : ℕ → NamespaceScope → ℕ → List Said → PlacedItems → Type 0 where
    last_run : {room n : ℕ} {scope : NamespaceScope} {run : List Said} {kids : PlacedItems} {joined : List ℕ} → IsRun run joined → length joined ≤ text_limit →
        kids ≡ string_before (n + length run + 1) joined none_placed → IsContent room scope n run kids
    run_and_element : {room n : ℕ} {scope : NamespaceScope} {all run inner more : List Said} {kids rest : PlacedItems} {joined : List ℕ} {tree : Placed} →
        IsRun run joined → length joined ≤ text_limit → IsElement room scope (n + length run) inner tree →
        IsContent room scope (n + length run + length inner) more rest →
        all ≡ run ++ (inner ++ more) → kids ≡ string_before (n + length run + 1) joined (placed_and tree rest) → IsContent room scope n all kids

-- the bytes are the document of this tree: one root, and otherwise only instructions
pub record IsPyxDocument (bytes : List ℕ) (tree : Placed) : Type 0 where
  pub before : List Said
  pub root : List Said
  pub behind : List Said
  pub good : AreGoodLines (lines bytes) (before ++ (root ++ behind))
  pub instructions_before : AreInstructions before
  pub is_root : IsElement open_limit [] (length before) root tree
  pub instructions_behind : AreInstructions behind
