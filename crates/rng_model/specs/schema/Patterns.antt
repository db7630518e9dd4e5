-- Patterns as they are written, of all kinds (RELAX NG Specification, section 3; mentions of files followed, 4.6 and
-- 4.7). An element has its position, so that two equal elements are distinct.
use Rattle.std.specs.Prelude.{ℕ, ◌+◌, List, [], ◌∷◌}
use Rattle.rng_model.specs.names.Names.{NameClass}
use Rattle.rng_model.specs.simple.Tree.{Datatype, Connector, choice, group, interleave}
use Rattle.rng_model.specs.simple.Tree.{Tree, Trees}
use Rattle.rng_model.specs.simple.Tree as tree

-- the place of a grammar in a schema: the way to it from the main grammar, through nested grammars and mentions of
-- files, the innermost first
abbrev pub Place : Type 0
Place = List ℕ

-- the position of a pattern in the grammar at a place: the number of its component, and of the child at each level
-- below, the innermost first
abbrev pub Position : Type 0
Position = List ℕ

mutual
  pub data Pattern : Type 0 where
    not_allowed : Pattern
    empty : Pattern
    text : Pattern
    element : NameClass → Pattern → Pattern
    attribute : NameClass → Pattern → Pattern
    list : Pattern → Pattern
    data_of : Datatype → Pattern
    data_except : Datatype → Pattern → Pattern
    -- the library and the name of its datatype, which has no parameters, and its text
    value : List ℕ → List ℕ → List ℕ → Pattern
    mixed : Pattern → Pattern
    optional : Pattern → Pattern
    zero_or_more : Pattern → Pattern
    one_or_more : Pattern → Pattern
    joined : Connector → Pattern → Pattern → Patterns → Pattern
    -- a ref by name
    ref : List ℕ → Pattern
    parent_ref : List ℕ → Pattern
    -- a nested grammar, at its place
    grammar : Place → Pattern
    -- the pattern of another file; if the file is a grammar, it is a nested grammar
    external : Pattern → Pattern

  pub data Patterns : Type 0 where
    no_patterns : Patterns
    pattern_and : Pattern → Patterns → Patterns

abbrev pub pattern_list : List Pattern → Patterns
pattern_list [] = no_patterns
pattern_list (p ∷ ps) = pattern_and p (pattern_list ps)

-- A list of members with a connector. One member alone is itself (section 4.12). No file has an empty list; it changes
-- nothing beside other members.
abbrev pub joined_members : Connector → List Pattern → Pattern
joined_members choice [] = not_allowed
joined_members group [] = empty
joined_members interleave [] = empty
joined_members k (p ∷ []) = p
joined_members k (p ∷ (q ∷ ps)) = joined k p q (pattern_list ps)

-- the datatype of this name in this library, with no parameters
abbrev pub without_parameters : List ℕ → List ℕ → Datatype
without_parameters library name = record { library = library; name = name; parameters = [] }

-- where the tree of a pattern ends: an element, at its position, with its class and its body; or what is looked up
pub data Point : Type 0 where
  an_element : Position → NameClass → Pattern → Point
  a_ref : List ℕ → Point
  a_parent_ref : List ℕ → Point
  a_grammar : Place → Point

-- the tree of the pattern at a position, down to its elements and refs; an external is its file's pattern (section 4.6)
abbrev mutual
  pub pattern_tree : Position → Pattern → Tree Point
  pattern_tree x not_allowed = tree.not_allowed
  pattern_tree x empty = tree.empty
  pattern_tree x text = tree.text
  pattern_tree x (element c p) = tree.leaf (an_element x c p)
  pattern_tree x (attribute c p) = tree.attribute c (pattern_tree (0 ∷ x) p)
  pattern_tree x (list p) = tree.list (pattern_tree (0 ∷ x) p)
  pattern_tree x (data_of d) = tree.data_of d
  pattern_tree x (data_except d p) = tree.data_except d (pattern_tree (0 ∷ x) p)
  pattern_tree x (value library name v) = tree.value (without_parameters library name) v
  pattern_tree x (mixed p) = tree.mixed (pattern_tree (0 ∷ x) p)
  pattern_tree x (optional p) = tree.optional (pattern_tree (0 ∷ x) p)
  pattern_tree x (zero_or_more p) = tree.zero_or_more (pattern_tree (0 ∷ x) p)
  pattern_tree x (one_or_more p) = tree.one_or_more (pattern_tree (0 ∷ x) p)
  pattern_tree x (joined k p q ps) = tree.joined k (pattern_tree (0 ∷ x) p) (pattern_tree (1 ∷ x) q) (pattern_trees 2 x ps)
  pattern_tree x (ref y) = tree.leaf (a_ref y)
  pattern_tree x (parent_ref y) = tree.leaf (a_parent_ref y)
  pattern_tree x (grammar z) = tree.leaf (a_grammar z)
  pattern_tree x (external p) = pattern_tree (0 ∷ x) p

  -- the first of them is the child with this number
  pub pattern_trees : ℕ → Position → Patterns → Trees Point
  pattern_trees n x no_patterns = tree.no_trees
  pattern_trees n x (pattern_and p ps) = tree.tree_and (pattern_tree (n ∷ x) p) (pattern_trees (n + 1) x ps)

-- The pattern q is p, or is inside p, also in the bodies of elements and in the patterns of other files. The components
-- of a nested grammar belong to its own place, not to p.
mutual
  pub data IsWrittenIn (q : Pattern) : Pattern → Type 0 where
    itself : IsWrittenIn q q
    in_element : {c : NameClass} {p : Pattern} → IsWrittenIn q p → IsWrittenIn q (element c p)
    in_attribute : {c : NameClass} {p : Pattern} → IsWrittenIn q p → IsWrittenIn q (attribute c p)
    in_list : {p : Pattern} → IsWrittenIn q p → IsWrittenIn q (list p)
    in_except : {d : Datatype} {p : Pattern} → IsWrittenIn q p → IsWrittenIn q (data_except d p)
    in_mixed : {p : Pattern} → IsWrittenIn q p → IsWrittenIn q (mixed p)
    in_optional : {p : Pattern} → IsWrittenIn q p → IsWrittenIn q (optional p)
    in_zero_or_more : {p : Pattern} → IsWrittenIn q p → IsWrittenIn q (zero_or_more p)
    in_one_or_more : {p : Pattern} → IsWrittenIn q p → IsWrittenIn q (one_or_more p)
    in_first : {k : Connector} {p r : Pattern} {ps : Patterns} → IsWrittenIn q p → IsWrittenIn q (joined k p r ps)
    in_second : {k : Connector} {p r : Pattern} {ps : Patterns} → IsWrittenIn q r → IsWrittenIn q (joined k p r ps)
    in_another : {k : Connector} {p r : Pattern} {ps : Patterns} → IsWrittenAmong q ps → IsWrittenIn q (joined k p r ps)
    in_external : {p : Pattern} → IsWrittenIn q p → IsWrittenIn q (external p)

  pub data IsWrittenAmong (q : Pattern) : Patterns → Type 0 where
    in_this : {p : Pattern} {ps : Patterns} → IsWrittenIn q p → IsWrittenAmong q (pattern_and p ps)
    in_later : {p : Pattern} {ps : Patterns} → IsWrittenAmong q ps → IsWrittenAmong q (pattern_and p ps)
