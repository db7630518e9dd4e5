-- The pattern and the components that the code builds from the tree of a file, with mentions followed. A mention takes
-- one of the levels. If no level is left, or a file does not exist or is no grammar, the mention is left out; this does
-- not happen in files that keep their rules. proofs/Patterns/PlainReading.antt compares the result with `Reads` and `Gathers`.
use Rattle.std.specs.Prelude.{◌≡◌, ℕ, zero, suc, ◌+◌, List, [], ◌∷◌, ◌++◌, filter, not, Option, Some, None}
use Rattle.rng_model.specs.schema.Patterns.{Pattern, joined_members}
use Rattle.rng_model.specs.schema.Patterns as pattern
use Rattle.rng_model.specs.declared.method.Method.{Method}
use Rattle.rnc_model.specs.grammar.Syntax as tree
use Rattle.rnc_model.specs.grammar.Syntax.{applied}
use Rattle.rnc_model.specs.declarations.FileTree.{FileTree, grammar_file, pattern_file, grammar_components}
use Rattle.rnc_model.specs.loading.Mentions.{MentionedFile, external_file, included_file, mention_of, mentions_of, mentions_of_pattern}
use Rattle.rnc_model.specs.loading.Mentions.{mentions_of_components}
use Rattle.rng_model.specs.names.Lists.{Among}
use Rattle.rnc_model.specs.loading.FileGrammars.{grammar_if}
use Rattle.rnc_model.specs.loading.Places.{TreePath, Nested, Gathered, is_overridden, uri_in, class_in, datatype_in}

-- a pattern of a file that inherits a namespace, at a way: the pattern of the schema, and the grammars that are nested
-- in it
abbrev pub PatternReader : Type 0
PatternReader = List ℕ → TreePath → tree.PatternAt applied → Pattern × List Nested

-- The components that these add to their grammar, in a file that inherits a namespace. The first is the child of the
-- way with this number.
abbrev pub Gatherer : Type 0
Gatherer = List ℕ → TreePath → ℕ → tree.ComponentsAt applied → List Gathered

-- what was read, inside a pattern that adds no nested grammars
abbrev pub within : (Pattern → Pattern) → Pattern × List Nested → Pattern × List Nested
within make r = (make r.0, r.1)

-- a grammar that is nested at this way
abbrev pub nested_here : TreePath → List ℕ → tree.ComponentsAt applied → List Nested
nested_here x u cs = record { place = x; uri = u; components = cs } ∷ []

-- an external of this file, which inherits this namespace
unfoldable pub external_with : PatternReader → List ℕ → TreePath → Option FileTree → Pattern × List Nested
external_with below v x None = (pattern.not_allowed, [])
external_with below v x (Some (pattern_file a)) = within pattern.external (below v (0 ∷ x) a)
external_with below v x (Some (grammar_file cs)) = (pattern.external (pattern.grammar x), nested_here x v cs)

-- the components of an included file, which inherits this namespace, if it is a grammar
unfoldable pub included_with : Gatherer → List ℕ → TreePath → Option (tree.ComponentsAt applied) → List Gathered
included_with below v x None = []
included_with below v x (Some is) = below v (0 ∷ x) 0 is

-- the included components that are not overridden, and then the overriding ones
abbrev pub replaced_by : List Gathered → List Gathered → List Gathered
replaced_by included overriding = filter (λ g. not (is_overridden overriding g)) included ++ overriding

-- a component of this name
abbrev pub gathered_as : Option (List ℕ) → Method → Pattern × List Nested → Gathered
gathered_as y m r = record { component = record { name = y; method = m; pattern = r.0 }; nested = r.1 }

module _ (files : List ℕ → Option FileTree) where
  -- patterns; the reader reads those of mentioned files, one level down
  module _ (below : PatternReader) where
    unfoldable mutual
      pub read_with : List ℕ → TreePath → tree.PatternAt applied → Pattern × List Nested
      read_with u x (tree.element c a) = within (pattern.element (class_in u c)) (read_with u (0 ∷ x) a)
      read_with u x (tree.attribute c a) = within (pattern.attribute (class_in u c)) (read_with u (0 ∷ x) a)
      read_with u x (tree.list a) = within pattern.list (read_with u (0 ∷ x) a)
      read_with u x (tree.mixed a) = within pattern.mixed (read_with u (0 ∷ x) a)
      read_with u x (tree.optional a) = within pattern.optional (read_with u (0 ∷ x) a)
      read_with u x (tree.zero_or_more a) = within pattern.zero_or_more (read_with u (0 ∷ x) a)
      read_with u x (tree.one_or_more a) = within pattern.one_or_more (read_with u (0 ∷ x) a)
      read_with u x (tree.ref y) = (pattern.ref y, [])
      read_with u x (tree.parent_ref y) = (pattern.parent_ref y, [])
      read_with u x tree.empty = (pattern.empty, [])
      read_with u x tree.text = (pattern.text, [])
      read_with u x tree.not_allowed = (pattern.not_allowed, [])
      read_with u x (tree.value d v) = (pattern.value d.library d.name v, [])
      read_with u x (tree.data_of d ps) = (pattern.data_of (datatype_in d ps), [])
      read_with u x (tree.data_except d ps a) = within (pattern.data_except (datatype_in d ps)) (read_with u (0 ∷ x) a)
      read_with u x (tree.external m) = external_with below (uri_in u m.inherit) x (files m.href)
      read_with u x (tree.grammar cs) = (pattern.grammar x, nested_here x u cs)
      read_with u x (tree.joined k all) = let r = read_all_with u x 0 all in (joined_members k r.0, r.1)

      pub read_all_with : List ℕ → TreePath → ℕ → tree.PatternsAt applied → List Pattern × List Nested
      read_all_with u x n tree.no_patterns = ([], [])
      read_all_with u x n (tree.pattern_and a all) =
          let r = read_with u (n ∷ x) a in
          let rest = read_all_with u x (n + 1) all in
          (r.0 ∷ rest.0, r.1 ++ rest.1)

  -- components; the gatherer gathers those of included files, one level down
  module _ (read : PatternReader) (below : Gatherer) where
    unfoldable mutual
      pub gather_with : List ℕ → TreePath → ℕ → tree.ComponentsAt applied → List Gathered
      gather_with u x n tree.no_components = []
      gather_with u x n (tree.component_and c cs) = gather_one_with u (n ∷ x) c ++ gather_with u x (n + 1) cs

      pub gather_one_with : List ℕ → TreePath → tree.ComponentAt applied → List Gathered
      gather_one_with u x (tree.start m a) = gathered_as None m (read u x a) ∷ []
      gather_one_with u x (tree.define y m a) = gathered_as (Some y) m (read u x a) ∷ []
      gather_one_with u x (tree.div is) = gather_with u x 0 is
      gather_one_with u x (tree.include m over) =
          replaced_by (included_with below (uri_in u m.inherit) x (grammar_if (files m.href))) (gather_with u (1 ∷ x) 0 over)

  -- the result of a mention of a pattern, with this many levels left
  unfoldable pub read_below : ℕ → PatternReader
  read_below zero = λ u x a. (pattern.not_allowed, [])
  read_below (suc n) = read_with (read_below n)

  -- the pattern with mentions followed for n levels, and the grammars that are nested in it
  abbrev pub read_at : ℕ → PatternReader
  read_at n = read_with (read_below n)

  -- a mention of an external file, with this many levels left
  abbrev pub read_mention : ℕ → List ℕ → TreePath → tree.Mention applied → Pattern × List Nested
  read_mention n u x m = external_with (read_below n) (uri_in u m.inherit) x (files m.href)

  -- patterns in order; the first is the child with this number
  abbrev pub read_all_at : ℕ → List ℕ → TreePath → ℕ → tree.PatternsAt applied → List Pattern × List Nested
  read_all_at n = read_all_with (read_below n)

  -- the result of an include, with this many levels left
  unfoldable pub gather_below : ℕ → Gatherer
  gather_below zero = λ u x k cs. []
  gather_below (suc n) = gather_with (read_at n) (gather_below n)

  -- the components, with mentions followed for n levels
  abbrev pub gather_at : ℕ → Gatherer
  gather_at n = gather_with (read_at n) (gather_below n)

  -- what one component adds
  abbrev pub gather_one_at : ℕ → List ℕ → TreePath → tree.ComponentAt applied → List Gathered
  gather_one_at n = gather_one_with (read_at n) (gather_below n)

  -- ---- what can be read

  -- the file suits the mention: an included file is a grammar
  abbrev pub Serves : FileTree → MentionedFile → Type 0
  Serves t (external_file m) = Unit {0}
  Serves t (included_file m over) = (is : tree.ComponentsAt applied) × (grammar_components t ≡ Some is)

  -- the mention can be followed for n levels: its file exists and suits it, and what the file mentions can be followed
  -- for one level less
  unfoldable pub IsFollowed : ℕ → MentionedFile → Type 0
  IsFollowed zero m = ⊥
  IsFollowed (suc n) m = (t : FileTree) × (files (mention_of m).href ≡ Some t) × Serves t m × ((k : MentionedFile) → Among k (mentions_of t) → IsFollowed n k)

  -- all these mentions can be followed
  abbrev pub AreFollowed : ℕ → List MentionedFile → Type 0
  AreFollowed n ms = (m : MentionedFile) → Among m ms → IsFollowed n m

  -- the pattern can be read with n levels
  abbrev pub IsReadable : ℕ → tree.PatternAt applied → Type 0
  IsReadable n a = AreFollowed n (mentions_of_pattern a)

  -- the components can be read with n levels
  abbrev pub AreReadable : ℕ → tree.ComponentsAt applied → Type 0
  AreReadable n cs = AreFollowed n (mentions_of_components cs)
