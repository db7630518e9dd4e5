-- A grammar that is made of the numbers of a graph is the simple form of the schema, up to numbering.
use Rattle.std.proofs.Common.{◌≡◌, refl, ap, sym, ◌∙◌, subst, ℕ, ◌<◌, List, length, map, slice_get, slice_index_or, Some, Contains, All, true, arith}
use Rattle.std.proofs.lemmas.List.{length-map, get_or-map}
use Rattle.std.proofs.lemmas.List.Elements.{All-map}
use Rattle.std.proofs.lemmas.Option.{slice_get_within, get_or_from_slice_get, slice_get-get_or}
use Rattle.rng_model.proofs.Members.{all_from_members}
use Rattle.rng_model.proofs.Places.{contains_at}
use Rattle.rng_model.specs.names.Names.{NameClass}
use Rattle.rng_model.specs.simple.Tree.{Tree, Simple, s_leaf, as_tree, empty}
use Rattle.rng_simple.specs.plain.InTwos.{nested}
use Rattle.rng_simple.specs.plain.SimpleOf.{simple_of}
use Rattle.rng_model.specs.schema.Schema.{Schema, Definition, main_start}
use Rattle.rng_model.specs.simple.Leaves.{LeafIn, AreLeavesBelow}
use Rattle.rng_model.specs.schema.Unfolding.{Leaf, content_of, to_definition, aim, IsTreeOf, IsBodyOf, IsReachedByTrees, from_start, from_element}
use Rattle.rng_model.specs.schema.Unfolding.{IsReachedBySimpleForms, from_simple_start, from_simple_body}
use Rattle.rng_simple.specs.plain.Expansion.{KeepsExpansion}
use Rattle.rng_simple.specs.plain.Met.{met_start, met_in_element}
use Rattle.rng_simple.specs.plain.Renamed.{simple_renamed}
use Rattle.rng_model.specs.simple.Grammar.{Grammar}
use Rattle.rng_simple.specs.plain.Numbering.{AreDistinct, no_element, element_at, AreBodies, IsListedAs, IsNumbering}
use Rattle.rng_model.specs.simple.SchemaForm.{IsSimpleGrammarOf, IsOnlySimpleGrammarOf}
use Rattle.rng_simple.specs.plain.SimpleWith.{simple_with, simple_at}
use Rattle.rng_simple.specs.plain.DepthWith.{IsRight}
use Rattle.rng_simple.specs.plain.Graph.{Spot, Graph, IsGraphOf, Mentions, IsOrderBy, IsFilledBy, leaf_number, same_leaf}
use Rattle.rng_simple.specs.plain.GrammarBy.{spot_simple, content_simple, IsNumberReached, in_first, in_body, IsGrammarBy, IsMadeOf}
use Rattle.rng_simple.proofs.LoopsAndDepths.LoopsOrOrder.{reached_is_met}
use Rattle.rng_simple.proofs.Grammars.PointSimples.{with_leaves}
use Rattle.rng_simple.proofs.Leaves.SimpleLeaves.{simple_leaves, with_renamed, simply_is_reached}
use Rattle.rng_simple.proofs.Leaves.Renamed.{renamed_corresponds, origin}
use Rattle.rng_simple.proofs.Leaves.RenamedTwice.{renamed_twice, renamed_itself}
use Rattle.rng_simple.proofs.Grammars.SimpleTables.{simples_right, simple_right}
use Rattle.rng_simple.proofs.Trees.SimpleForms.{has_simple_form}
use Rattle.rng_simple.proofs.Grammars.NumberedSchema.{is_simple_grammar, only_simple_grammar}
use Rattle.rng_simple.proofs.NumberedGraphs.Graphs.{found_contained, resolved_content, known}
use Rattle.rng_simple.proofs.NumberedGraphs.GraphTables.{number_is, leaf_number_is, leaf_same, table_of, filled_of}
use Rattle.rng_simple.proofs.Grammars.SimpleTables.{leaf_name, simple_resolved}
use Rattle.rng_simple.specs.views.ExpansionOrder.{IsGraphOfSchema, IsWholeOrder}
use Rattle.rng_simple.specs.views.GraphView.{graph_of, classes_of}
use Rattle.rng_simple.specs.declared.graph.parts.Graph as declared
use Rattle.rng_simple.proofs.ListParts.{map_at}
use Rattle.rng_simple.proofs.NumberedGraphs.JudgedByNumbers.{order_is, order_covers, order_keeps_expansion, definitions}

module _ (s : Schema) (ds : List Definition) (ls : List Leaf) (g : Graph) (is : IsGraphOf s ds ls g)
    {js : List ℕ} (o : IsOrderBy (Mentions g) js) (h : All (λ j. j < length ds) js) (all : (j : ℕ) → j < length ds → Contains js j)
    (values : ℕ → Simple ℕ) (f : IsFilledBy g (spot_simple values) values js) where
  keeps : KeepsExpansion s
  keeps = order_keeps_expansion s ds ls g is o h all

  abbrev name : Leaf → Simple ℕ
  name = leaf_name s ds ls g is

  abbrev table : Definition → Simple ℕ
  table = table_of s ds ls g is values

  table_right : (d : Definition) → Contains (definitions s ds ls g is o h all) d → IsRight s (simple_with name) table d
  table_right = simples_right s name table (order_is s ds ls g is o h all)
      (filled_of s ds ls g is (simple_at s name table) (spot_simple values) values (λ x a r e. simple_resolved s ds ls g is values e) js h f)

  -- the element with a number, and the number of an element that is met
  number_back : (m : Leaf) → IsReachedByTrees s m → element_at ls (leaf_number ls m) ≡ m
  number_back m r =
      let k = found_contained ls m (known s ds ls g is (reached_is_met s r)) in
      ap (element_at ls) (leaf_number_is ls is.elements_apart k.0 m k.1) ∙ get_or_from_slice_get ls k.0 m no_element k.1

  -- ---- the tables have the simple form of the tree, with numbers instead of elements

  first_number : (t : Tree Leaf) → IsTreeOf s (main_start s) t → values 0 ≡ simple_renamed (leaf_number ls) (simple_of t)
  first_number t d =
      ap values (sym (number_is ds is.definitions_apart 0 (main_start s) is.start))
      ∙ table_right (main_start s) (order_covers s ds ls g is o h all (to_definition (main_start s)) (met_start refl)) t d
      ∙ sym (with_renamed (leaf_number ls) s_leaf t) ∙ ap (simple_renamed (leaf_number ls)) (with_leaves t)

  content_is : (k : ℕ) (r : Tree Spot) → slice_get g.contents k ≡ Some r → content_simple g values k ≡ spot_simple values r
  content_is k r e = ap (spot_simple values) (get_or_from_slice_get g.contents k r empty e)

  content_number : (m : Leaf) → IsReachedByTrees s m → (t : Tree Leaf) → IsBodyOf s m t
      → content_simple g values (leaf_number ls m) ≡ simple_renamed (leaf_number ls) (simple_of t)
  content_number m w t d =
      let k = found_contained ls m (known s ds ls g is (reached_is_met s w)) in
      let r = resolved_content s ds ls g is m k.0 k.1 in
      let e : content_simple g values (leaf_number ls m) ≡ spot_simple values r.0 =
      ap (content_simple g values) (leaf_number_is ls is.elements_apart k.0 m k.1) ∙ content_is k.0 r.0 r.1 in
      let c : simple_at s name table m.place (content_of m) ≡ simple_with name t =
      simple_right s name table (Contains (definitions s ds ls g is o h all)) table_right m.place (content_of m)
      (λ l i. order_covers s ds ls g is o h all (aim s m.place l) (met_in_element (reached_is_met s w) i refl)) t d in
      e ∙ sym (simple_resolved s ds ls g is values r.2) ∙ c ∙ sym (with_renamed (leaf_number ls) s_leaf t)
      ∙ ap (simple_renamed (leaf_number ls)) (with_leaves t)

  -- ---- with elements instead of numbers, it is the simple form of the tree

  named_back : (t : Tree Leaf) → ((m : Leaf) → LeafIn m t → IsReachedByTrees s m)
      → simple_renamed (element_at ls) (simple_renamed (leaf_number ls) (simple_of t)) ≡ simple_of t
  named_back t r =
      renamed_twice (element_at ls) (leaf_number ls) (simple_of t)
      ∙ renamed_itself (λ m. element_at ls (leaf_number ls m)) (simple_of t) (λ m i. number_back m (r m (simple_leaves m t i)))

  abbrev first : Simple Leaf
  first = simple_renamed (element_at ls) (values 0)

  first_is : (t : Tree Leaf) → IsTreeOf s (main_start s) t → first ≡ simple_of t
  first_is t d = ap (simple_renamed (element_at ls)) (first_number t d) ∙ named_back t (λ m i. from_start d i)

  abbrev simples : Leaf → Simple Leaf
  simples m = simple_renamed (element_at ls) (content_simple g values (leaf_number ls m))

  bodies_are : AreBodies s simples
  bodies_are m w t d =
      let r = simply_is_reached s w in
      ap (simple_renamed (element_at ls)) (content_number m r t d) ∙ named_back t (λ n i. from_element r d i)

  -- ---- what the numbers reach

  module _ (classes : List NameClass) (are : (k : ℕ) (m : Leaf) → slice_get ls k ≡ Some m → slice_get classes k ≡ Some m.class) (seen : List ℕ) (made : Grammar)
      (by : IsGrammarBy classes g values seen made) where
    -- an element that is reached, with its number
    record IsAt (k : ℕ) : Type 0 where
      pub leaf : Leaf
      pub there : slice_get ls k ≡ Some leaf
      pub reached : IsReachedBySimpleForms s leaf

    at_its_number : (m : Leaf) (k : ℕ) → leaf_number ls m ≡ k → IsReachedBySimpleForms s m → IsAt k
    at_its_number m k e r =
        let n = found_contained ls m (known s ds ls g is (reached_is_met s (simply_is_reached s r))) in
        record { leaf = m; there = ap (slice_get ls) (sym e ∙ leaf_number_is ls is.elements_apart n.0 m n.1) ∙ n.1; reached = r }

    number_reached : {k : ℕ} → IsNumberReached (values 0) (content_simple g values) k → IsAt k
    number_reached (in_first {k = k} c) =
        let t = keeps.start in
        let i = origin (leaf_number ls) (simple_of t.0) k (subst (λ u. LeafIn k (as_tree u)) (first_number t.0 t.1) c) in
        at_its_number i.name k i.is (from_simple_start t.1 (has_simple_form t.0) i.inside)
    number_reached (in_body {j = j} {k = k} r c) =
        let m = number_reached r in
        let w = simply_is_reached s m.reached in
        let t = keeps.bodies m.leaf w in
        let e : content_simple g values j ≡ simple_renamed (leaf_number ls) (simple_of t.0) =
        ap (content_simple g values) (sym (leaf_number_is ls is.elements_apart j m.leaf m.there)) ∙ content_number m.leaf w t.0 t.1 in
        let i = origin (leaf_number ls) (simple_of t.0) k (subst (λ u. LeafIn k (as_tree u)) e c) in
        at_its_number i.name k i.is (from_simple_body m.reached t.1 (has_simple_form t.0) i.inside)

    abbrev listed : List Leaf
    listed = map (element_at ls) seen

    in_seen : (i : ℕ) → i < length seen → slice_get seen i ≡ Some (slice_index_or seen i 0)
    in_seen i l = slice_get-get_or seen i 0 l

    seen_is : (i : ℕ) → i < length seen → IsAt (slice_index_or seen i 0)
    seen_is i l = number_reached ((by.reached (slice_index_or seen i 0)).1 (contains_at seen i (slice_index_or seen i 0) (in_seen i l)))

    listed_at : (i : ℕ) → i < length seen → element_at listed i ≡ element_at ls (slice_index_or seen i 0)
    listed_at i l = get_or-map (element_at ls) seen i 0 no_element l

    is_leaf : (i : ℕ) (l : i < length seen) → element_at listed i ≡ (seen_is i l).leaf
    is_leaf i l = listed_at i l ∙ get_or_from_slice_get ls (slice_index_or seen i 0) (seen_is i l).leaf no_element (seen_is i l).there

    -- the numbers of the grammar represent the same elements as the numbers of the graph
    same_named : (u v : Simple ℕ) → AreLeavesBelow (length seen) (as_tree u) → simple_renamed (λ n. slice_index_or seen n 0) u ≡ v
        → simple_renamed (element_at listed) u ≡ simple_renamed (element_at ls) v
    same_named u v below e =
        renamed_corresponds (element_at listed) (λ n. element_at ls (slice_index_or seen n 0)) u (λ k i. listed_at k (below k i))
        ∙ sym (renamed_twice (element_at ls) (λ n. slice_index_or seen n 0) u) ∙ ap (simple_renamed (element_at ls)) e

    listed_apart : AreDistinct listed
    listed_apart i j l m e =
        let a : i < length seen = omega (arith, l, length-map seen (element_at ls)) in
        let b : j < length seen = omega (arith, m, length-map seen (element_at ls)) in
        let x = seen_is i a in
        let y = seen_is j b in
        let same : x.leaf ≡ y.leaf = sym (is_leaf i a) ∙ e ∙ is_leaf j b in
        let k : slice_index_or seen i 0 ≡ slice_index_or seen j 0 =
        is.elements_apart _ _ x.leaf y.leaf x.there y.there (subst (λ n. same_leaf x.leaf n ≡ true) same (leaf_same x.leaf)) in
        by.distinct i j (slice_index_or seen j 0) (in_seen i a ∙ ap Some k) (in_seen j b)

    all_reached : All (IsReachedBySimpleForms s) listed
    all_reached = All-map (IsReachedBySimpleForms s) (element_at ls) seen (all_from_members (λ k. IsReachedBySimpleForms s (element_at ls k)) seen (λ k c.
        let x = number_reached ((by.reached k).1 c) in
        subst (IsReachedBySimpleForms s) (sym (get_or_from_slice_get ls k x.leaf no_element x.there)) x.reached))

    listed_as : (i : ℕ) (e : NameClass × Simple ℕ) → slice_get made.elements i ≡ Some e → IsListedAs listed simples (element_at listed i) e
    listed_as i e there =
        let l : i < length seen = omega (arith, slice_get_within made.elements i e there, by.count) in
        let x = seen_is i l in
        let k : ℕ = slice_index_or seen i 0 in
        let number : leaf_number ls (element_at listed i) ≡ slice_index_or seen i 0 = ap (leaf_number ls) (is_leaf i l)
        ∙ leaf_number_is ls is.elements_apart (slice_index_or seen i 0) x.leaf x.there in record {
          below = λ n p. omega (arith, by.below i e there n p, length-map seen (element_at ls));
          class = by.class i (slice_index_or seen i 0) e x.leaf.class (in_seen i l) there (are (slice_index_or seen i 0) x.leaf x.there)
              ∙ ap (λ m. nested m.class) (sym (is_leaf i l));
          body = same_named e.1 (content_simple g values (slice_index_or seen i 0)) (by.below i e there)
              (by.body i (slice_index_or seen i 0) e (in_seen i l) there)
              ∙ ap (λ n. simple_renamed (element_at ls) (content_simple g values n)) (sym number);
        }

    numbering : IsNumbering s listed first simples made
    numbering = record {
      count = length-map seen (element_at ls) ∙ by.count;
      distinct = listed_apart;
      reached = all_reached;
      below = λ n p. omega (arith, by.start_below n p, length-map seen (element_at ls));
      start = same_named made.start (values 0) by.start_below by.start;
      each = listed_as;
    }

    -- the grammar is the simple form of the schema, up to numbering, and so is every other simple form
    pub is_grammar : IsSimpleGrammarOf s made
    is_grammar = is_simple_grammar s keeps listed first simples made numbering first_is bodies_are

    pub is_only_grammar : IsOnlySimpleGrammarOf s made
    is_only_grammar = only_simple_grammar s made is_grammar

-- ---- the result for the graph of a schema, in an order of all its definitions

module _ (s : Schema) (g : declared.Graph) (is : IsGraphOfSchema s g) (js : List ℕ) (o : IsWholeOrder (graph_of g) js) (made : Grammar)
    (m : IsMadeOf (classes_of g) (graph_of g) js made) where
  classes_are : (k : ℕ) (l : Leaf) → slice_get is.elements k ≡ Some l → slice_get (classes_of g) k ≡ Some l.class
  classes_are k l e = ap (λ cs. slice_get cs k) (sym is.classes) ∙ map_at (λ n. n.class) is.elements k l e

  within : All (λ j. j < length is.definitions) js
  within = subst (λ n. All (λ j. j < n) js) is.is.all_bodies o.within

  whole : (j : ℕ) → j < length is.definitions → Contains js j
  whole j h = o.whole j (subst (λ n. j < n) (sym is.is.all_bodies) h)

  -- is its simple form
  pub made_is_grammar : IsSimpleGrammarOf s made
  made_is_grammar =
      is_grammar s is.definitions is.elements (graph_of g) is.is o.order within whole m.values m.filled (classes_of g) classes_are m.seen made m.grammar

  -- and it is the only one
  pub made_is_only_grammar : IsOnlySimpleGrammarOf s made
  made_is_only_grammar = only_simple_grammar s made made_is_grammar
