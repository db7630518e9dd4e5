-- The copied rows, with everything that is reached, make the grammar of the graph.
use Rattle.std.proofs.Common.{◌≡◌, ◌↔◌, refl, ap, sym, ◌∙◌, subst, ℕ, ◌<◌, List, [], ◌∷◌, length, slice_get, slice_index_or, Some, Bool, true, All}
use Rattle.std.proofs.Common.{Contains, arith}
use Rattle.std.proofs.lemmas.List.{length-map}
use Rattle.std.proofs.lemmas.List.Elements.{All-map}
use Rattle.std.proofs.lemmas.Option.{slice_get_within, slice_get-get_or, get_or_from_slice_get}
use Rattle.rng_model.proofs.Places.{contains_at}
use Rattle.rng_model.specs.names.Names as names
use Rattle.rng_model.specs.simple.Tree.{as_tree}
use Rattle.rng_simple.specs.plain.SimpleBodies.{IsPlainBody, LacksNotAllowed}
use Rattle.rng_model.specs.simple.Tree.{Simple, s_not_allowed, s_empty, s_text, s_leaf, s_attribute, s_list, s_data, s_data_except, s_value, s_one_or_more, s_joined}
use Rattle.rng_model.specs.simple.SimplifiedSchema.{IsSimpleBody, IsInSimpleSyntax}
use Rattle.rng_model.specs.simple.Leaves.{AreLeavesBelow}
use Rattle.rng_model.specs.simple.Table.{Table, grammar_of}
use Rattle.rng_model.specs.simple.TableRules.{IsTable, IsDatatypeKnown, IsPaired, IsLeafListed}
use Rattle.rng_model.specs.names.NameViews.{class_of}
use Rattle.rng_model.specs.declared.name.NameClass.{NameClass}
use Rattle.rng_model.specs.declared.simple.PatternId.{PatternId}
use Rattle.rng_model.specs.declared.simple.Simple as declared
use Rattle.rng_model.specs.declared.type_set.TypeSet.{TypeSet}
use Rattle.rng_simple.specs.plain.Graph.{Graph}
use Rattle.rng_simple.specs.declared.rows.Row.{Row}
use Rattle.rng_simple.specs.declared.rows.Row.TheVariants as row
use Rattle.rng_simple.specs.plain.Copying.{tree_numbered, place_of, listed_at, AllChildren, IsCopied, AreCopied}
use Rattle.rng_simple.specs.plain.GrammarBy.{content_simple, IsNumberReached, IsGrammarBy}
use Rattle.rng_simple.specs.views.GrammarElements.{IsElementCopy, AreElementCopies}
use Rattle.rng_simple.specs.plain.Renamed.{simple_renamed}
use Rattle.rng_simple.specs.plain.RowReach.{nexts, row_next, content_of}
use Rattle.rng_simple.specs.views.Rows.{Labels, tree_at, AreRows}
use Rattle.rng_simple.specs.plain.SimpleParts.{AreRowsBelow}
use Rattle.rng_labels.specs.plain.Queues.{IsReachedBy, at_start, onward}
use Rattle.rng_simple.proofs.Tables.RowCopies.{children_all, children_map}
use Rattle.rng_simple.proofs.Tables.RowReach.{leaf_has_row, row_has_leaf, numbers_same}
use Rattle.rng_simple.proofs.MappedLists.{found_mapped}
use Rattle.rng_simple.proofs.Grammars.SimpleBodies.{is_body}

-- ---- trees without notAllowed

module _ {K L : Type 0} (f : K → L) where
  free_before : (s : Simple K) → LacksNotAllowed (simple_renamed f s) → LacksNotAllowed s
  free_before s_not_allowed h = h
  free_before s_empty h = tt
  free_before s_text h = tt
  free_before (s_leaf l) h = tt
  free_before (s_attribute c s) h = free_before s h
  free_before (s_list s) h = free_before s h
  free_before (s_data d) h = tt
  free_before (s_data_except d s) h = free_before s h
  free_before (s_value d v) h = tt
  free_before (s_one_or_more s) h = free_before s h
  free_before (s_joined k s u) h = (free_before s h.0, free_before u h.1)

  simple_before : (s : Simple K) → IsPlainBody (simple_renamed f s) → IsPlainBody s
  simple_before s_not_allowed h = tt
  simple_before s_empty h = tt
  simple_before s_text h = tt
  simple_before (s_leaf l) h = tt
  simple_before (s_attribute c s) h = free_before s h
  simple_before (s_list s) h = free_before s h
  simple_before (s_data d) h = tt
  simple_before (s_data_except d s) h = free_before s h
  simple_before (s_value d v) h = tt
  simple_before (s_one_or_more s) h = free_before s h
  simple_before (s_joined k s u) h = (free_before s h.0, free_before u h.1)

-- ---- marks

module _ (l : Labels) (rs : List Row) (rows : AreRows l rs) (contents : List ℕ) (below : AreRowsBelow (length rs) contents) (first : ℕ)
    (first_below : first < length rs)
    (reached : List Bool)
    (marks : (i : ℕ) → IsReachedBy (row_next rs (content_of contents)) (first ∷ []) i ↔ (slice_get reached i ≡ Some true)) where
  next_marked : (i y : ℕ) (r : Row) → slice_get rs i ≡ Some r → slice_get reached i ≡ Some true → Contains (nexts (content_of contents) r) y
      → slice_get reached y ≡ Some true
  next_marked i y r e m c =
      (marks y).0 (onward ((marks i).1 m) (subst (λ q. Contains (nexts (content_of contents) q) y) (sym (get_or_from_slice_get rs i r row.Empty e)) c))

  -- the children of a marked row are marked
  pub closed : (i : ℕ) (r : Row) → slice_get rs i ≡ Some r → slice_get reached i ≡ Some true → AllChildren (λ a. slice_get reached a ≡ Some true) r
  closed i r e m =
      children_map (λ a. (a < i) × (slice_get reached a ≡ Some true)) (λ a. slice_get reached a ≡ Some true) r (λ a h. h.1)
      (children_all (content_of contents) (λ a. slice_get reached a ≡ Some true) i r (rows.falls i r e) (λ y c. next_marked i y r e m c))

  first_marked : slice_get reached first ≡ Some true
  first_marked = (marks first).0 (at_start (0, omega arith, refl))

  -- ---- the grammar

  module _ (places listed : List ℕ) (ps : List declared.Simple) (are : AreCopied l rs reached (length rs) places ps listed) (classes : List names.NameClass)
      (es : List (NameClass × PatternId)) (copies : AreElementCopies classes contents places listed es) (start : PatternId)
      (is_start : start.0 ≡ place_of places first) (types : TypeSet) where
    abbrev pub table : Table
    table = record { patterns = ps; elements = es; start = start; types = types }

    first_copied : IsCopied ps listed (place_of places first) (tree_at l rs first)
    first_copied = are.copied first first_below first_marked

    -- the body of a listed element is reached
    body_marked : (k : ℕ) → Contains listed k → slice_get reached (content_of contents k) ≡ Some true
    body_marked k c =
        let f = are.from k c in
        next_marked f.0 (content_of contents k) (row.Element k) f.3 f.2 (0, omega arith, refl)

    body_copied : (k : ℕ) → Contains listed k → IsCopied ps listed (place_of places (content_of contents k)) (tree_at l rs (content_of contents k))
    body_copied k c = are.copied (content_of contents k) (below k) (body_marked k c)

    -- the element with a number
    listed_there : (n : ℕ) (e : NameClass × PatternId) → slice_get es n ≡ Some e → slice_get listed n ≡ Some (listed_at listed n)
    listed_there n e is = slice_get-get_or listed n 0 (omega (arith, slice_get_within es n e is, copies.count))

    element_copy : (n : ℕ) (e : NameClass × PatternId) → slice_get es n ≡ Some e → IsElementCopy classes contents places (listed_at listed n) e
    element_copy n e is = copies.each n (listed_at listed n) e (listed_there n e is) is

    element_body : (n : ℕ) (e : NameClass × PatternId) → slice_get es n ≡ Some e
        → IsCopied ps listed e.1.0 (tree_at l rs (content_of contents (listed_at listed n)))
    element_body n e is =
        let k = listed_at listed n in
        subst (λ x. IsCopied ps listed x (tree_at l rs (content_of contents (listed_at listed n)))) (sym (element_copy n e is).body)
        (body_copied (listed_at listed n) (contains_at listed n (listed_at listed n) (listed_there n e is)))

    all_elements : (P : NameClass × PatternId → Type 0) → ((n : ℕ) (e : NameClass × PatternId) → slice_get es n ≡ Some e → P e) → All P es
    all_elements P f n d h = f n (slice_index_or es n d) (slice_get-get_or es n d h)

    pub is_table : All (IsDatatypeKnown types) ps → IsTable table
    is_table known = record {
      start = subst (λ x. x < length ps) (sym is_start) first_copied.there;
      bodies = all_elements (λ e. e.1.0 < length ps) (λ n e is. (element_body n e is).there);
      falls = are.falls;
      listed = subst (λ n. All (IsLeafListed n) ps) (sym copies.count) are.leaves;
      paired = are.paired;
      paired_elements = all_elements (λ e. IsPaired e.0) (λ n e is. (element_copy n e is).paired);
      datatypes = known;
    }

    -- what is copied is in the simple syntax
    copied_simple : (place i : ℕ) → IsCopied ps listed place (tree_at l rs i) → IsSimpleBody (tree_numbered ps place)
    copied_simple place i c = is_body (tree_numbered ps place) (simple_before (listed_at listed) (tree_numbered ps place) (subst IsPlainBody (sym c.is) (rows.simple i)))

    pub is_simple : IsInSimpleSyntax (grammar_of table)
    is_simple = record {
      start = subst (λ x. IsSimpleBody (tree_numbered ps x)) (sym is_start) (copied_simple (place_of places first) first first_copied);
      bodies = All-map (λ e. IsSimpleBody e.1) (λ e. (class_of e.0, tree_numbered ps e.1.0)) es
          (all_elements (λ e. IsSimpleBody (tree_numbered ps e.1.0))
          (λ n e is. copied_simple e.1.0 (content_of contents (listed_at listed n)) (element_body n e is)));
    }

    -- ---- it is the grammar of the graph

    module _ (g : Graph) (values : ℕ → Simple ℕ) (is_first : tree_at l rs first ≡ values 0)
        (are_contents : (k : ℕ) → tree_at l rs (content_of contents k) ≡ content_simple g values k) where
      listed_reached : (k : ℕ) → Contains listed k → IsNumberReached (values 0) (content_simple g values) k
      listed_reached k c =
          let f = are.from k c in
          numbers_same (tree_at l rs first) (values 0) (λ j. tree_at l rs (content_of contents j)) (content_simple g values) is_first are_contents
          (row_has_leaf l rs rows.falls (content_of contents) below first first_below k ((marks f.0).1 f.2) f.3)

      reached_listed : (k : ℕ) → IsNumberReached (values 0) (content_simple g values) k → Contains listed k
      reached_listed k r =
          let h = leaf_has_row l rs rows.falls (content_of contents) below first first_below
          (numbers_same (values 0) (tree_at l rs first) (content_simple g values) (λ j. tree_at l rs (content_of contents j)) (sym is_first)
          (λ j. sym (are_contents j)) r) in
          are.all h.place k (slice_get_within rs h.place (row.Element k) h.there) ((marks h.place).0 h.reached) h.there

      pub is_made : IsGrammarBy classes g values listed (grammar_of table)
      is_made = record {
        reached = λ k. (reached_listed k, listed_reached k);
        distinct = are.distinct;
        count = sym (length-map es (λ e. (class_of e.0, tree_numbered ps e.1.0)) ∙ copies.count);
        start_below = subst (λ x. AreLeavesBelow (length listed) (as_tree (tree_numbered ps x))) (sym is_start) first_copied.below;
        start = ap (λ x. simple_renamed (listed_at listed) (tree_numbered ps x)) is_start ∙ first_copied.is ∙ is_first;
        below = λ i e is.
            let f = found_mapped (λ d. (class_of d.0, tree_numbered ps d.1.0)) es i e is in
            subst (λ x. AreLeavesBelow (length listed) (as_tree x)) (ap (λ y. y.1) f.2) (element_body i f.0 f.1).below;
        class = λ i k e c there is known.
            let f = found_mapped (λ d. (class_of d.0, tree_numbered ps d.1.0)) es i e is in
            sym (ap (λ y. y.0) f.2) ∙ (copies.each i k f.0 there f.1).class c known;
        body = λ i k e there is.
            let f = found_mapped (λ d. (class_of d.0, tree_numbered ps d.1.0)) es i e is in
            let same : listed_at listed i ≡ k = get_or_from_slice_get listed i k 0 there in
            ap (simple_renamed (listed_at listed)) (sym (ap (λ y. y.1) f.2)) ∙ (element_body i f.0 f.1).is ∙ are_contents (listed_at listed i)
            ∙ ap (content_simple g values) same;
      }
