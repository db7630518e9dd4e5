use Rattle.std.proofs.Common.{◌≡◌, ◌↔◌, ◌<◌, ◌∷◌, [], ap, sym, ◌∙◌, subst, ℕ, length, map, slice_get, slice_index_or, Some, true}
use Rattle.rng_model.specs.names.NameViews.{class_of}
use Rattle.rng_simple.specs.plain.Graph.{IsFilledBy}
use Rattle.rng_simple.specs.views.GraphView.{classes_of, graph_of}
use Rattle.rng_simple.specs.plain.Copying.{AreCopied}
use Rattle.rng_simple.specs.plain.GrammarBy.{content_simple, spot_simple}
use Rattle.rng_simple.specs.plain.RowReach.{row_next, content_of}
use Rattle.rng_simple.specs.views.RowTable.{finished_labels, labels_of, tree_of}
use Rattle.rng_simple.specs.views.Rows.{AreDistinctRows, AreRows}
use Rattle.rng_simple.specs.plain.SimpleParts.{AreRowsBelow, values_in}
use Rattle.rng_labels.specs.plain.Queues.{IsReachedBy}
use Rattle.rng_simple.proofs.Tables.GrammarElements.{copies_as}
use Rattle.rng_simple.proofs.Tables.MadeGrammar.{closed, is_table, is_simple, is_made}
use Rattle.rng_simple.proofs.Tables.RowCopies.{index_apart}
use Rattle.rng_simple.proofs.Tables.SimpleParts.{stay_below}
use Rattle.rng_simple.proofs.Tables.ToldApart.{patterns_apart}
use Rattle.rng_simple.proofs.Tables.UsedPatterns.{all_used}
use Rattle.rng_simple.proofs.schema_form.made_tables.Goals as goal

pub copied_rows-requires-clause-closed : goal.copied_rows-requires-clause-closed
copied_rows-requires-clause-closed c =
    let t = c.definition_rows.new.table in
    let u = c.content_rows.new.table in
    let rs = u.rows.items in
    let definitions = c.in_ok-definitions.definitions.items in
    let contents = c.as_slice-4.result.now in
    let reached = c.as_slice-5.result.now in
    let first = c.row_of-first.result in
    let grown = c.in_ok-contents.ensures.grown in
    let below : AreRowsBelow (length rs) contents =
    subst (AreRowsBelow (length rs)) (sym c.as_slice-4.ensures.value) c.in_ok-contents.ensures.below in
    let is_first : first ≡ slice_index_or definitions 0 0 = c.row_of-first.ensures ∙ ap (λ xs. slice_index_or xs 0 0) c.as_slice-3.ensures.value in
    let first_below : first < length rs =
    subst (λ n. n < length rs) (sym is_first) (stay_below t u definitions grown c.in_ok-definitions.ensures.below 0) in
    let marks : (i : ℕ) → IsReachedBy (row_next rs (content_of contents)) (first ∷ []) i ↔ (slice_get reached i ≡ Some true) =
    subst (λ xs. (i : ℕ) → IsReachedBy (row_next rs (content_of contents)) (first ∷ []) i ↔ (slice_get xs i ≡ Some true)) (sym c.as_slice-5.ensures.value)
    c.in_ok-reached.ensures.reached in
    λ i r there.
    closed (labels_of u) rs grown.table.rows contents below first first_below reached marks i r
    (subst (λ xs. slice_get xs i ≡ Some r) c.finished-rows.ensures.rows there)

pub copied_rows-requires-clause-rows : goal.copied_rows-requires-clause-rows
copied_rows-requires-clause-rows c =
    let u = c.content_rows.new.table in
    subst (AreRows (finished_labels c.finished-rows.result)) (sym c.finished-rows.ensures.rows)
    (subst (λ l. AreRows l u.rows.items) (sym c.finished-rows.ensures.labels) c.in_ok-contents.ensures.grown.table.rows)

pub copied_rows-requires-clause-apart : goal.copied_rows-requires-clause-apart
copied_rows-requires-clause-apart c =
    let u = c.content_rows.new.table in
    subst AreDistinctRows (sym c.finished-rows.ensures.rows) (index_apart u.rows.items u.numbers c.in_ok-contents.ensures.grown.table.index)

pub returns-clause-table : goal.returns-clause-table
returns-clause-table c =
    let t = c.definition_rows.new.table in
    let u = c.content_rows.new.table in
    let rs = u.rows.items in
    let definitions = c.in_ok-definitions.definitions.items in
    let contents = c.as_slice-4.result.now in
    let reached = c.as_slice-5.result.now in
    let first = c.row_of-first.result in
    let grown = c.in_ok-contents.ensures.grown in
    let below : AreRowsBelow (length rs) contents =
    subst (AreRowsBelow (length rs)) (sym c.as_slice-4.ensures.value) c.in_ok-contents.ensures.below in
    let is_first : first ≡ slice_index_or definitions 0 0 = c.row_of-first.ensures ∙ ap (λ xs. slice_index_or xs 0 0) c.as_slice-3.ensures.value in
    let first_below : first < length rs =
    subst (λ n. n < length rs) (sym is_first) (stay_below t u definitions grown c.in_ok-definitions.ensures.below 0) in
    let marks : (i : ℕ) → IsReachedBy (row_next rs (content_of contents)) (first ∷ []) i ↔ (slice_get reached i ≡ Some true) =
    subst (λ xs. (i : ℕ) → IsReachedBy (row_next rs (content_of contents)) (first ∷ []) i ↔ (slice_get xs i ≡ Some true)) (sym c.as_slice-5.ensures.value)
    c.in_ok-reached.ensures.reached in
    let places = c.in_ok-copied.copied.places.items in
    let listed = c.in_ok-copied.copied.listed.items in
    let ps = c.in_ok-copied.copied.patterns.items in
    let copied =
    subst (λ l. AreCopied l rs reached (length rs) places ps listed) c.finished-rows.ensures.labels
    (subst (λ xs. AreCopied (finished_labels c.finished-rows.result) xs reached (length xs) places ps listed) c.finished-rows.ensures.rows
    c.in_ok-copied.ensures.copied) in
    let classes = classes_of c.args.graph in
    let es = c.in_ok-elements.elements.items in
    let all : map (λ k. class_of k.now) c.as_slice-6.result.now ≡ classes =
    ap (map (λ k. class_of k.now)) c.as_slice-6.ensures.value ∙ c.in_ok-classes.ensures in
    let copies = copies_as (map (λ k. class_of k.now) c.as_slice-6.result.now) classes c.as_slice-7.result.now contents c.as_slice-places.result.now places c.as_slice-8.result.now listed es
    all (c.as_slice-7.ensures.value ∙ sym c.as_slice-4.ensures.value) c.as_slice-places.ensures.value c.as_slice-8.ensures.value c.in_ok-elements.ensures in
    let is_start = c.row_of.ensures ∙ ap (λ xs. slice_index_or xs first 0) c.as_slice-places.ensures.value in
    λ types known.
    is_table (labels_of u) rs grown.table.rows contents below first first_below reached marks
    places listed ps copied classes es copies _ is_start types known

pub returns-clause-made : goal.returns-clause-made
returns-clause-made c =
    let t = c.definition_rows.new.table in
    let u = c.content_rows.new.table in
    let rs = u.rows.items in
    let definitions = c.in_ok-definitions.definitions.items in
    let contents = c.as_slice-4.result.now in
    let reached = c.as_slice-5.result.now in
    let first = c.row_of-first.result in
    let grown = c.in_ok-contents.ensures.grown in
    let below : AreRowsBelow (length rs) contents =
    subst (AreRowsBelow (length rs)) (sym c.as_slice-4.ensures.value) c.in_ok-contents.ensures.below in
    let is_first : first ≡ slice_index_or definitions 0 0 = c.row_of-first.ensures ∙ ap (λ xs. slice_index_or xs 0 0) c.as_slice-3.ensures.value in
    let first_below : first < length rs =
    subst (λ n. n < length rs) (sym is_first) (stay_below t u definitions grown c.in_ok-definitions.ensures.below 0) in
    let marks : (i : ℕ) → IsReachedBy (row_next rs (content_of contents)) (first ∷ []) i ↔ (slice_get reached i ≡ Some true) =
    subst (λ xs. (i : ℕ) → IsReachedBy (row_next rs (content_of contents)) (first ∷ []) i ↔ (slice_get xs i ≡ Some true)) (sym c.as_slice-5.ensures.value)
    c.in_ok-reached.ensures.reached in
    let places = c.in_ok-copied.copied.places.items in
    let listed = c.in_ok-copied.copied.listed.items in
    let ps = c.in_ok-copied.copied.patterns.items in
    let copied =
    subst (λ l. AreCopied l rs reached (length rs) places ps listed) c.finished-rows.ensures.labels
    (subst (λ xs. AreCopied (finished_labels c.finished-rows.result) xs reached (length xs) places ps listed) c.finished-rows.ensures.rows
    c.in_ok-copied.ensures.copied) in
    let classes = classes_of c.args.graph in
    let es = c.in_ok-elements.elements.items in
    let all : map (λ k. class_of k.now) c.as_slice-6.result.now ≡ classes =
    ap (map (λ k. class_of k.now)) c.as_slice-6.ensures.value ∙ c.in_ok-classes.ensures in
    let copies = copies_as (map (λ k. class_of k.now) c.as_slice-6.result.now) classes c.as_slice-7.result.now contents c.as_slice-places.result.now places c.as_slice-8.result.now listed es
    all (c.as_slice-7.ensures.value ∙ sym c.as_slice-4.ensures.value) c.as_slice-places.ensures.value c.as_slice-8.ensures.value c.in_ok-elements.ensures in
    let is_start = c.row_of.ensures ∙ ap (λ xs. slice_index_or xs first 0) c.as_slice-places.ensures.value in
    let g = graph_of c.args.graph in
    let values = values_in t definitions in
    let start_tree : tree_of u first ≡ values 0 =
    ap (tree_of u) is_first ∙ grown.stays (slice_index_or definitions 0 0) (c.in_ok-definitions.ensures.below 0) in
    let bodies : (k : ℕ) → tree_of u (content_of contents k) ≡ content_simple g values k = λ k.
    ap (λ xs. tree_of u (slice_index_or xs k 0)) c.as_slice-4.ensures.value ∙ c.in_ok-contents.ensures.contents k
    ∙ ap (λ ds. content_simple g (values_in t ds) k) c.as_slice-2.ensures.value in
    λ types.
    record {
      made = record {
        values = values;
        filled = subst (IsFilledBy g (spot_simple values) values) c.as_slice.ensures.value c.in_ok-definitions.ensures.filled;
        seen = listed;
        grammar = is_made (labels_of u) rs grown.table.rows contents below first first_below reached marks
            places listed ps copied classes es copies _ is_start types g values start_tree bodies;
      };
      syntax = is_simple (labels_of u) rs grown.table.rows contents below first first_below reached marks
          places listed ps copied classes es copies _ is_start types;
      used = all_used (labels_of u) rs grown.table.rows contents below first first_below reached marks
          places listed ps copied classes es copies _ is_start types;
      apart = patterns_apart u grown.table reached places ps listed copied;
    }

pub returns-clause-falls : goal.returns-clause-falls
returns-clause-falls c = c.in_ok-copied.ensures.copied.falls
