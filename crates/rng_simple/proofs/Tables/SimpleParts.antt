-- Simple forms of members, and of patterns that are read in a table that grows.
use Rattle.std.proofs.Common.{◌≡◌, inl, inr, refl, ap, ap₂, sym, ◌∙◌, subst, ℕ, ◌<◌, ◌+◌, ◌-◌, suc, List, [], ◌∷◌, ◌++◌, length, map, take, drop, get_or, slice_index_or, arith}
use Rattle.std.proofs.Common.{length-append}
use Rattle.std.proofs.lemmas.Bool.{cases_lt, cases_eq}
use Rattle.std.proofs.lemmas.List.{length-map, length-take, take-map, drop-map, drop_more, map_push, get_or-take, get_or_past, get_or_append_left, get_or_push}
use Rattle.std.proofs.lemmas.Option.{slice_get_within}
use Rattle.rng_model.specs.simple.Tree.{Connector, choice, group, interleave, Tree}
use Rattle.rng_model.specs.simple.Tree.{joined, no_trees, Simple, s_leaf, s_empty, s_text}
use Rattle.rng_simple.specs.plain.InTwos.{nested}
use Rattle.rng_model.specs.schema.Schema.{nested_from}
use Rattle.rng_simple.specs.plain.Graph.{Spot, of_spot}
use Rattle.rng_simple.specs.views.GraphView.{arity, child, combined, forest, members, row_tree, trees_of}
use Rattle.rng_simple.specs.declared.graph.parts.GraphRow.{GraphRow}
use Rattle.rng_simple.specs.declared.graph.parts.GraphRow.TheVariants as row
use Rattle.rng_model.proofs.ReplacedLists.{last_seen, replaced_seen}
use Rattle.rng_simple.proofs.Forests.{next_row}
use Rattle.rng_model.specs.datatypes.DatatypeViews.{datatype_of}
use Rattle.rng_model.specs.names.NameViews.{class_of}
use Rattle.rng_simple.specs.declared.rows.Row.TheVariants as simple
use Rattle.rng_simple.specs.declared.row_table.RowTable.{RowTable}
use Rattle.rng_simple.specs.plain.SimpleOf.{sort_of, attribute_by, list_by, except_by, some_of, join}
use Rattle.rng_simple.specs.plain.SimpleWith.{simple_with, join_all_with}
use Rattle.rng_simple.specs.plain.GrammarBy.{spot_simple}
use Rattle.rng_simple.specs.views.RowTable.{labels_of, row_count, tree_of, IsRowTable, IsGrown}
use Rattle.rng_simple.specs.plain.SimpleParts.{AreRowsBelow, all_joined, components_joined, joined_simple, none_of, row_simple, side, values_in}
use Rattle.rng_simple.proofs.Tables.RowTrees.{tree_at-over_children}
use Rattle.rng_simple.proofs.Grammars.SimpleTables.{simple_reads}

-- ---- members

module _ (values : ℕ → Simple ℕ) (k : Connector) where
  others_are : (s : Simple ℕ) (ts : List (Tree Spot))
      → join_all_with (of_spot (λ i. s_leaf i) values) k s (trees_of ts) ≡ joined_simple k s (map (spot_simple values) ts)
  unfolding join_all_with
  others_are s [] = refl
  others_are s (a ∷ ts) = others_are (join k s (spot_simple values a)) ts

  members_are : (a : Tree Spot) (ts : List (Tree Spot))
      → spot_simple values (members k (a ∷ ts)) ≡ joined_simple k (spot_simple values a) (map (spot_simple values) ts)
  unfolding simple_with
  members_are a [] = refl
  members_are a (b ∷ ts) = others_are (join k (spot_simple values a) (spot_simple values b)) ts

  -- what is nested in twos already
  nested_is : (a : Tree Spot) (ts : List (Tree Spot))
      → spot_simple values (nested_from k a ts) ≡ joined_simple k (spot_simple values a) (map (spot_simple values) ts)
  unfolding simple_with join_all_with
  nested_is a [] = refl
  nested_is a (b ∷ ts) = nested_is (joined k a b no_trees) ts

no_members_are : (values : ℕ → Simple ℕ) (k : Connector) → none_of k ≡ spot_simple values (members k [])
unfolding simple_with
no_members_are values choice = refl
no_members_are values group = refl
no_members_are values interleave = refl

join_none : (k : Connector) (s : Simple ℕ) → join k (none_of k) s ≡ s
join_none choice s = refl
join_none group s = refl
join_none interleave s = refl

-- joining members to the result for no members
members_joined : (values : ℕ → Simple ℕ) (k : Connector) (ts : List (Tree Spot)) → all_joined k (map (spot_simple values) ts) ≡ spot_simple values (members k ts)
members_joined values k [] = no_members_are values k
members_joined values k (a ∷ ts) =
    ap (λ s. joined_simple k s (map (spot_simple values) ts)) (join_none k (spot_simple values a)) ∙ sym (members_are values k a ts)

pub components_are : (values : ℕ → Simple ℕ) (k : Connector) (ts : List (Tree Spot))
    → components_joined k (map (spot_simple values) ts) ≡ spot_simple values (combined k ts)
unfolding simple_with
components_are values k [] = refl
components_are values k (a ∷ ts) =
    ap (λ s. joined_simple k s (map (spot_simple values) ts)) (join_none k (spot_simple values a)) ∙ sym (nested_is values k a ts)

-- the only pattern
pub child_is : (values : ℕ → Simple ℕ) (ts : List (Tree Spot)) → side (map (spot_simple values) ts) ≡ spot_simple values (child ts)
unfolding simple_with
child_is values [] = refl
child_is values (a ∷ ts) = refl

-- ---- rows

row_is : (values : ℕ → Simple ℕ) (r : GraphRow) (ts : List (Tree Spot)) → row_simple values r (map (spot_simple values) ts) ≡ spot_simple values (row_tree r ts)
unfolding simple_with
row_is values row.NotAllowed ts = refl
row_is values row.Empty ts = refl
row_is values row.Text ts = refl
row_is values (row.Element k) ts = refl
row_is values (row.Definition j) ts = refl
row_is values (row.Data d) ts = refl
row_is values (row.Value v) ts = refl
row_is values (row.Attribute c) ts = ap (λ s. attribute_by (sort_of s) (nested (class_of c.now)) s) (child_is values ts)
row_is values row.List ts = ap (λ s. list_by (sort_of s) s) (child_is values ts)
row_is values (row.DataExcept d) ts = ap (λ s. except_by (sort_of s) (datatype_of d.now) s) (child_is values ts)
row_is values row.Mixed ts = ap (λ s. join interleave s s_text) (child_is values ts)
row_is values row.Optional ts = ap (λ s. join choice s s_empty) (child_is values ts)
row_is values row.ZeroOrMore ts = ap (λ s. join choice (some_of s) s_empty) (child_is values ts)
row_is values row.OneOrMore ts = ap some_of (child_is values ts)
row_is values (row.Group n) ts = members_joined values group ts
row_is values (row.Interleave n) ts = members_joined values interleave ts
row_is values (row.Choice n) ts = members_joined values choice ts

-- ---- the row of empty

pub empty_below : (t : RowTable) → IsRowTable t → 0 < row_count t
empty_below t is = slice_get_within t.rows.items 0 simple.Empty is.rows.first

pub empty_is : (t : RowTable) → IsRowTable t → tree_of t 0 ≡ s_empty
empty_is t is = tree_at-over_children (labels_of t) t.rows.items 0 simple.Empty is.rows.falls is.rows.first

-- no sides are rows of any table
pub none_below : (t : RowTable) → IsRowTable t → (xs : List ℕ) → xs ≡ [] → AreRowsBelow (row_count t) xs
none_below t is xs e j = subst (λ i. i < row_count t) (sym (get_or_past xs j 0 (omega (arith, ap length e)))) (empty_below t is)

-- ---- a table that grows

pub stays : (t : RowTable) → IsRowTable t → IsGrown t t
stays t is = record { table = is; long = omega arith; stays = λ i h. refl }

pub grown_twice : (t u v : RowTable) → IsGrown t u → IsGrown u v → IsGrown t v
grown_twice t u v a b = record {
  table = b.table;
  long = omega (arith, a.long, b.long);
  stays = λ i h. b.stays i (omega (arith, h, a.long)) ∙ a.stays i h;
}

module _ (t u : RowTable) (parts : List ℕ) (grown : IsGrown t u) (below : AreRowsBelow (row_count t) parts) where
  pub stay_below : AreRowsBelow (row_count u) parts
  stay_below j = omega (arith, below j, grown.long)

  pub values_stay : (r : Tree Spot) → spot_simple (values_in u parts) r ≡ spot_simple (values_in t parts) r
  values_stay r = simple_reads (values_in u parts) (values_in t parts) r (λ i l. grown.stays (slice_index_or parts i 0) (below i))

-- ---- one row more

module _ (rows new : List ℕ) (id n : ℕ) (more : new ≡ rows ++ id ∷ []) (long : length rows ≡ n) where
  pub at_last : get_or new n 0 ≡ id
  at_last = ap (λ xs. get_or xs n 0) more ∙ get_or_push rows id 0 n long

  pub at_front : (k : ℕ) → k < n → get_or new k 0 ≡ get_or rows k 0
  at_front k h = ap (λ xs. get_or xs k 0) more ∙ get_or_append_left rows (id ∷ []) 0 k (omega (arith, long))

  pub push_below : (t u : RowTable) → IsGrown t u → AreRowsBelow (row_count t) rows → id < row_count u → AreRowsBelow (row_count u) new
  push_below t u grown below there k = elim (cases_lt k n) [
    | inl h ↦ subst (λ m. m < row_count u) (sym (at_front k h)) (stay_below t u rows grown below k)
    | inr h ↦ elim (cases_eq k n) [
      | inl e ↦ subst (λ m. m < row_count u) (sym (ap (λ i. get_or new i 0) e ∙ at_last)) there
      | inr e ↦ subst (λ m. m < row_count u) (sym (get_or_past new k 0 (omega (arith, ap length more, length-append rows (id ∷ []), h, e, long))))
          (empty_below u grown.table)
    ]
  ]

-- ---- sides in a table that grows

below_front : (n k : ℕ) (xs : List ℕ) → 0 < n → AreRowsBelow n xs → AreRowsBelow n (take k xs)
below_front n k xs some below j = elim (cases_lt j k) [
  | inl h ↦ subst (λ i. i < n) (sym (get_or-take k xs j 0 h)) (below j)
  | inr h ↦ subst (λ i. i < n) (sym (get_or_past (take k xs) j 0 (omega (arith, length-take k xs)))) some
]

pub sides_stay : (t u : RowTable) (xs : List ℕ) → IsGrown t u → AreRowsBelow (row_count t) xs → map (tree_of u) xs ≡ map (tree_of t) xs
sides_stay t u [] grown below = refl
sides_stay t u (x ∷ xs) grown below = ap₂ ◌∷◌ (grown.stays x (below 0)) (sides_stay t u xs grown (λ j. below (suc j)))

-- one side more
pub next_joined : (k : Connector) (f : ℕ → Simple ℕ) (xs : List ℕ) (i : ℕ) (s u total : Simple ℕ) → i < length xs
    → joined_simple k s (map f (drop i xs)) ≡ total → u ≡ join k s (f (get_or xs i 0)) → joined_simple k u (map f (drop (i + 1) xs)) ≡ total
next_joined k f xs i s u total h so_far new =
    ap (λ r. joined_simple k r (map f (drop (i + 1) xs))) new ∙ sym (ap (λ ys. joined_simple k s (map f ys)) (drop_more xs i 0 h)) ∙ so_far

-- one more row of a list of patterns
module _ (t u : RowTable) (grown : IsGrown t u) (is : IsRowTable t) (values new_values : ℕ → Simple ℕ) (rows : List GraphRow) (i : ℕ) (r : GraphRow) (h : i < length rows)
    (e : r ≡ get_or rows i r) (sides children after : List ℕ) (id : ℕ) (below : AreRowsBelow (row_count t) sides)
    (inside : children ≡ drop (length sides - arity r) sides) (there : id < row_count u)
    (more : after ≡ take (length sides - arity r) sides ++ id ∷ []) where
  pub next_below : AreRowsBelow (row_count u) after
  next_below = push_below (take (length sides - arity r) sides) after id (length (take (length sides - arity r) sides)) more refl t u grown
      (below_front (row_count t) (length sides - arity r) sides (empty_below t is) below) there

  pub next_sides : map (tree_of t) sides ≡ map (spot_simple values) (forest (take i rows)) → ((a : Tree Spot) → spot_simple new_values a ≡ spot_simple values a)
      → tree_of u id ≡ row_simple new_values r (map (tree_of t) children)
      → map (tree_of u) after ≡ map (spot_simple values) (forest (take (i + 1) rows))
  next_sides same alike tree =
      let ts = forest (take i rows) in
      let front = take (length sides - arity r) sides in
      let stays : map (tree_of u) sides ≡ map (tree_of t) sides = sides_stay t u sides grown below in
      let long : length (map (tree_of u) sides) ≡ length sides = length-map sides (tree_of u) in
      let before : map (tree_of u) sides ≡ map (spot_simple values) ts = stays ∙ same in
      let inner : map (tree_of t) children ≡ map (spot_simple values) (drop (length ts - arity r) ts) =
      ap (map (tree_of t)) inside ∙ sym (drop-map (tree_of t) (length sides - arity r) sides)
      ∙ ap (λ n. drop (n - arity r) (map (tree_of t) sides)) (sym (length-map sides (tree_of t)))
      ∙ last_seen (spot_simple values) (arity r) ts (map (tree_of t) sides) same in
      let new : tree_of u id ≡ spot_simple values (row_tree r (drop (length ts - arity r) ts)) =
      tree ∙ ap (row_simple new_values r) (inner ∙ mapped_alike (drop (length ts - arity r) ts))
      ∙ row_is new_values r (drop (length ts - arity r) ts) ∙ alike (row_tree r (drop (length ts - arity r) ts)) in
      ap (map (tree_of u)) more ∙ map_push (tree_of u) front id
      ∙ ap (λ xs. xs ++ tree_of u id ∷ []) (sym (take-map (tree_of u) (length sides - arity r) sides)
      ∙ ap (λ n. take (n - arity r) (map (tree_of u) sides)) (sym long))
      ∙ replaced_seen (spot_simple values) (arity r) ts (map (tree_of u) sides) before (row_tree r) (tree_of u id) new
      ∙ ap (map (spot_simple values)) (sym (next_row rows i r h e))
    where
      mapped_alike : (xs : List (Tree Spot)) → map (spot_simple values) xs ≡ map (spot_simple new_values) xs
      mapped_alike [] = refl
      mapped_alike (x ∷ xs) = ap₂ ◌∷◌ (sym (alike x)) (mapped_alike xs)
