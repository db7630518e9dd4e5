-- Depths member by member equal those of the nested forms.
use Rattle.std.proofs.Common.{◌≡◌, refl, ap, sym, ◌∙◌, ℕ, ◌+◌, ◌-◌, ◌<◌, max, List, [], ◌∷◌, ◌++◌, length, map, take, drop, get_or, slice_index_or, arith}
use Rattle.rng_model.specs.names.Names.{NameClass, NameClasses, no_classes, class_and, one_of, class_list, some_of}
use Rattle.rng_model.specs.simple.Tree.{Connector, choice, group, interleave, Tree, joined, no_trees, not_allowed}
use Rattle.rng_model.specs.schema.Schema.{nested_from}
use Rattle.rng_model.specs.simple.Leaves.{class_depth}
use Rattle.rng_model.specs.names.NameViews.{class_of}
use Rattle.rng_simple.specs.plain.InTwos.{nested, nested_after}
use Rattle.rng_simple.specs.plain.DepthWith.{cut_off, one_more, nested_depth, depth_with, deeper_with}
use Rattle.rng_simple.specs.plain.Graph.{Spot}
use Rattle.rng_simple.specs.views.GraphView.{arity, child, combined, forest, members, row_tree, trees_of}
use Rattle.rng_simple.specs.declared.graph.parts.GraphRow.{GraphRow}
use Rattle.rng_simple.specs.declared.graph.parts.GraphRow.TheVariants as row
use Rattle.rng_simple.specs.plain.MemberDepths.{nested_class_depth, members_depth, row_depth}
use Rattle.rng_model.proofs.ReplacedLists.{first_seen, last_seen, replaced_seen}
use Rattle.rng_simple.proofs.Forests.{next_row}

-- ---- name classes

nested_after_depth : (c : NameClass) (n : ℕ) (cs : NameClasses) → n ≡ cut_off (class_depth c)
    → nested_class_depth n cs ≡ cut_off (class_depth (nested_after c cs))
nested_after_depth c n no_classes e = e
nested_after_depth c n (class_and d ds) e = nested_after_depth (one_of c (nested d) no_classes) _ ds (omega arith)

-- a choice of one member or more
pub choice_depth : (c : NameClass) (cs : List NameClass)
    → nested_class_depth (cut_off (class_depth (nested c))) (class_list cs) ≡ cut_off (class_depth (nested (some_of (c ∷ cs))))
choice_depth c [] = refl
choice_depth c (d ∷ cs) = nested_after_depth (one_of (nested c) (nested d) no_classes) _ (class_list cs) (omega arith)

-- ---- patterns

module _ {P : Type 0} (g : P → ℕ) where
  deeper_members : (ts : List (Tree P)) (n : ℕ) → deeper_with g n (trees_of ts) ≡ nested_depth n (map (depth_with g) ts)
  deeper_members [] n = refl
  deeper_members (a ∷ ts) n = deeper_members ts (one_more (max n (depth_with g a)))

  pub depth_of_members : (k : Connector) (ts : List (Tree P)) → depth_with g (members k ts) ≡ members_depth (map (depth_with g) ts)
  depth_of_members choice [] = refl
  depth_of_members group [] = refl
  depth_of_members interleave [] = refl
  depth_of_members choice (a ∷ []) = refl
  depth_of_members group (a ∷ []) = refl
  depth_of_members interleave (a ∷ []) = refl
  depth_of_members choice (a ∷ (b ∷ ts)) = deeper_members ts _
  depth_of_members group (a ∷ (b ∷ ts)) = deeper_members ts _
  depth_of_members interleave (a ∷ (b ∷ ts)) = deeper_members ts _

  depth_of_nested : (k : Connector) (a : Tree P) (ts : List (Tree P))
      → depth_with g (nested_from k a ts) ≡ nested_depth (depth_with g a) (map (depth_with g) ts)
  depth_of_nested k a [] = refl
  depth_of_nested k a (b ∷ ts) = depth_of_nested k (joined k a b no_trees) ts

  pub depth_of_combined : (k : Connector) (ts : List (Tree P)) → depth_with g (combined k ts) ≡ members_depth (map (depth_with g) ts)
  depth_of_combined k [] = refl
  depth_of_combined k (a ∷ ts) = depth_of_nested k a ts

  pub depth_of_child : (ts : List (Tree P)) → slice_index_or (map (depth_with g) ts) 0 1 ≡ depth_with g (child ts)
  depth_of_child ts = first_seen (depth_with g) ts not_allowed

-- the tree of a row
pub depth_of_row : (g : Spot → ℕ) (r : GraphRow) (ts : List (Tree Spot)) → row_depth g r (map (depth_with g) ts) ≡ depth_with g (row_tree r ts)
depth_of_row g row.NotAllowed ts = refl
depth_of_row g row.Empty ts = refl
depth_of_row g row.Text ts = refl
depth_of_row g (row.Element k) ts = refl
depth_of_row g (row.Definition j) ts = refl
depth_of_row g (row.Data d) ts = refl
depth_of_row g (row.Value v) ts = refl
depth_of_row g (row.Attribute c) ts = ap (λ n. one_more (max (cut_off (class_depth (nested (class_of c.now)))) n)) (depth_of_child g ts)
depth_of_row g row.List ts = ap one_more (depth_of_child g ts)
depth_of_row g (row.DataExcept d) ts = ap one_more (depth_of_child g ts)
depth_of_row g row.Mixed ts = ap (λ n. one_more (max n 1)) (depth_of_child g ts)
depth_of_row g row.Optional ts = ap (λ n. one_more (max n 1)) (depth_of_child g ts)
depth_of_row g row.ZeroOrMore ts = ap (λ n. one_more (one_more n)) (depth_of_child g ts)
depth_of_row g row.OneOrMore ts = ap one_more (depth_of_child g ts)
depth_of_row g (row.Group n) ts = sym (depth_of_members g group ts)
depth_of_row g (row.Interleave n) ts = sym (depth_of_members g interleave ts)
depth_of_row g (row.Choice n) ts = sym (depth_of_members g choice ts)

-- one more row
pub next_depths : (g : Spot → ℕ) (rows : List GraphRow) (i : ℕ) (r : GraphRow) (before after children : List ℕ) (n : ℕ) → i < length rows → r ≡ get_or rows i r
    → before ≡ map (depth_with g) (forest (take i rows)) → children ≡ drop (length before - arity r) before → n ≡ row_depth g r children
    → after ≡ take (length before - arity r) before ++ n ∷ [] → after ≡ map (depth_with g) (forest (take (i + 1) rows))
next_depths g rows i r before after children n h e same inside is more =
    let ts = forest (take i rows) in
    let depth : n ≡ depth_with g (row_tree r (drop (length ts - arity r) ts)) =
    is ∙ ap (row_depth g r) (inside ∙ last_seen (depth_with g) (arity r) ts before same) ∙ depth_of_row g r (drop (length ts - arity r) ts) in
    more ∙ replaced_seen (depth_with g) (arity r) ts before same (row_tree r) n depth ∙ ap (map (depth_with g)) (sym (next_row rows i r h e))
