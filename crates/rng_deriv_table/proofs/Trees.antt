-- The trees of numbered patterns, one pattern at a time.
use Rattle.std.proofs.Common.{◌≡◌, ℕ, ◌<◌, ◌≤◌, All, List, [], ◌∷◌, ◌++◌, length, slice_get, Some, refl, ap, ap₂, sym, subst, get_or, ◌∙◌, arith}
use Rattle.std.proofs.Common.{length-append}
use Rattle.std.proofs.lemmas.List.{append-nil, append_assoc}
use Rattle.std.proofs.lemmas.List.Elements.{All-tail}
use Rattle.std.proofs.lemmas.List.Sums.{fold-append}
use Rattle.rng_model.proofs.NumberedTrees as numbered
use Rattle.rng_model.specs.simple.Tree as tree
use Rattle.rng_model.specs.simple.Tree.{group, interleave, choice, s_not_allowed}
use Rattle.rng_model.specs.simple.Table.{Table}
use Rattle.rng_deriv_table.specs.views.Node.{Node}
use Rattle.rng_deriv_table.specs.views.Node as node
use Rattle.rng_deriv_table.specs.views.Trees.{choice_from, tree_over, tree_of, trees, with_tree}
use Rattle.rng_deriv_table.specs.views.PatternTable.{ArePartsBelow, Longer}
use Rattle.rng_deriv_table.specs.plain.Reduced.{AreReduced, MayBeMember, MayBeSide}

-- a choice reads only its members
choice_reads : (m : ℕ) (ms : List ℕ) (f g : ℕ → tree.Simple ℕ) (i : ℕ) → All (λ m. m < i) (m ∷ ms) → ((k : ℕ) → k < i → f k ≡ g k)
    → choice_from f m ms ≡ choice_from g m ms
choice_reads m [] f g i below same = same m (below 0 0 (omega arith))
choice_reads m (n ∷ ms) f g i below same =
    ap₂ (tree.s_joined choice) (same m (below 0 0 (omega arith))) (choice_reads n ms f g i (All-tail (λ m. m < i) m (n ∷ ms) below) same)

-- the tree of a pattern reads only those of its parts
pub reads_below : (t : Table) (n : Node) (i : ℕ) → ArePartsBelow i n → numbered.ReadsBelow s_not_allowed (tree_over t) i n
reads_below t node.not_allowed i h f g same = refl
reads_below t node.empty i h f g same = refl
reads_below t node.text i h f g same = refl
reads_below t (node.choice []) i h f g same = refl
reads_below t (node.choice (m ∷ ms)) i h f g same = choice_reads m ms f g i h.1 same
reads_below t (node.group a b) i h f g same = ap₂ (tree.s_joined group) (same a h.0) (same b h.1)
reads_below t (node.interleave a b) i h f g same = ap₂ (tree.s_joined interleave) (same a h.0) (same b h.1)
reads_below t (node.one_or_more a) i h f g same = ap tree.s_one_or_more (same a h)
reads_below t (node.element e) i h f g same = refl
reads_below t (node.attribute a) i h f g same = refl
reads_below t (node.data_at d) i h f g same = refl

-- the same for whether it is reduced
pub reduced_reads : (n : Node) (i : ℕ) (f g : ℕ → tree.Simple ℕ) → ArePartsBelow i n → ((k : ℕ) → k < i → f k ≡ g k) → AreReduced g n → AreReduced f n
reduced_reads node.not_allowed i f g h same r = tt
reduced_reads node.empty i f g h same r = tt
reduced_reads node.text i f g h same r = tt
reduced_reads (node.choice ms) i f g h same r = λ k d inside. subst MayBeMember (sym (same (get_or ms k d) (h.1 k d inside))) (r k d inside)
reduced_reads (node.group a b) i f g h same r = (subst MayBeSide (sym (same a h.0)) r.0, subst MayBeSide (sym (same b h.1)) r.1)
reduced_reads (node.interleave a b) i f g h same r = (subst MayBeSide (sym (same a h.0)) r.0, subst MayBeSide (sym (same b h.1)) r.1)
reduced_reads (node.one_or_more a) i f g h same r = subst MayBeSide (sym (same a h)) r
reduced_reads (node.element e) i f g h same r = tt
reduced_reads (node.attribute a) i f g h same r = tt
reduced_reads (node.data_at d) i f g h same r = tt

-- there is a tree for each pattern
pub length-trees : (t : Table) (ns : List Node) → length (trees t ns) ≡ length ns
unfolding trees
length-trees t ns = numbered.length-trees s_not_allowed (tree_over t) ns

-- adding patterns changes no tree
pub tree_stays : (t : Table) (old new : List Node) (i : ℕ) → Longer old new → i < length old → tree_of t new i ≡ tree_of t old i
unfolding trees
tree_stays t old new i longer h = numbered.tree_stays s_not_allowed (tree_over t) old new longer.0 i longer.1 h

-- the tree of a pattern is the one over the trees of its parts
pub tree_of-over_parts : (t : Table) (ns : List Node) (i : ℕ) (n : Node) → ArePartsBelow i n → slice_get ns i ≡ Some n
    → tree_of t ns i ≡ tree_over t (tree_of t ns) n
unfolding trees
tree_of-over_parts t ns i n below found = numbered.tree_of-over_children s_not_allowed (tree_over t) ns i n (reads_below t n i below) found

-- the tree of a pattern that is added at the end is the one over those so far
pub tree_of_pushed : (t : Table) (ns : List Node) (n : Node) → tree_of t (ns ++ n ∷ []) (length ns) ≡ tree_over t (tree_of t ns) n
unfolding trees
tree_of_pushed t ns n = numbered.tree_of_pushed s_not_allowed (tree_over t) ns (ns ++ n ∷ []) n (length ns) refl refl

-- ---- some patterns are added

pub Longer-refl : (ns : List Node) → Longer ns ns
Longer-refl ns = ([], sym (append-nil ns))

pub Longer-trans : (ns ms os : List Node) → Longer ns ms → Longer ms os → Longer ns os
Longer-trans ns ms os p q = (p.0 ++ q.0, q.1 ∙ ap (λ xs. xs ++ q.0) p.1 ∙ append_assoc ns p.0 q.0)

pub Longer-length : (ns ms : List Node) → Longer ns ms → length ns ≤ length ms
Longer-length ns ms p = omega (arith, length-append ns p.0, ap length p.1)

-- the trees with that of one more pattern
pub trees_pushed : (t : Table) (ns : List Node) (n : Node) → trees t (ns ++ n ∷ []) ≡ trees t ns ++ tree_over t (tree_of t ns) n ∷ []
unfolding trees
trees_pushed t ns n = fold-append (with_tree t) [] ns (n ∷ [])
