-- A pattern with other numbers for its parts.
use Rattle.std.proofs.Common.{◌≡◌, ℕ, ◌+◌, ◌<◌, All, List, [], ◌∷◌, length, map, get_or, refl, sym, ap, ap₂, subst, arith, Contains}
use Rattle.std.specs.List.Sorted.{IsStrictlyIncreasing}
use Rattle.std.proofs.lemmas.List.{get_or-map, length-map}
use Rattle.std.proofs.lemmas.List.Elements.{All-cons, All-head, All-map, All-nil, All-tail, Contains-get_or}
use Rattle.std.proofs.lemmas.Option.{slice_get-get_or}
use Rattle.rng_model.specs.simple.Tree as tree
use Rattle.rng_model.specs.simple.Tree.{choice, group, interleave}
use Rattle.rng_model.specs.simple.Table.{Table}
use Rattle.rng_deriv_table.specs.views.Node.{Node}
use Rattle.rng_deriv_table.specs.views.Node as node
use Rattle.rng_deriv_table.specs.views.PatternTable.{ArePartsBelow, IsPatternTable}
use Rattle.rng_deriv_table.specs.plain.Reduced.{AreReduced, MayBeMember, MayBeSide}
use Rattle.rng_deriv_table.specs.plain.Selecting.{node_at, parts_of, renumbered}
use Rattle.rng_deriv_table.specs.views.Trees.{choice_from, tree_over}

-- ---- the parts

pub below_all : (n : Node) (i : ℕ) → ArePartsBelow i n → All (λ m. m < i) (parts_of n)
below_all node.not_allowed i h = All-nil (λ m. m < i)
below_all node.empty i h = All-nil (λ m. m < i)
below_all node.text i h = All-nil (λ m. m < i)
below_all (node.choice ms) i h = h.1
below_all (node.group a b) i h = All-cons (λ m. m < i) a (b ∷ []) h.0 (All-cons (λ m. m < i) b [] h.1 (All-nil (λ m. m < i)))
below_all (node.interleave a b) i h = All-cons (λ m. m < i) a (b ∷ []) h.0 (All-cons (λ m. m < i) b [] h.1 (All-nil (λ m. m < i)))
below_all (node.one_or_more a) i h = All-cons (λ m. m < i) a [] h (All-nil (λ m. m < i))
below_all (node.element e) i h = All-nil (λ m. m < i)
below_all (node.attribute a) i h = All-nil (λ m. m < i)
below_all (node.data_at d) i h = All-nil (λ m. m < i)

pub parts_below : (ns : List Node) → IsPatternTable ns → (i : ℕ) → i < length ns → All (λ m. m < i) (parts_of (node_at ns i))
parts_below ns table i h = below_all (node_at ns i) i (table.falls i (node_at ns i) (slice_get-get_or ns i node.not_allowed h))

-- ---- the same numbers

map_same : (f g : ℕ → ℕ) (ms : List ℕ) → All (λ k. f k ≡ g k) ms → map f ms ≡ map g ms
map_same f g [] h = refl
map_same f g (m ∷ ms) h =
    ap₂ (λ x xs. x ∷ xs) (All-head (λ k. f k ≡ g k) m ms h) (map_same f g ms (All-tail (λ k. f k ≡ g k) m ms h))

module _ (f g : ℕ → ℕ) where
  abbrev Agree : ℕ → Type 0
  Agree k = f k ≡ g k

  pub same_renumbered : (n : Node) → All (λ k. f k ≡ g k) (parts_of n) → renumbered f n ≡ renumbered g n
  same_renumbered node.not_allowed h = refl
  same_renumbered node.empty h = refl
  same_renumbered node.text h = refl
  same_renumbered (node.choice ms) h = ap node.choice (map_same f g ms h)
  same_renumbered (node.group a b) h = ap₂ node.group (All-head Agree a (b ∷ []) h) (All-head Agree b [] (All-tail Agree a (b ∷ []) h))
  same_renumbered (node.interleave a b) h = ap₂ node.interleave (All-head Agree a (b ∷ []) h) (All-head Agree b [] (All-tail Agree a (b ∷ []) h))
  same_renumbered (node.one_or_more a) h = ap node.one_or_more (All-head Agree a [] h)
  same_renumbered (node.element e) h = refl
  same_renumbered (node.attribute a) h = refl
  same_renumbered (node.data_at d) h = refl

map_twice : (f g : ℕ → ℕ) (ms : List ℕ) → All (λ k. g (f k) ≡ k) ms → map g (map f ms) ≡ ms
map_twice f g [] h = refl
map_twice f g (m ∷ ms) h =
    ap₂ (λ x xs. x ∷ xs) (All-head (λ k. g (f k) ≡ k) m ms h) (map_twice f g ms (All-tail (λ k. g (f k) ≡ k) m ms h))

-- there and back
module _ (f g : ℕ → ℕ) where
  abbrev Back : ℕ → Type 0
  Back k = g (f k) ≡ k

  pub renumbered_twice : (n : Node) → All (λ k. g (f k) ≡ k) (parts_of n) → renumbered g (renumbered f n) ≡ n
  renumbered_twice node.not_allowed h = refl
  renumbered_twice node.empty h = refl
  renumbered_twice node.text h = refl
  renumbered_twice (node.choice ms) h = ap node.choice (map_twice f g ms h)
  renumbered_twice (node.group a b) h = ap₂ node.group (All-head Back a (b ∷ []) h) (All-head Back b [] (All-tail Back a (b ∷ []) h))
  renumbered_twice (node.interleave a b) h = ap₂ node.interleave (All-head Back a (b ∷ []) h) (All-head Back b [] (All-tail Back a (b ∷ []) h))
  renumbered_twice (node.one_or_more a) h = ap node.one_or_more (All-head Back a [] h)
  renumbered_twice (node.element e) h = refl
  renumbered_twice (node.attribute a) h = refl
  renumbered_twice (node.data_at d) h = refl

-- ---- properties of the pattern

-- f keeps the order of these numbers
abbrev pub Rises : (ℕ → ℕ) → List ℕ → Type 0
Rises f ms = (a b : ℕ) → Contains ms a → Contains ms b → a < b → f a < f b

rising_mapped : (f : ℕ → ℕ) (ms : List ℕ) → IsStrictlyIncreasing ms → Rises f ms → IsStrictlyIncreasing (map f ms)
rising_mapped f ms rising keeps k inside =
    let long = length-map ms f in
    let next : k + 1 < length ms = omega (arith, long, inside) in
    let here : k < length ms = omega (arith, next) in
    let one = get_or-map f ms k 0 0 here in
    let two = get_or-map f ms (k + 1) 0 0 next in
    let up = keeps (get_or ms k 0) (get_or ms (k + 1) 0) (Contains-get_or ms k 0 here) (Contains-get_or ms (k + 1) 0 next) (rising k next) in
    omega (arith, one, two, up)

pub renumbered_below : (f : ℕ → ℕ) (n : Node) (i l : ℕ) → ArePartsBelow i n → All (λ k. f k < l) (parts_of n) → Rises f (parts_of n)
    → ArePartsBelow l (renumbered f n)
renumbered_below f node.not_allowed i l h below rises = tt
renumbered_below f node.empty i l h below rises = tt
renumbered_below f node.text i l h below rises = tt
renumbered_below f (node.choice ms) i l h below rises =
    let two = h.0 in (omega (arith, two, length-map ms f), All-map (λ m. m < l) f ms below, rising_mapped f ms h.2 rises)
renumbered_below f (node.group a b) i l h below rises =
    (All-head (λ k. f k < l) a (b ∷ []) below, All-head (λ k. f k < l) b [] (All-tail (λ k. f k < l) a (b ∷ []) below))
renumbered_below f (node.interleave a b) i l h below rises =
    (All-head (λ k. f k < l) a (b ∷ []) below, All-head (λ k. f k < l) b [] (All-tail (λ k. f k < l) a (b ∷ []) below))
renumbered_below f (node.one_or_more a) i l h below rises = All-head (λ k. f k < l) a [] below
renumbered_below f (node.element e) i l h below rises = tt
renumbered_below f (node.attribute a) i l h below rises = tt
renumbered_below f (node.data_at d) i l h below rises = tt

-- over other trees, where each part has the same tree
module _ (f : ℕ → ℕ) (old new : ℕ → tree.Simple ℕ) where
  abbrev SameTree : ℕ → Type 0
  SameTree k = new (f k) ≡ old k

  pub renumbered_reduced : (n : Node) → All (λ k. new (f k) ≡ old k) (parts_of n) → AreReduced old n → AreReduced new (renumbered f n)
  renumbered_reduced node.not_allowed same r = tt
  renumbered_reduced node.empty same r = tt
  renumbered_reduced node.text same r = tt
  renumbered_reduced (node.choice ms) same r =
      All-map (λ m. MayBeMember (new m)) f ms (λ k d inside. subst MayBeMember (sym (same k d inside)) (r k d inside))
  renumbered_reduced (node.group a b) same r = (
    subst MayBeSide (sym (All-head SameTree a (b ∷ []) same)) r.0,
    subst MayBeSide (sym (All-head SameTree b [] (All-tail SameTree a (b ∷ []) same))) r.1,
  )
  renumbered_reduced (node.interleave a b) same r = (
    subst MayBeSide (sym (All-head SameTree a (b ∷ []) same)) r.0,
    subst MayBeSide (sym (All-head SameTree b [] (All-tail SameTree a (b ∷ []) same))) r.1,
  )
  renumbered_reduced (node.one_or_more a) same r = subst MayBeSide (sym (All-head SameTree a [] same)) r
  renumbered_reduced (node.element e) same r = tt
  renumbered_reduced (node.attribute a) same r = tt
  renumbered_reduced (node.data_at d) same r = tt

  choice_same : (m : ℕ) (ms : List ℕ) → All (λ k. new (f k) ≡ old k) (m ∷ ms) → choice_from new (f m) (map f ms) ≡ choice_from old m ms
  choice_same m [] same = All-head SameTree m [] same
  choice_same m (n ∷ ms) same =
      ap₂ (tree.s_joined choice) (All-head SameTree m (n ∷ ms) same) (choice_same n ms (All-tail SameTree m (n ∷ ms) same))

  pub renumbered_tree : (t : Table) (n : Node) → All (λ k. new (f k) ≡ old k) (parts_of n) → tree_over t new (renumbered f n) ≡ tree_over t old n
  renumbered_tree t node.not_allowed same = refl
  renumbered_tree t node.empty same = refl
  renumbered_tree t node.text same = refl
  renumbered_tree t (node.choice []) same = refl
  renumbered_tree t (node.choice (m ∷ ms)) same = choice_same m ms same
  renumbered_tree t (node.group a b) same =
      ap₂ (tree.s_joined group) (All-head SameTree a (b ∷ []) same) (All-head SameTree b [] (All-tail SameTree a (b ∷ []) same))
  renumbered_tree t (node.interleave a b) same =
      ap₂ (tree.s_joined interleave) (All-head SameTree a (b ∷ []) same) (All-head SameTree b [] (All-tail SameTree a (b ∷ []) same))
  renumbered_tree t (node.one_or_more a) same = ap tree.s_one_or_more (All-head SameTree a [] same)
  renumbered_tree t (node.element e) same = refl
  renumbered_tree t (node.attribute a) same = refl
  renumbered_tree t (node.data_at d) same = refl
