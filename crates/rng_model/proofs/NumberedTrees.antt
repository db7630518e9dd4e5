-- Trees by number, one for each node, made over those before it.
use Rattle.std.proofs.Common.{◌≡◌, ℕ, suc, ◌+◌, ◌<◌, List, [], ◌∷◌, ◌++◌, length, take, drop, get_or, fold, slice_get, Some, refl, ap, sym, ◌∙◌, arith}
use Rattle.std.proofs.Common.{length-append, subst}
use Rattle.std.proofs.lemmas.List.{get_or_append_left, length-take-le, take-append-drop}
use Rattle.std.proofs.lemmas.List.Sums.{fold-append}
use Rattle.std.proofs.lemmas.Option.{slice_get_within, get_or_from_slice_get}
use Rattle.std.proofs.Math.Seq.{get_or-append_seam, drop-cons}

-- `none` is the tree past the end
module _ {N T : Type 0} (none : T) (tree_over : (ℕ → T) → N → T) where
  abbrev pub tree_in : List T → ℕ → T
  tree_in ts i = get_or ts i none

  abbrev pub with_tree : List T → N → List T
  with_tree ts n = ts ++ tree_over (tree_in ts) n ∷ []

  abbrev pub trees : List N → List T
  trees = fold with_tree []

  abbrev pub tree_of : List N → ℕ → T
  tree_of ns = tree_in (trees ns)

  -- the node's tree depends only on those below i
  abbrev pub ReadsBelow : ℕ → N → Type 0
  ReadsBelow i n = (f g : ℕ → T) → ((k : ℕ) → k < i → f k ≡ g k) → tree_over f n ≡ tree_over g n

  -- later nodes change no earlier tree
  front_stays : (ts : List T) (ns : List N) (i : ℕ) → i < length ts → tree_in (fold with_tree ts ns) i ≡ tree_in ts i
  front_stays ts [] i h = refl
  front_stays ts (n ∷ ns) i h =
      let longer : i < length (with_tree ts n) = omega (arith, length-append ts (tree_over (tree_in ts) n ∷ [])) in
      front_stays (with_tree ts n) ns i longer ∙ get_or_append_left ts _ none i h

  length-from : (ts : List T) (ns : List N) → length (fold with_tree ts ns) ≡ length ts + length ns
  length-from ts [] = omega arith
  length-from ts (n ∷ ns) = omega (arith, length-from (with_tree ts n) ns, length-append ts (tree_over (tree_in ts) n ∷ []))

  -- there is a tree for each node
  pub length-trees : (ns : List N) → length (trees ns) ≡ length ns
  length-trees ns = omega (arith, length-from [] ns)

  -- nodes that are added change no tree
  pub tree_stays : (ns ms more : List N) (i : ℕ) → ms ≡ ns ++ more → i < length ns → tree_of ms i ≡ tree_of ns i
  tree_stays ns ms more i longer h =
      let long : i < length (trees ns) = omega (arith, length-trees ns) in
      ap (λ xs. tree_of xs i) longer ∙ ap (λ ts. tree_in ts i) (fold-append with_tree [] ns more) ∙ front_stays (trees ns) more i long

  -- the tree of a node that is added at the end is made over the trees so far
  pub tree_of_pushed : (ns ms : List N) (n : N) (i : ℕ) → ms ≡ ns ++ n ∷ [] → i ≡ length ns → tree_of ms i ≡ tree_over (tree_of ns) n
  tree_of_pushed ns ms n i more at =
      let long : i ≡ length (trees ns) = omega (arith, length-trees ns) in
      ap (λ xs. tree_of xs i) more ∙ ap (λ ts. tree_in ts i) (fold-append with_tree [] ns (n ∷ []))
      ∙ ap (tree_in (with_tree (trees ns) n)) long ∙ get_or-append_seam (trees ns) (tree_over (tree_in (trees ns)) n) [] none

  -- the tree of the node after these
  tree-middle : (xs ys : List N) (n : N) (i : ℕ) → i ≡ length xs → ReadsBelow i n → tree_of (xs ++ n ∷ ys) i ≡ tree_over (tree_of (xs ++ n ∷ ys)) n
  tree-middle xs ys n i at reads =
      let split = fold-append with_tree [] xs (n ∷ ys) in
      let long : length (trees xs) ≡ length xs = length-trees xs in
      let here : tree_in (fold with_tree (with_tree (trees xs) n) ys) i ≡ tree_over (tree_in (trees xs)) n =
      front_stays (with_tree (trees xs) n) ys i (omega (arith, length-append (trees xs) (tree_over (tree_in (trees xs)) n ∷ [])))
      ∙ rw (at, ← long) (get_or-append_seam (trees xs) (tree_over (tree_in (trees xs)) n) [] none) in
      let children : tree_over (tree_in (trees xs)) n ≡ tree_over (tree_in (fold with_tree (trees xs) (n ∷ ys))) n =
      reads _ _ (λ k h. sym (front_stays (trees xs) (n ∷ ys) k (omega arith))) in
      ap (λ ts. tree_in ts i) split ∙ here ∙ children ∙ ap (λ ts. tree_over (tree_in ts) n) (sym split)

  split_at : (ns : List N) (i : ℕ) (n : N) → slice_get ns i ≡ Some n → ns ≡ take i ns ++ n ∷ drop (suc i) ns
  split_at ns i n found =
      let inside = slice_get_within ns i n found in
      sym (take-append-drop i ns) ∙ ap (λ xs. take i ns ++ xs) (drop-cons ns i n inside ∙ ap (λ x. x ∷ drop (suc i) ns) (get_or_from_slice_get ns i n n found))

  -- a node's tree is made over the trees of its children
  pub tree_of-over_children : (ns : List N) (i : ℕ) (n : N) → ReadsBelow i n → slice_get ns i ≡ Some n → tree_of ns i ≡ tree_over (tree_of ns) n
  tree_of-over_children ns i n reads found =
      let inside = slice_get_within ns i n found in
      let front : length (take i ns) ≡ i = length-take-le i ns (omega arith) in
      let P : List N → Type 0 = λ ms. tree_of ms i ≡ tree_over (tree_of ms) n in
      subst P (sym (split_at ns i n found)) (tree-middle (take i ns) (drop (suc i) ns) n i (sym front) reads)
