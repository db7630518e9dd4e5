-- The positions of a tree get the numbers of what is behind them.
use Rattle.std.proofs.Common.{◌≡◌, ◌∙◌, ℕ, suc, ◌+◌, List, [], ◌∷◌, ◌++◌, length, reverse, true, false, ◌&&◌, ◌||◌}
use Rattle.std.proofs.Common.{Some, refl, sym, ap, arith}
use Rattle.std.specs.Option.{option_and_then}
use Rattle.std.proofs.lemmas.List.{append_assoc, length-append, length-reverse, reverse-append}
use Rattle.xsd_positions.specs.declared.position.Part.TheVariants as part
use Rattle.xsd_positions.specs.declared.position.Position.{Position}
use Rattle.xsd_positions.specs.plain.Trees as tree
use Rattle.xsd_positions.specs.plain.Trees.{Tree}
use Rattle.xsd_positions.specs.plain.TreeRows.{root, is_nullable}
use Rattle.xsd_positions.specs.plain.Links.{position, tree_links}
use Rattle.xsd_positions.specs.plain.Places.{behind_both, behind_parts, placed, tree_places}
use Rattle.xsd_positions.proofs.TreeSizes.{one_behind, two_behind}
use Rattle.xsd_positions.proofs.LinkedRows.{links_root}

one_reversed : (xs left : List Position) (p : Position) → reverse (xs ++ p ∷ []) ++ left ≡ p ∷ (reverse xs ++ left)
one_reversed xs left p = ap (λ l. l ++ left) (reverse-append xs (p ∷ []))

two_reversed : (xs ys left : List Position) (p : Position) → reverse (xs ++ (ys ++ p ∷ [])) ++ left ≡ p ∷ (reverse ys ++ (reverse xs ++ left))
two_reversed xs ys left p =
    ap (λ l. reverse l ++ left) (sym (append_assoc xs ys (p ∷ [])))
    ∙ one_reversed (xs ++ ys) left p
    ∙ ap (λ l. p ∷ (l ++ left)) (reverse-append xs ys)
    ∙ ap (λ l. p ∷ l) (append_assoc (reverse ys) (reverse xs) left)

step : (p : Position) (left : List Position) (x : ℕ) (ns ms : List ℕ) (done : List Position) → behind_parts p.part (length left) x ns ≡ Some ms
    → placed (p ∷ left) (x ∷ ns) done ≡ placed left ms (position p.part x p.is_nullable ∷ done)
unfolding placed
step p left x ns ms done e = ap (option_and_then (λ ms. placed left ms (position p.part x p.is_nullable ∷ done))) e

-- the number of the position behind a tree that is left
left_length : (n : ℕ) (t : Tree) (left : List Position) → length left ≡ n → length (reverse (tree_links n t) ++ left) ≡ suc (root n t)
left_length n t left e =
    let a = length-append (reverse (tree_links n t)) left in
    let r = length-reverse (tree_links n t) in
    let p = links_root n t in
    omega arith

pub placed_tree : (t : Tree) (n x : ℕ) (left : List Position) (ns : List ℕ) (done : List Position) → length left ≡ n
    → placed (reverse (tree_links n t) ++ left) (x ∷ ns) done ≡ placed left ns (tree_places n x t ++ done)
unfolding tree_links tree_places
placed_tree tree.nothing n x left ns done e = step (position part.Nothing 0 true) left x ns ns done refl
placed_tree (tree.class c) n x left ns done e = step (position (part.OneOf c) 0 false) left x ns ns done refl
placed_tree tree.never n x left ns done e = step (position part.Never 0 false) left x ns ns done refl
placed_tree (tree.both a b) n x left ns done e =
    let m = suc (root n a) in
    let l = root n a in
    let i = root m b in
    let v = is_nullable a && is_nullable b in
    let here = position (part.Both l) 0 v in
    let there = position (part.Both l) x v in
    let at_b = left_length n a left e in
    ap (λ ps. placed ps (x ∷ ns) done) (two_reversed (tree_links n a) (tree_links m b) left here)
    ∙ step here (reverse (tree_links m b) ++ (reverse (tree_links n a) ++ left)) x ns (x ∷ i ∷ ns) done
    (ap (λ k. behind_both k x ns) (left_length m b (reverse (tree_links n a) ++ left) at_b))
    ∙ placed_tree b m x (reverse (tree_links n a) ++ left) (i ∷ ns) (there ∷ done) at_b
    ∙ placed_tree a n i left ns (tree_places m x b ++ (there ∷ done)) e
    ∙ ap (placed left ns) (simp append_assoc)
placed_tree (tree.either a b) n x left ns done e =
    let m = suc (root n a) in
    let l = root n a in
    let v = is_nullable a || is_nullable b in
    let here = position (part.Either l) 0 v in
    let there = position (part.Either l) x v in
    let at_b = left_length n a left e in
    ap (λ ps. placed ps (x ∷ ns) done) (two_reversed (tree_links n a) (tree_links m b) left here)
    ∙ step here (reverse (tree_links m b) ++ (reverse (tree_links n a) ++ left)) x ns (x ∷ x ∷ ns) done refl
    ∙ placed_tree b m x (reverse (tree_links n a) ++ left) (x ∷ ns) (there ∷ done) at_b
    ∙ placed_tree a n x left ns (tree_places m x b ++ (there ∷ done)) e
    ∙ ap (placed left ns) (simp append_assoc)
placed_tree (tree.optional a) n x left ns done e =
    let here = position part.Optional 0 true in
    let there = position part.Optional x true in
    ap (λ ps. placed ps (x ∷ ns) done) (one_reversed (tree_links n a) left here)
    ∙ step here (reverse (tree_links n a) ++ left) x ns (x ∷ ns) done refl
    ∙ placed_tree a n x left ns (there ∷ done) e
    ∙ ap (placed left ns) (simp append_assoc)
placed_tree (tree.repeated a) n x left ns done e =
    let here = position part.Repeated 0 true in
    let there = position part.Repeated x true in
    let i = suc (root n a) in
    ap (λ ps. placed ps (x ∷ ns) done) (one_reversed (tree_links n a) left here)
    ∙ step here (reverse (tree_links n a) ++ left) x ns (i ∷ ns) done (ap (λ k. Some (k ∷ ns)) (left_length n a left e))
    ∙ placed_tree a n i left ns (there ∷ done) e
    ∙ ap (placed left ns) (simp append_assoc)

-- how many positions a tree has
pub places_root : (t : Tree) (n x : ℕ) → n + length (tree_places n x t) ≡ suc (root n t)
unfolding tree_places root
places_root tree.nothing n x = omega arith
places_root (tree.class c) n x = omega arith
places_root tree.never n x = omega arith
places_root (tree.both a b) n x =
    let m = suc (root n a) in
    let e = two_behind (tree_places n (root m b) a) (tree_places m x b) (position (part.Both (root n a)) x (is_nullable a && is_nullable b)) in
    let p = places_root a n (root m b) in let q = places_root b m x in omega arith
places_root (tree.either a b) n x =
    let m = suc (root n a) in
    let e = two_behind (tree_places n x a) (tree_places m x b) (position (part.Either (root n a)) x (is_nullable a || is_nullable b)) in
    let p = places_root a n x in let q = places_root b m x in omega arith
places_root (tree.optional a) n x = let e = one_behind (tree_places n x a) (position part.Optional x true) in let p = places_root a n x in omega arith
places_root (tree.repeated a) n x =
    let e = one_behind (tree_places n (suc (root n a)) a) (position part.Repeated x true) in let p = places_root a n (suc (root n a)) in omega arith
