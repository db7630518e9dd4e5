-- The rows of a tree get the numbers of their first parts.
use Rattle.std.proofs.Common.{◌≡◌, ◌≤◌, ◌∙◌, ℕ, suc, ◌+◌, List, [], ◌∷◌, ◌++◌, length, Bool, true, false, ◌&&◌, ◌||◌}
use Rattle.std.proofs.Common.{Some, refl, ap, arith, le-leb}
use Rattle.std.specs.Option.{option_and_then}
use Rattle.std.proofs.lemmas.List.{append_assoc, length-append}
use Rattle.xsd_positions.specs.declared.drafts.Kind.{Kind}
use Rattle.xsd_positions.specs.declared.drafts.Kind.TheVariants as kind
use Rattle.xsd_positions.specs.declared.links.Root.{Root}
use Rattle.xsd_positions.specs.declared.position.Part.{Part}
use Rattle.xsd_positions.specs.declared.position.Part.TheVariants as part
use Rattle.xsd_positions.specs.plain.Folds.{folded}
use Rattle.xsd_positions.specs.plain.Trees as tree
use Rattle.xsd_positions.specs.plain.Trees.{Tree}
use Rattle.xsd_positions.specs.plain.TreeRows.{rows_of, root, is_nullable}
use Rattle.xsd_positions.specs.plain.Links.{Links, with_part, with_kind, position, tree_links}
use Rattle.xsd_positions.proofs.TreeSizes.{one_behind, two_behind, rows_root}

pub links_root : (n : ℕ) (t : Tree) → n + length (tree_links n t) ≡ suc (root n t)
unfolding tree_links root
links_root n tree.nothing = omega arith
links_root n (tree.class c) = omega arith
links_root n tree.never = omega arith
links_root n (tree.both a b) =
    let m = suc (root n a) in
    let e = two_behind (tree_links n a) (tree_links m b) (position (part.Both (root n a)) 0 (is_nullable a && is_nullable b)) in
    let p = links_root n a in let q = links_root m b in omega arith
links_root n (tree.either a b) =
    let m = suc (root n a) in
    let e = two_behind (tree_links n a) (tree_links m b) (position (part.Either (root n a)) 0 (is_nullable a || is_nullable b)) in
    let p = links_root n a in let q = links_root m b in omega arith
links_root n (tree.optional a) = let e = one_behind (tree_links n a) (position part.Optional 0 true) in let p = links_root n a in omega arith
links_root n (tree.repeated a) = let e = one_behind (tree_links n a) (position part.Repeated 0 true) in let p = links_root n a in omega arith

-- a tree behind the links, of which the first row has this number
abbrev pub behind : ℕ → Tree → Links → Links
behind n t l = record {
  positions = l.positions ++ tree_links n t;
  roots = record { number = root n t; is_nullable = is_nullable t } ∷ l.roots;
}

-- its number of positions
behind_length : (n : ℕ) (t : Tree) (l : Links) → length l.positions ≡ n → length (behind n t l).positions ≡ suc (root n t)
behind_length n t l e = let f = length-append l.positions (tree_links n t) in let p = links_root n t in omega arith

goes : (k : Kind) (rest : List Kind) (l m : Links) → with_kind k l ≡ Some m → folded with_kind (k ∷ rest) l ≡ folded with_kind rest m
unfolding folded
goes k rest l m h = ap (option_and_then (folded with_kind rest)) h

abbrev put : Part → Bool → List Root → Links → ℕ → Links
put p e rs l n = record { positions = l.positions ++ position p 0 e ∷ []; roots = record { number = n; is_nullable = e } ∷ rs }

part_fits : (p : Part) (e : Bool) (rs : List Root) (l : Links) (n : ℕ) → length l.positions ≡ n → n ≤ 0xFFFF → with_part p e rs l ≡ Some (put p e rs l n)
part_fits p e rs l n is fits = rw (is, le-leb n 0xFFFF fits) refl

pair_rows : (xs ys rest : List Kind) (k : Kind) → (xs ++ (ys ++ k ∷ [])) ++ rest ≡ xs ++ (ys ++ (k ∷ rest))
pair_rows xs ys rest k = simp append_assoc

pub linked_tree : (t : Tree) (l : Links) (rest : List Kind) (n : ℕ) → length l.positions ≡ n → root n t ≤ 0xFFFF
    → folded with_kind (rows_of t ++ rest) l ≡ folded with_kind rest (behind n t l)
unfolding rows_of tree_links root is_nullable
linked_tree tree.nothing l rest n e few = goes kind.Nothing rest l (behind n tree.nothing l) (part_fits part.Nothing true l.roots l n e few)
linked_tree (tree.class c) l rest n e few = goes (kind.OneOf c) rest l (behind n (tree.class c) l) (part_fits (part.OneOf c) false l.roots l n e few)
linked_tree tree.never l rest n e few = goes kind.Never rest l (behind n tree.never l) (part_fits part.Never false l.roots l n e few)
linked_tree (tree.both a b) l rest n e few =
    let m = suc (root n a) in
    let after_a = behind n a l in
    let after_b = behind m b after_a in
    let q = rows_root m b in
    ap (λ ks. folded with_kind ks l) (pair_rows (rows_of a) (rows_of b) rest kind.Both)
    ∙ linked_tree a l (rows_of b ++ (kind.Both ∷ rest)) n e (omega arith)
    ∙ linked_tree b after_a (kind.Both ∷ rest) m (behind_length n a l e) (omega arith)
    ∙ goes kind.Both rest after_b (behind n (tree.both a b) l)
    (part_fits (part.Both (root n a)) (is_nullable a && is_nullable b) l.roots after_b (suc (root m b))
    (behind_length m b after_a (behind_length n a l e)) few
    ∙ simp append_assoc)
linked_tree (tree.either a b) l rest n e few =
    let m = suc (root n a) in
    let after_a = behind n a l in
    let after_b = behind m b after_a in
    let q = rows_root m b in
    ap (λ ks. folded with_kind ks l) (pair_rows (rows_of a) (rows_of b) rest kind.Either)
    ∙ linked_tree a l (rows_of b ++ (kind.Either ∷ rest)) n e (omega arith)
    ∙ linked_tree b after_a (kind.Either ∷ rest) m (behind_length n a l e) (omega arith)
    ∙ goes kind.Either rest after_b (behind n (tree.either a b) l)
    (part_fits (part.Either (root n a)) (is_nullable a || is_nullable b) l.roots after_b (suc (root m b))
    (behind_length m b after_a (behind_length n a l e)) few
    ∙ simp append_assoc)
linked_tree (tree.optional a) l rest n e few =
    ap (λ ks. folded with_kind ks l) (append_assoc (rows_of a) (kind.Optional ∷ []) rest)
    ∙ linked_tree a l (kind.Optional ∷ rest) n e (omega arith)
    ∙ goes kind.Optional rest (behind n a l) (behind n (tree.optional a) l)
    (part_fits part.Optional true l.roots (behind n a l) (suc (root n a)) (behind_length n a l e) few ∙ simp append_assoc)
linked_tree (tree.repeated a) l rest n e few =
    ap (λ ks. folded with_kind ks l) (append_assoc (rows_of a) (kind.Repeated ∷ []) rest)
    ∙ linked_tree a l (kind.Repeated ∷ rest) n e (omega arith)
    ∙ goes kind.Repeated rest (behind n a l) (behind n (tree.repeated a) l)
    (part_fits part.Repeated true l.roots (behind n a l) (suc (root n a)) (behind_length n a l e) few ∙ simp append_assoc)
