-- How many rows a tree has.
use Rattle.std.proofs.Common.{◌≡◌, ◌∙◌, ◌≤◌, ℕ, zero, suc, ◌+◌, ◌-◌, ◌*◌, max, List, [], ◌∷◌, ◌++◌, length, Bool, true, false, cond}
use Rattle.std.proofs.Common.{Option, Some, None, refl, sym, ap, arith, leb-true}
use Rattle.std.specs.Prelude.{nat_le}
use Rattle.std.proofs.lemmas.List.{length-append}
use Rattle.std.proofs.Math.Nat.{suc-mul, zero-mul, add-mul, mul-le-mul_right, mul_left_comm, mul-add}
use Rattle.rng_model.specs.regexes.Expressions.{Regex, nothing_more, one_of, both, either, times}
use Rattle.rng_model.specs.regexes.Sizes.{size, most_copies}
use Rattle.xsd_positions.specs.declared.drafts.Kind.TheVariants as kind
use Rattle.xsd_positions.specs.plain.Trees as tree
use Rattle.xsd_positions.specs.plain.Trees.{Tree}
use Rattle.xsd_positions.specs.plain.TreeRows.{classes_in, tree_copies, tree_at_most, tree_counted, tree_of, rows_of, root}

-- one more row behind one part, and behind two
pub one_behind : {A : Type 0} (xs : List A) (x : A) → length (xs ++ x ∷ []) ≡ length xs + 1
one_behind xs x = length-append xs (x ∷ [])

pub two_behind : {A : Type 0} (xs ys : List A) (x : A) → length (xs ++ (ys ++ x ∷ [])) ≡ length xs + length ys + 1
two_behind xs ys x = let e = length-append xs (ys ++ x ∷ []) in let f = one_behind ys x in omega arith

pub rows_root : (n : ℕ) (t : Tree) → n + length (rows_of t) ≡ suc (root n t)
unfolding rows_of root
rows_root n tree.nothing = omega arith
rows_root n (tree.class c) = omega arith
rows_root n tree.never = omega arith
rows_root n (tree.both a b) =
    let e = two_behind (rows_of a) (rows_of b) kind.Both in let p = rows_root n a in let q = rows_root (suc (root n a)) b in omega arith
rows_root n (tree.either a b) =
    let e = two_behind (rows_of a) (rows_of b) kind.Either in let p = rows_root n a in let q = rows_root (suc (root n a)) b in omega arith
rows_root n (tree.optional a) = let e = one_behind (rows_of a) kind.Optional in let p = rows_root n a in omega arith
rows_root n (tree.repeated a) = let e = one_behind (rows_of a) kind.Repeated in let p = rows_root n a in omega arith

pub root_least : (n : ℕ) (t : Tree) → n ≤ root n t
unfolding root
root_least n tree.nothing = omega arith
root_least n (tree.class c) = omega arith
root_least n tree.never = omega arith
root_least n (tree.both a b) = let p = root_least n a in let q = root_least (suc (root n a)) b in omega arith
root_least n (tree.either a b) = let p = root_least n a in let q = root_least (suc (root n a)) b in omega arith
root_least n (tree.optional a) = let p = root_least n a in omega arith
root_least n (tree.repeated a) = let p = root_least n a in omega arith

-- ---- counts

module _ (a : Tree) (k : ℕ) where
  copies_fit : length (rows_of a) + 1 ≤ k → (n : ℕ) (rest : Tree) → length (rows_of (tree_copies n a rest)) ≤ n * k + length (rows_of rest)
  unfolding rows_of tree_copies
  copies_fit l zero rest = rw zero-mul (omega arith)
  copies_fit l (suc n) rest =
      let e = two_behind (rows_of a) (rows_of (tree_copies n a rest)) kind.Both in
      let h = copies_fit l n rest in
      rw suc-mul (omega arith)

  most_fit : length (rows_of a) + 2 ≤ k → (n : ℕ) → length (rows_of (tree_at_most n a)) ≤ n * k + 1
  unfolding rows_of tree_at_most
  most_fit l zero = rw zero-mul (omega arith)
  most_fit l (suc n) =
      let e = two_behind (rows_of a) (rows_of (tree_at_most n a)) kind.Both in
      let f = one_behind (rows_of a ++ (rows_of (tree_at_most n a) ++ kind.Both ∷ [])) kind.Optional in
      let h = most_fit l n in
      rw suc-mul (omega arith)

  up_to_fits : length (rows_of a) + 2 ≤ k → (b : Bool) (n m : ℕ) → nat_le n m ≡ b
      → length (rows_of (cond b (tree_copies n a (tree_at_most (m - n) a)) tree.never)) ≤ m * k + 1
  unfolding rows_of
  up_to_fits l false n m e = omega arith
  up_to_fits l true n m e =
      let fits : n ≤ m = leb-true n m e in
      let p = copies_fit (omega arith) n (tree_at_most (m - n) a) in
      let q = most_fit l (m - n) in
      let sum : n * k + (m - n) * k ≡ m * k = sym (add-mul n (m - n) k) ∙ ap (λ i. i * k) (omega arith) in
      omega arith

  counted_fits : length (rows_of a) + 2 ≤ k → (n : ℕ) (m : Option ℕ) → length (rows_of (tree_counted n m a)) ≤ most_copies n m * k + 1
  unfolding rows_of
  counted_fits l n None =
      let p = copies_fit (omega arith) n (tree.repeated a) in
      let e = one_behind (rows_of a) kind.Repeated in
      rw suc-mul (omega arith)
  counted_fits l n (Some m) =
      let p = up_to_fits l (nat_le n m) n m refl in
      let q : m * k ≤ max m 1 * k = mul-le-mul_right k (omega arith) in
      omega arith

-- ---- expressions

times_three : (m n : ℕ) → m * (3 * n) + 3 ≡ 3 * suc (m * n)
times_three m n = let e = mul_left_comm m 3 n in omega (arith, mul-add 3 (m * n) 1)

pub rows_fit : (c : ℕ) (r : Regex) → length (rows_of (tree_of c r)) + 2 ≤ 3 * size r
unfolding rows_of tree_of size
rows_fit c nothing_more = omega arith
rows_fit c (one_of k) = omega arith
rows_fit c (both a b) =
    let d = c + length (classes_in a) in
    let e = two_behind (rows_of (tree_of c a)) (rows_of (tree_of d b)) kind.Both in
    let p = rows_fit c a in let q = rows_fit d b in omega arith
rows_fit c (either a b) =
    let d = c + length (classes_in a) in
    let e = two_behind (rows_of (tree_of c a)) (rows_of (tree_of d b)) kind.Either in
    let p = rows_fit c a in let q = rows_fit d b in omega arith
rows_fit c (times n m a) =
    let p = counted_fits (tree_of c a) (3 * size a) (rows_fit c a) n m in
    let e = times_three (most_copies n m) (size a) in
    omega arith

-- the size of a part is at most that of the part with a count
pub part_fits : (n : ℕ) (m : Option ℕ) (k : ℕ) → k ≤ most_copies n m * k
part_fits n None k = rw suc-mul (omega arith)
part_fits n (Some m) k = let q : 1 * k ≤ max m 1 * k = mul-le-mul_right k (omega arith) in omega arith

-- each class is written at least once
pub classes_fit : (r : Regex) → length (classes_in r) ≤ size r
unfolding classes_in size
classes_fit nothing_more = omega arith
classes_fit (one_of k) = omega arith
classes_fit (both a b) = let e = length-append (classes_in a) (classes_in b) in let p = classes_fit a in let q = classes_fit b in omega arith
classes_fit (either a b) = let e = length-append (classes_in a) (classes_in b) in let p = classes_fit a in let q = classes_fit b in omega arith
classes_fit (times n m a) = let p = classes_fit a in let q = part_fits n m (size a) in omega arith
