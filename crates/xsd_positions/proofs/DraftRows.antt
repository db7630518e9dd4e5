-- The rows of an expression are written out into the rows of its tree, exactly if it is not too large.
use Rattle.std.proofs.Common.{◌≡◌, ◌≤◌, ◌<◌, ◌∙◌, ℕ, zero, suc, ◌+◌, ◌-◌, ◌*◌, List, [], ◌∷◌, ◌++◌, length, Bool, true, false, cond}
use Rattle.std.proofs.Common.{Option, Some, None, refl, sym, ap, arith, le-leb, leb-true, inl, inr}
use Rattle.std.specs.Prelude.{nat_le}
use Rattle.std.specs.Option.{option_and_then}
use Rattle.std.proofs.lemmas.Bool.{cases_lt, lt-leb}
use Rattle.std.proofs.lemmas.List.{append_assoc, append-nil, length-append, take_at, drop_at}
use Rattle.rng_model.specs.regexes.Expressions.{Class, Regex, nothing_more, one_of, both, either, times}
use Rattle.rng_model.specs.regexes.plain.Postfix.{nothing_row, class_row, both_row, either_row, times_row, Row, postfix}
use Rattle.rng_model.specs.regexes.Sizes.{size, most_copies, most_size}
use Rattle.xsd_positions.specs.declared.drafts.Kind.{Kind}
use Rattle.xsd_positions.specs.declared.drafts.Kind.TheVariants as kind
use Rattle.xsd_positions.specs.plain.Trees as tree
use Rattle.xsd_positions.specs.plain.Trees.{Tree}
use Rattle.xsd_positions.specs.plain.TreeRows.{classes_in, tree_copies, tree_at_most, tree_counted, tree_of, rows_of}
use Rattle.xsd_positions.specs.plain.Folds.{folded}
use Rattle.xsd_positions.specs.plain.Drafts.{Draft, total_of, with_block, with_leaf, with_class, with_pair, with_count, with_row}
use Rattle.xsd_positions.specs.plain.Drafts.{copied, rows_counted, counted_from}
use Rattle.xsd_positions.proofs.TreeSizes.{classes_fit, part_fits}

-- ---- rows with a count

copied_first : {A : Type 0} (n : ℕ) (xs : List A) → xs ++ copied n xs ≡ copied n xs ++ xs
unfolding copied
copied_first zero xs = append-nil xs
copied_first (suc n) xs = sym (append_assoc xs (copied n xs) xs) ∙ ap (λ l. l ++ xs) (copied_first n xs)

copied_sum : {A : Type 0} (n m k : ℕ) (xs : List A) → n + m ≡ k → copied n xs ++ copied m xs ≡ copied k xs
unfolding copied
copied_sum n zero k xs e = let same : n ≡ k = omega arith in append-nil (copied n xs) ∙ ap (λ i. copied i xs) same
copied_sum n (suc m) zero xs e = absurd (omega arith)
copied_sum n (suc m) (suc k) xs e =
    sym (append_assoc (copied n xs) (copied m xs) xs) ∙ ap (λ l. l ++ xs) (copied_sum n m k xs (omega arith))

module _ (a : Tree) where
  abbrev part : List Kind
  part = rows_of a

  copies_rows : (n : ℕ) (rest : Tree) → rows_of (tree_copies n a rest) ≡ copied n part ++ (rows_of rest ++ copied n (kind.Both ∷ []))
  unfolding rows_of tree_copies copied
  copies_rows zero rest = sym (append-nil (rows_of rest))
  copies_rows (suc n) rest =
      let h = copies_rows n rest in
      let f = copied_first n part in
      rw (h, ← f) (simp append_assoc)

  most_rows : (n : ℕ) → rows_of (tree_at_most n a) ≡ copied n part ++ (kind.Nothing ∷ copied n (kind.Both ∷ kind.Optional ∷ []))
  unfolding rows_of tree_at_most copied
  most_rows zero = refl
  most_rows (suc n) =
      let h = most_rows n in
      let f = copied_first n part in
      rw (h, ← f) (simp append_assoc)

  up_to_rows : (b : Bool) (n m : ℕ) → nat_le n m ≡ b
      → cond b (copied m part ++ (kind.Nothing ∷ (copied (m - n) (kind.Both ∷ kind.Optional ∷ []) ++ copied n (kind.Both ∷ [])))) (kind.Never ∷ [])
      ≡ rows_of (cond b (tree_copies n a (tree_at_most (m - n) a)) tree.never)
  unfolding rows_of
  up_to_rows false n m e = refl
  up_to_rows true n m e =
      let fits : n ≤ m = leb-true n m e in
      let s = copied_sum n (m - n) m part (omega arith) in
      rw (copies_rows n (tree_at_most (m - n) a), most_rows (m - n), ← s) (simp append_assoc)

  counted_rows : (n : ℕ) (m : Option ℕ) → rows_counted n m part ≡ rows_of (tree_counted n m a)
  unfolding rows_of copied
  counted_rows n None = rw (copies_rows n (tree.repeated a)) (simp append_assoc)
  counted_rows n (Some m) = up_to_rows (nat_le n m) n m refl

-- ---- an expression behind a draft

abbrev pub pushed : Regex → Draft → Draft
pushed r d = record {
  rows = d.rows ++ rows_of (tree_of (length d.classes) r);
  classes = d.classes ++ classes_in r;
  blocks = record { start = length d.rows; size = size r; total = total_of d.blocks + size r } ∷ d.blocks;
}

-- one row that makes a block of its parts
abbrev block_put : ℕ → ℕ → Draft → Draft
block_put start n d =
    record { rows = d.rows; classes = d.classes; blocks = record { start = start; size = n; total = total_of d.blocks + n } ∷ d.blocks }

block_fits : (start n : ℕ) (d : Draft) → total_of d.blocks + n ≤ most_size → with_block start n d ≡ Some (block_put start n d)
block_fits start n d l = rw (le-leb (total_of d.blocks + n) most_size l) refl

block_too_large : (start n : ℕ) (d : Draft) → most_size < total_of d.blocks + n → with_block start n d ≡ None
block_too_large start n d l = rw (lt-leb (total_of d.blocks + n) most_size l) refl

goes : (row : Row) (rest : List Row) (d e : Draft) → with_row row d ≡ Some e → folded with_row (row ∷ rest) d ≡ folded with_row rest e
unfolding folded
goes row rest d e h = ap (option_and_then (folded with_row rest)) h

gone : (row : Row) (rest : List Row) (d : Draft) → with_row row d ≡ None → folded with_row (row ∷ rest) d ≡ None
unfolding folded
gone row rest d h = ap (option_and_then (folded with_row rest)) h

-- the classes are no more than the size
abbrev pub HasFewClasses : Draft → Type 0
HasFewClasses d = length d.classes ≤ total_of d.blocks

few_more : (r : Regex) (d : Draft) → HasFewClasses d → HasFewClasses (pushed r d)
few_more r d few = let e = length-append d.classes (classes_in r) in let f = classes_fit r in omega arith

class_fits : (k : Class) (d : Draft) → HasFewClasses d → total_of d.blocks + 1 ≤ most_size → with_class k d ≡ Some (pushed (one_of k) d)
unfolding rows_of tree_of classes_in size
class_fits k d few l =
    let under : length d.classes < most_size = omega arith in
    rw (lt-leb most_size (length d.classes) under)
    (block_fits (length d.rows) 1 (record { rows = d.rows ++ kind.OneOf (length d.classes) ∷ []; classes = d.classes ++ k ∷ []; blocks = d.blocks }) l)

class_too_large : (b : Bool) (k : Class) (d : Draft) → most_size < total_of d.blocks + 1 → cond b None (with_leaf (kind.OneOf (length d.classes))
    (record { rows = d.rows; classes = d.classes ++ k ∷ []; blocks = d.blocks })) ≡ None
class_too_large true k d l = refl
class_too_large false k d l =
    block_too_large (length d.rows) 1 (record { rows = d.rows ++ kind.OneOf (length d.classes) ∷ []; classes = d.classes ++ k ∷ []; blocks = d.blocks }) l

module _ (a b : Regex) (d : Draft) (k : Kind) where
  abbrev joined : Draft
  joined = record { rows = (pushed b (pushed a d)).rows ++ k ∷ []; classes = (pushed b (pushed a d)).classes; blocks = d.blocks }

  abbrev pair_rows : List Kind
  pair_rows = rows_of (tree_of (length d.classes) a) ++ (rows_of (tree_of (length d.classes + length (classes_in a)) b) ++ k ∷ [])

  pair_put : block_put (length d.rows) (size a + size b) joined ≡ record {
    rows = d.rows ++ pair_rows;
    classes = d.classes ++ (classes_in a ++ classes_in b);
    blocks = record { start = length d.rows; size = size a + size b; total = total_of d.blocks + (size a + size b) } ∷ d.blocks;
  }
  pair_put = rw (length-append d.classes (classes_in a)) (simp append_assoc)

  pair_fits : total_of d.blocks + (size a + size b) ≤ most_size
      → with_pair k (pushed b (pushed a d)).blocks (pushed b (pushed a d)) ≡ Some (block_put (length d.rows) (size a + size b) joined)
  pair_fits l = block_fits (length d.rows) (size a + size b) joined l

  pair_too_large : most_size < total_of d.blocks + (size a + size b) → with_pair k (pushed b (pushed a d)).blocks (pushed b (pushed a d)) ≡ None
  pair_too_large l = block_too_large (length d.rows) (size a + size b) joined l

-- the rows of a part with a count
module _ (n : ℕ) (m : Option ℕ) (a : Regex) (d : Draft) where
  abbrev with_counted : Draft
  with_counted = record { rows = counted_from (length d.rows) n m (pushed a d).rows; classes = (pushed a d).classes; blocks = d.blocks }

  abbrev counted_size : ℕ
  counted_size = suc (most_copies n m * size a)

  counted_put : block_put (length d.rows) counted_size with_counted ≡ record {
    rows = d.rows ++ rows_of (tree_counted n m (tree_of (length d.classes) a));
    classes = d.classes ++ classes_in a;
    blocks = record { start = length d.rows; size = counted_size; total = total_of d.blocks + counted_size } ∷ d.blocks;
  }
  counted_put =
      let xs = rows_of (tree_of (length d.classes) a) in
      rw (take_at d.rows xs (length d.rows) refl, drop_at d.rows xs (length d.rows) refl, counted_rows (tree_of (length d.classes) a) n m) refl

  count_fits : total_of d.blocks + counted_size ≤ most_size
      → with_count n m (pushed a d).blocks (pushed a d) ≡ Some (block_put (length d.rows) counted_size with_counted)
  count_fits l = block_fits (length d.rows) counted_size with_counted l

  count_too_large : most_size < total_of d.blocks + counted_size → with_count n m (pushed a d).blocks (pushed a d) ≡ None
  count_too_large l = block_too_large (length d.rows) counted_size with_counted l

-- ---- the rows of an expression

pair_postfix : (xs ys rest : List Row) (row : Row) → (xs ++ (ys ++ row ∷ [])) ++ rest ≡ xs ++ (ys ++ (row ∷ rest))
pair_postfix xs ys rest row = simp append_assoc

pub fits : (r : Regex) (d : Draft) (rest : List Row) → HasFewClasses d → total_of d.blocks + size r ≤ most_size
    → folded with_row (postfix r ++ rest) d ≡ folded with_row rest (pushed r d)
unfolding postfix size classes_in tree_of rows_of
fits nothing_more d rest few l =
    goes nothing_row rest d (pushed nothing_more d)
    (block_fits (length d.rows) 1 (record { rows = d.rows ++ kind.Nothing ∷ []; classes = d.classes; blocks = d.blocks }) l
    ∙ rw append-nil refl)
fits (one_of k) d rest few l = goes (class_row k) rest d (pushed (one_of k) d) (class_fits k d few l)
fits (both a b) d rest few l =
    let few_a = few_more a d few in
    ap (λ rows. folded with_row rows d) (pair_postfix (postfix a) (postfix b) rest both_row)
    ∙ fits a d (postfix b ++ (both_row ∷ rest)) few (omega arith)
    ∙ fits b (pushed a d) (both_row ∷ rest) few_a (omega arith)
    ∙ goes both_row rest (pushed b (pushed a d)) (pushed (both a b) d) (pair_fits a b d kind.Both l ∙ ap Some (pair_put a b d kind.Both))
fits (either a b) d rest few l =
    let few_a = few_more a d few in
    ap (λ rows. folded with_row rows d) (pair_postfix (postfix a) (postfix b) rest either_row)
    ∙ fits a d (postfix b ++ (either_row ∷ rest)) few (omega arith)
    ∙ fits b (pushed a d) (either_row ∷ rest) few_a (omega arith)
    ∙ goes either_row rest (pushed b (pushed a d)) (pushed (either a b) d) (pair_fits a b d kind.Either l ∙ ap Some (pair_put a b d kind.Either))
fits (times n m a) d rest few l =
    let q = part_fits n m (size a) in
    ap (λ rows. folded with_row rows d) (append_assoc (postfix a) (times_row n m ∷ []) rest)
    ∙ fits a d (times_row n m ∷ rest) few (omega arith)
    ∙ goes (times_row n m) rest (pushed a d) (pushed (times n m a) d) (count_fits n m a d l ∙ ap Some (counted_put n m a d))

pub too_large : (r : Regex) (d : Draft) (rest : List Row) → HasFewClasses d → most_size < total_of d.blocks + size r
    → folded with_row (postfix r ++ rest) d ≡ None
unfolding postfix size classes_in tree_of rows_of
too_large nothing_more d rest few l =
    gone nothing_row rest d (block_too_large (length d.rows) 1 (record { rows = d.rows ++ kind.Nothing ∷ []; classes = d.classes; blocks = d.blocks }) l)
too_large (one_of k) d rest few l = gone (class_row k) rest d (class_too_large (nat_le most_size (length d.classes)) k d l)
too_large (both a b) d rest few l =
    ap (λ rows. folded with_row rows d) (pair_postfix (postfix a) (postfix b) rest both_row)
    ∙ elim (cases_lt most_size (total_of d.blocks + size a)) [
      | inl large ↦ too_large a d (postfix b ++ (both_row ∷ rest)) few large
      | inr small ↦ fits a d (postfix b ++ (both_row ∷ rest)) few small ∙ too_large b (pushed a d) (both_row ∷ rest) (few_more a d few) (omega arith)
    ]
too_large (either a b) d rest few l =
    ap (λ rows. folded with_row rows d) (pair_postfix (postfix a) (postfix b) rest either_row)
    ∙ elim (cases_lt most_size (total_of d.blocks + size a)) [
      | inl large ↦ too_large a d (postfix b ++ (either_row ∷ rest)) few large
      | inr small ↦ fits a d (postfix b ++ (either_row ∷ rest)) few small ∙ too_large b (pushed a d) (either_row ∷ rest) (few_more a d few) (omega arith)
    ]
too_large (times n m a) d rest few l =
    ap (λ rows. folded with_row rows d) (append_assoc (postfix a) (times_row n m ∷ []) rest)
    ∙ elim (cases_lt most_size (total_of d.blocks + size a)) [
      | inl large ↦ too_large a d (times_row n m ∷ rest) few large
      | inr small ↦ fits a d (times_row n m ∷ rest) few small ∙ gone (times_row n m) rest (pushed a d) (count_too_large n m a d l)
    ]
