-- The marked patterns of a table copied into a table of their own, one after the other.
use Rattle.std.proofs.Common.{◌≡◌, ◌⊎◌, ℕ, ◌+◌, ◌<◌, ◌≤◌, All, Bool, List, [], ◌∷◌, ◌++◌, length, map, slice_get, Some, refl, sym, ap, ◌∙◌, subst}
use Rattle.std.proofs.Common.{⊎_elim, arith}
use Rattle.std.proofs.Common.{length-append, inl, inr}
use Rattle.std.specs.List.{AllZip}
use Rattle.std.proofs.lemmas.Bool.{cases_lt}
use Rattle.std.proofs.lemmas.List.{get_or_append_left}
use Rattle.std.proofs.lemmas.List.Elements.{All-contains, All-head, All-map, All-tail}
use Rattle.std.proofs.lemmas.Option.{slice_get-get_or, slice_get_within, get_or_from_slice_get}
use Rattle.std.proofs.Math.Seq.{get_or-append_seam}
use Rattle.rng_model.specs.simple.Table.{Table}
use Rattle.rng_model.specs.simple.Tree.{Simple}
use Rattle.rng_deriv_table.specs.views.Node.{Node}
use Rattle.rng_deriv_table.specs.views.Node as node
use Rattle.rng_deriv_table.specs.views.PatternTable.{ArePartsBelow, IsNew, IsPatternTable}
use Rattle.rng_deriv_table.specs.plain.Reduced.{AreReduced}
use Rattle.rng_deriv_table.specs.plain.Selecting.{AreClosed, AreCopied, IsMarked, given_for, node_at, parts_of, renumbered}
use Rattle.rng_deriv_table.specs.views.Trees.{tree_of}
use Rattle.rng_deriv_table.specs.declared.pattern.PatternNumber.{PatternNumber}
use Rattle.rng_deriv_table.proofs.KnownFacts.{of_members}
use Rattle.rng_deriv_table.proofs.Renumbering.{parts_below, renumbered_below, renumbered_reduced, renumbered_tree, renumbered_twice, same_renumbered}
use Rattle.rng_deriv_table.proofs.Trees.{tree_of-over_parts, tree_of_pushed, tree_stays}

-- new numbers stay as more are given
pub given_stays : (given : List PatternNumber) (x : PatternNumber) (i : ℕ) → i < length given → given_for (given ++ x ∷ []) i ≡ given_for given i
given_stays given x i h = ap (λ (n : PatternNumber). n.0) (get_or_append_left given (x ∷ []) (record { 0 = 0 }) i h)

given_last : (given : List PatternNumber) (x : PatternNumber) → given_for (given ++ x ∷ []) (length given) ≡ x.0
given_last given x = ap (λ (n : PatternNumber). n.0) (get_or-append_seam given x [] (record { 0 = 0 }))

pub none_copied : (ns ms : List Node) (marks : List Bool) (given : List PatternNumber) → length ms ≡ 0 → length given ≡ 0 → AreCopied ns marks ms given
none_copied ns ms marks given empty none = record {
  inside = λ i h m. absurd (omega (arith, h, none));
  rising = λ i j l h m o. absurd (omega (arith, h, none));
  each = λ k h. absurd (omega (arith, h, empty));
  same = λ t i h m. absurd (omega (arith, h, none));
}

module _ (ns ms : List Node) (marks : List Bool) (given : List PatternNumber) (table : IsPatternTable ns) (fits : length given ≤ length ns)
    (copied : AreCopied ns marks ms given) where
  abbrev f : ℕ → ℕ
  f = given_for given

  -- the number of a copied pattern with its parts, as more are given
  still_renumbered : (x : PatternNumber) (i : ℕ) → i < length given
      → renumbered f (node_at ns i) ≡ renumbered (given_for (given ++ x ∷ [])) (node_at ns i)
  still_renumbered x i h = same_renumbered f (given_for (given ++ x ∷ [])) (node_at ns i) (λ k d inside.
      let low = parts_below ns table i (omega (arith, h, fits)) k d inside in sym (given_stays given x _ (omega (arith, low, h))))

  is_last : (x : PatternNumber) (i : ℕ) → i < length (given ++ x ∷ []) → length given ≤ i → i ≡ length given
  is_last x i h l = omega (arith, h, l, length-append given (x ∷ []))

  -- a pattern that is not marked is skipped
  pub passed_over : (x : PatternNumber) → (IsMarked marks (length given) → ⊥) → AreCopied ns marks ms (given ++ x ∷ [])
  passed_over x unmarked =
      let old : (i : ℕ) → i < length (given ++ x ∷ []) → IsMarked marks i → i < length given =
      λ i h m. ⊎_elim (λ l. l) (λ l. absurd (unmarked (subst (IsMarked marks) (is_last x i h l) m))) (cases_lt i (length given)) in
      record {
        inside = λ i h m. let l = old i h m in subst (λ k. k < length ms) (sym (given_stays given x i l)) (copied.inside i l m);
        rising = λ i j below h m o.
            let l = old j h o in
            let e = given_stays given x i (omega (arith, l, below)) in
            let g = given_stays given x j l in
            let up = copied.rising i j below l m o in
            omega (arith, e, g, up);
        each = λ k h.
            let c = copied.each k h in
            let l = c.1 in
            (c.0, omega (arith, l, length-append given (x ∷ [])), c.2, given_stays given x c.0 l ∙ c.3, c.4 ∙ still_renumbered x c.0 l);
        same = λ t i h m. let l = old i h m in ap (tree_of t ms) (given_stays given x i l) ∙ copied.same t i l m;
      }

  -- ---- a marked pattern is copied

  module _ (closed : AreClosed ns marks) (next : length given < length ns) (marked : IsMarked marks (length given)) where
    abbrev n : Node
    n = node_at ns (length given)

    there : slice_get ns (length given) ≡ Some n
    there = slice_get-get_or ns (length given) node.not_allowed next

    low : All (λ k. k < length given) (parts_of n)
    low = parts_below ns table (length given) next

    parts_marked : All (IsMarked marks) (parts_of n)
    parts_marked = closed.closed (length given) (omega arith) marked

    parts_same : (t : Table) → All (λ k. tree_of t ms (f k) ≡ tree_of t ns k) (parts_of n)
    parts_same t k d inside = copied.same t _ (low k d inside) (parts_marked k d inside)

    pub copy_below : ArePartsBelow (length ms) (renumbered f n)
    copy_below = renumbered_below f n (length given) (length ms) (table.falls (length given) n there)
        (λ k d inside. copied.inside _ (low k d inside) (parts_marked k d inside))
        (λ a b in_a in_b below. copied.rising a b below (All-contains (λ k. k < length given) (parts_of n) b low in_b)
        (All-contains (IsMarked marks) (parts_of n) a parts_marked in_a) (All-contains (IsMarked marks) (parts_of n) b parts_marked in_b))

    pub copy_reduced : (t : Table) → AreReduced (tree_of t ms) (renumbered f n)
    copy_reduced t = renumbered_reduced f (tree_of t ns) (tree_of t ms) n (parts_same t) (table.reduced t (length given) n there)

    -- back from a new number to the number that it is for
    abbrev back : ℕ → ℕ
    back k = ⊎_elim (λ h. (copied.each k h).0) (λ h. 0) (cases_lt k (length ms))

    one_given : (i j : ℕ) → i < length given → j < length given → IsMarked marks i → IsMarked marks j → f i ≡ f j → i ≡ j
    one_given i j h k m o e = ⊎_elim
        (λ l. let up = copied.rising i j l k m o in absurd (omega (arith, up, e)))
        (λ l. ⊎_elim
        (λ u. let up = copied.rising j i u h o m in absurd (omega (arith, up, e)))
        (λ u. omega (arith, l, u))
        (cases_lt j i))
        (cases_lt i j)

    is_back : (i : ℕ) → i < length given → IsMarked marks i → back (f i) ≡ i
    is_back i h m = by (cases_lt (f i) (length ms))
      where
        by : (c : (f i < length ms) ⊎ (length ms ≤ f i)) → ⊎_elim (λ h. (copied.each (f i) h).0) (λ h. 0) c ≡ i
        by (inl l) = let c = copied.each (f i) l in one_given c.0 i c.1 h c.2 m c.3
        by (inr l) = let inside = copied.inside i h m in absurd (omega (arith, inside, l))

    back_twice : (i : ℕ) → i ≤ length given → i < length ns → IsMarked marks i → renumbered back (renumbered f (node_at ns i)) ≡ node_at ns i
    back_twice i within h m = renumbered_twice f back (node_at ns i) (λ k d inside.
        let l = parts_below ns table i h k d inside in is_back _ (omega (arith, l, within)) (closed.closed i (omega arith) m k d inside))

    pub copy_new : IsNew ms (renumbered f n)
    copy_new k found =
        let c = copied.each k (slice_get_within ms k (renumbered f n) found) in
        let l = c.1 in
        let j_there : c.0 < length ns = omega (arith, l, next) in
        let nodes : renumbered f (node_at ns c.0) ≡ renumbered f n = sym c.4 ∙ get_or_from_slice_get ms k (renumbered f n) node.not_allowed found in
        let one : node_at ns c.0 ≡ n = sym (back_twice c.0 (omega (arith, l)) j_there c.2) ∙ ap (renumbered back) nodes
        ∙ back_twice (length given) (omega arith) next marked in
        let at : c.0 ≡ length given = table.apart c.0 (length given) n (slice_get-get_or ns c.0 node.not_allowed j_there ∙ ap Some one) there in
        omega (arith, l, at)

    -- the copied pattern of this number
    abbrev Each : PatternNumber → ℕ → Type 0
    Each x k = (i : ℕ) × (i < length (given ++ x ∷ [])) × IsMarked marks i × (given_for (given ++ x ∷ []) i ≡ k)
        × (node_at (ms ++ renumbered f n ∷ []) k ≡ renumbered (given_for (given ++ x ∷ [])) (node_at ns i))

    pub one_copied : (more : List Node) (x : PatternNumber) → more ≡ ms ++ renumbered f n ∷ [] → x.0 ≡ length ms
        → AreCopied ns marks more (given ++ x ∷ [])
    one_copied more x is at =
        subst (λ ks. AreCopied ns marks ks (given ++ x ∷ [])) (sym is) (record {
          inside = λ i h m. ⊎_elim
              (λ l. let e = given_stays given x i l in let was = copied.inside i l m in omega (arith, e, was, long))
              (λ l. let e = last_given i h l in omega (arith, e, long, at))
              (cases_lt i (length given));
          rising = λ i j below h m o. ⊎_elim
              (λ l. let e = given_stays given x i (omega (arith, l, below)) in
              let g = given_stays given x j l in
              let up = copied.rising i j below l m o in omega (arith, e, g, up))
              (λ l. let at_end = is_last x j h l in
              let first : i < length given = omega (arith, at_end, below) in
              let e = given_stays given x i first in
              let g = last_given j h l in
              let was = copied.inside i first m in omega (arith, e, g, was, at))
              (cases_lt j (length given));
          each = λ k h. ⊎_elim (λ l. old_each k l) (λ l. new_each k h l) (cases_lt k (length ms));
          same = λ t i h m. ⊎_elim
              (λ l. ap (tree_of t (ms ++ renumbered f n ∷ [])) (given_stays given x i l)
              ∙ tree_stays t ms (ms ++ renumbered f n ∷ []) (f i) (renumbered f n ∷ [], refl) (copied.inside i l m) ∙ copied.same t i l m)
              (λ l. ap (tree_of t (ms ++ renumbered f n ∷ [])) (last_given i h l ∙ at) ∙ new_tree t ∙ ap (tree_of t ns) (sym (is_last x i h l)))
              (cases_lt i (length given));
        })
      where
        long : length (ms ++ renumbered f n ∷ []) ≡ length ms + 1
        long = length-append ms (renumbered f n ∷ [])

        last_given : (i : ℕ) → i < length (given ++ x ∷ []) → length given ≤ i → given_for (given ++ x ∷ []) i ≡ x.0
        last_given i h l = ap (given_for (given ++ x ∷ [])) (is_last x i h l) ∙ given_last given x

        new_tree : (t : Table) → tree_of t (ms ++ renumbered f n ∷ []) (length ms) ≡ tree_of t ns (length given)
        new_tree t = tree_of_pushed t ms (renumbered f n) ∙ renumbered_tree f (tree_of t ns) (tree_of t ms) t n (parts_same t)
            ∙ sym (tree_of-over_parts t ns (length given) n (table.falls (length given) n there) there)

        old_each : (k : ℕ) → k < length ms → Each x k
        old_each k l =
            let c = copied.each k l in
            let h = c.1 in (
              c.0,
              omega (arith, h, length-append given (x ∷ [])),
              c.2,
              given_stays given x c.0 h ∙ c.3,
              get_or_append_left ms (renumbered f n ∷ []) node.not_allowed k l ∙ c.4 ∙ still_renumbered x c.0 h,
            )

        new_renumbered : renumbered f n ≡ renumbered (given_for (given ++ x ∷ [])) n
        new_renumbered = same_renumbered f (given_for (given ++ x ∷ [])) n (λ k d inside. sym (given_stays given x _ (low k d inside)))

        new_each : (k : ℕ) → k < length (ms ++ renumbered f n ∷ []) → length ms ≤ k → Each x k
        new_each k h l =
            let e : k ≡ length ms = omega (arith, h, l, long) in (
              length given,
              omega (arith, length-append given (x ∷ [])),
              marked,
              given_last given x ∙ at ∙ sym e,
              ap (node_at (ms ++ renumbered f n ∷ [])) e ∙ get_or-append_seam ms (renumbered f n) [] node.not_allowed ∙ new_renumbered,
            )

-- ---- the selected patterns

copied_zip : (old new : ℕ → Simple ℕ) (f : ℕ → ℕ) (xs ys : List PatternNumber)
    → map (λ (n : PatternNumber). n.0) ys ≡ map f (map (λ (n : PatternNumber). n.0) xs)
    → All (λ (m : PatternNumber). new (f m.0) ≡ old m.0) xs → AllZip (λ (m n : PatternNumber). new n.0 ≡ old m.0) xs ys
copied_zip old new f [] [] e same = tt
copied_zip old new f [] (y ∷ ys) e same = absurd (cc)
copied_zip old new f (x ∷ xs) [] e same = absurd (cc)
copied_zip old new f (x ∷ xs) (y ∷ ys) e same =
    let head : y.0 ≡ f x.0 = cc in
    let tail : map (λ (n : PatternNumber). n.0) ys ≡ map f (map (λ (n : PatternNumber). n.0) xs) = cc in (
      ap new head ∙ All-head (λ (m : PatternNumber). new (f m.0) ≡ old m.0) x xs same,
      copied_zip old new f xs ys tail (All-tail (λ (m : PatternNumber). new (f m.0) ≡ old m.0) x xs same),
    )

module _ (ns ms : List Node) (marks : List Bool) (given : List PatternNumber) (copied : AreCopied ns marks ms given) (long : length given ≡ length ns)
    (numbers places : List PatternNumber) (inside : All (λ n. n.0 < length ns) numbers) (marked : All (λ n. IsMarked marks n.0) numbers)
    (are : map (λ n. n.0) places ≡ map (given_for given) (map (λ n. n.0) numbers)) where
  pub selected_inside : All (λ n. n.0 < length ms) places
  selected_inside =
      of_members (λ m. m < length ms) places (subst (All (λ m. m < length ms)) (sym are)
      (All-map (λ m. m < length ms) (given_for given) (map (λ n. n.0) numbers)
      (All-map (λ m. given_for given m < length ms) (λ n. n.0) numbers
      (λ k d h. let l = inside k d h in copied.inside _ (omega (arith, l, long)) (marked k d h)))))

  pub selected_same : (t : Table) → AllZip (λ m n. tree_of t ms n.0 ≡ tree_of t ns m.0) numbers places
  selected_same t =
      copied_zip (tree_of t ns) (tree_of t ms) (given_for given) numbers places are
      (λ k d h. let l = inside k d h in copied.same t _ (omega (arith, l, long)) (marked k d h))
