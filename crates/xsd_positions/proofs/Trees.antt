-- The tree of an expression stands for the expression with its counts written out.
use Rattle.std.proofs.Common.{◌≡◌, ◌∙◌, ℕ, zero, suc, ◌+◌, ◌-◌, List, [], ◌++◌, length, Bool, true, false, cond}
use Rattle.std.proofs.Common.{Option, Some, None, refl, sym, ap}
use Rattle.std.specs.Prelude.{nat_le}
use Rattle.std.proofs.lemmas.List.{append_assoc, append-nil, length-append, get_or_at}
use Rattle.rng_model.specs.regexes.Expressions.{Class, no_char, Regex, nothing_more, one_of, both, either, times}
use Rattle.rng_model.specs.regexes.plain.LinearForms as forms
use Rattle.xsd_positions.specs.plain.WrittenOut.{copies_then, at_most, counted, written_out}
use Rattle.xsd_positions.specs.plain.Trees as tree
use Rattle.xsd_positions.specs.plain.Trees.{Tree}
use Rattle.xsd_positions.specs.plain.TreeRows.{regex_of, is_nullable, classes_in, tree_copies, tree_at_most, tree_counted, tree_of}

module _ (ks : List Class) where
  copies_regex : (n : ℕ) (a rest : Tree) → regex_of ks (tree_copies n a rest) ≡ copies_then n (regex_of ks a) (regex_of ks rest)
  unfolding regex_of tree_copies copies_then
  copies_regex zero a rest = refl
  copies_regex (suc n) a rest = ap (both (regex_of ks a)) (copies_regex n a rest)

  most_regex : (n : ℕ) (a : Tree) → regex_of ks (tree_at_most n a) ≡ at_most n (regex_of ks a)
  unfolding regex_of tree_at_most at_most
  most_regex zero a = refl
  most_regex (suc n) a = ap (λ r. either nothing_more (both (regex_of ks a) r)) (most_regex n a)

  up_to_regex : (b : Bool) (n m : ℕ) (a : Tree) → regex_of ks (cond b (tree_copies n a (tree_at_most m a)) tree.never)
      ≡ cond b (copies_then n (regex_of ks a) (at_most m (regex_of ks a))) (one_of no_char)
  unfolding regex_of
  up_to_regex true n m a = copies_regex n a (tree_at_most m a) ∙ ap (copies_then n (regex_of ks a)) (most_regex m a)
  up_to_regex false n m a = refl

  counted_regex : (n : ℕ) (m : Option ℕ) (a : Tree) → regex_of ks (tree_counted n m a) ≡ counted n m (regex_of ks a)
  unfolding regex_of
  counted_regex n None a = copies_regex n a (tree.repeated a)
  counted_regex n (Some m) a = up_to_regex (nat_le n m) n (m - n) a

  pub tree_regex : (r : Regex) (before after : List Class) (c : ℕ) → length before ≡ c → ks ≡ before ++ (classes_in r ++ after)
      → regex_of ks (tree_of c r) ≡ written_out r
  unfolding regex_of tree_of classes_in written_out
  tree_regex nothing_more before after c l e = refl
  tree_regex (one_of k) before after c l e = rw e (ap one_of (get_or_at before k after no_char c l))
  tree_regex (both a b) before after c l e =
      let m : length (before ++ classes_in a) ≡ c + length (classes_in a) = length-append before (classes_in a) ∙ ap (λ n. n + length (classes_in a)) l in
      let first : ks ≡ before ++ (classes_in a ++ (classes_in b ++ after)) =
      e ∙ ap (λ xs. before ++ xs) (append_assoc (classes_in a) (classes_in b) after) in
      let second : ks ≡ (before ++ classes_in a) ++ (classes_in b ++ after) =
      first ∙ sym (append_assoc before (classes_in a) (classes_in b ++ after)) in
      let p = tree_regex a before (classes_in b ++ after) c l first in
      let q = tree_regex b (before ++ classes_in a) after (c + length (classes_in a)) m second in
      cc
  tree_regex (either a b) before after c l e =
      let m : length (before ++ classes_in a) ≡ c + length (classes_in a) = length-append before (classes_in a) ∙ ap (λ n. n + length (classes_in a)) l in
      let first : ks ≡ before ++ (classes_in a ++ (classes_in b ++ after)) =
      e ∙ ap (λ xs. before ++ xs) (append_assoc (classes_in a) (classes_in b) after) in
      let second : ks ≡ (before ++ classes_in a) ++ (classes_in b ++ after) =
      first ∙ sym (append_assoc before (classes_in a) (classes_in b ++ after)) in
      let p = tree_regex a before (classes_in b ++ after) c l first in
      let q = tree_regex b (before ++ classes_in a) after (c + length (classes_in a)) m second in
      cc
  tree_regex (times n m a) before after c l e = counted_regex n m (tree_of c a) ∙ ap (counted n m) (tree_regex a before after c l e)

  -- the tree of the expression whose classes these are
  pub whole_regex : (r : Regex) → ks ≡ classes_in r → regex_of ks (tree_of 0 r) ≡ written_out r
  whole_regex r e = tree_regex r [] [] 0 refl (e ∙ sym (append-nil (classes_in r)))

  pub nullable_same : (t : Tree) → forms.is_nullable (regex_of ks t) ≡ is_nullable t
  unfolding regex_of is_nullable forms.is_nullable
  nullable_same tree.nothing = refl
  nullable_same (tree.class c) = refl
  nullable_same tree.never = refl
  nullable_same (tree.both a b) = rw (nullable_same a, nullable_same b) refl
  nullable_same (tree.either a b) = rw (nullable_same a, nullable_same b) refl
  nullable_same (tree.optional a) = refl
  nullable_same (tree.repeated a) = refl
