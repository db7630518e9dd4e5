-- Patterns of a table that are not notAllowed, and what they take.
use Rattle.std.proofs.Common.{◌≡◌, ℕ, zero, suc, ◌+◌, ◌<◌, ◌≤◌, List, [], ◌∷◌, ◌++◌, All, false, arith, inl, inr, length, get_or, slice_get, refl, subst, sym}
use Rattle.std.proofs.lemmas.List.Elements.{All-head, All-tail}
use Rattle.std.proofs.lemmas.Option.{slice_get-get_or}
use Rattle.rng_model.specs.simple.Tree.{Simple, choice, group, interleave, s_not_allowed, s_empty, s_text, s_leaf, s_attribute, s_list, s_data, s_data_except}
use Rattle.rng_model.specs.simple.Tree.{s_value, s_one_or_more, s_joined}
use Rattle.rng_model.specs.simple.Table.{Table}
use Rattle.rng_model.specs.matching.Document.{Interleaves, no_texts}
use Rattle.rng_model.specs.matching.Document as document
use Rattle.rng_model.proofs.OneSidedInterleavings.{right_alone}
use Rattle.rng_deriv_laws.specs.plain.Derivatives.{is_not_allowed}
use Rattle.rng_deriv_laws.specs.plain.Taking as t
use Rattle.rng_deriv_laws.proofs.AttributeWays.{takes_none}
use Rattle.rng_deriv_table.specs.plain.Reduced.{AreReduced}
use Rattle.rng_deriv_table.specs.views.Node.{Node}
use Rattle.rng_deriv_table.specs.views.Node as node
use Rattle.rng_deriv_table.specs.views.PatternTable.{ArePartsBelow, IsPatternTable}
use Rattle.rng_deriv_table.specs.views.Trees.{choice_from, choice_over, tree_of, tree_over}
use Rattle.rng_deriv_table.proofs.Trees.{tree_of-over_parts}
use Rattle.rng_deriv_ways.proofs.PatternNodes.{IsAttribute, IsStringLeaf, a_datatype, a_list, a_value, an_attribute, an_except, found_attribute, found_string}
use Rattle.rng_reasons.specs.AllowedPatterns.{AllowedTakeSome, BareTakeNoAttribute, HasNoNotAllowed, IsReduced, LeavesTakeSome, TakesSome}

-- ---- what they take

in_sequence : {A : Type 0} (xs ys : List A) → Interleaves xs ys (xs ++ ys)
in_sequence [] ys = right_alone ys
in_sequence (x ∷ xs) ys = document.left (in_sequence xs ys)

pub allowed_take_some : AllowedTakeSome
allowed_take_some g = some where
  some : (p : Simple ℕ) → HasNoNotAllowed p → LeavesTakeSome g p → TakesSome g p
  some s_not_allowed allowed leaves = absurd allowed
  some s_empty allowed leaves = ([], [], t.empty_is)
  some s_text allowed leaves = ([], [], t.text_is no_texts)
  some (s_leaf k) allowed leaves = leaves
  some (s_attribute c p) allowed leaves = leaves
  some (s_list p) allowed leaves = leaves
  some (s_data d) allowed leaves = leaves
  some (s_data_except d p) allowed leaves = leaves
  some (s_value d v) allowed leaves = leaves
  some (s_one_or_more p) allowed leaves = let a = some p allowed leaves in (a.0, a.1, t.once a.2)
  some (s_joined choice p q) allowed leaves = let a = some p allowed.0 leaves.0 in (a.0, a.1, t.first a.2)
  some (s_joined group p q) allowed leaves =
      let a = some p allowed.0 leaves.0 in
      let b = some q allowed.1 leaves.1 in
      (a.0 ++ b.0, a.1 ++ b.1, t.grouped a.2 b.2 (in_sequence a.0 b.0) refl)
  some (s_joined interleave p q) allowed leaves =
      let a = some p allowed.0 leaves.0 in
      let b = some q allowed.1 leaves.1 in
      (a.0 ++ b.0, a.1 ++ b.1, t.interleaved a.2 b.2 (in_sequence a.0 b.0) (in_sequence a.1 b.1))

pub bare_take_no_attribute : BareTakeNoAttribute
bare_take_no_attribute g p xs ns bare d = takes_none g p bare xs ns d

-- ---- those of a table

attribute_allowed : {p : Simple ℕ} → IsAttribute p → HasNoNotAllowed p
attribute_allowed an_attribute = tt

string_allowed : {p : Simple ℕ} → IsStringLeaf p → HasNoNotAllowed p
string_allowed a_list = tt
string_allowed a_datatype = tt
string_allowed an_except = tt
string_allowed a_value = tt

is_reduced : (p : Simple ℕ) → (is_not_allowed p ≡ false → HasNoNotAllowed p) → IsReduced p
is_reduced s_not_allowed allowed = inl refl
is_reduced s_empty allowed = inr tt
is_reduced s_text allowed = inr tt
is_reduced (s_leaf k) allowed = inr tt
is_reduced (s_attribute c p) allowed = inr tt
is_reduced (s_list p) allowed = inr tt
is_reduced (s_data d) allowed = inr tt
is_reduced (s_data_except d p) allowed = inr tt
is_reduced (s_value d v) allowed = inr tt
is_reduced (s_one_or_more p) allowed = inr (allowed refl)
is_reduced (s_joined k p q) allowed = inr (allowed refl)

module _ (of : ℕ → Simple ℕ) where
  abbrev IsPartAllowed : ℕ → Type 0
  IsPartAllowed k = HasNoNotAllowed (of k)

  choice_allowed : (m : ℕ) (ms : List ℕ) → All IsPartAllowed (m ∷ ms) → HasNoNotAllowed (choice_from of m ms)
  choice_allowed m [] all = All-head IsPartAllowed m [] all
  choice_allowed m (k ∷ ms) all = (All-head IsPartAllowed m (k ∷ ms) all, choice_allowed k ms (All-tail IsPartAllowed m (k ∷ ms) all))

  members_allowed : (ms : List ℕ) → 2 ≤ length ms → All IsPartAllowed ms → HasNoNotAllowed (choice_over of ms)
  members_allowed [] two all = absurd (omega (arith, two))
  members_allowed (m ∷ ms) two all = choice_allowed m ms all

  node_allowed : (s : Table) (i : ℕ) (n : Node) → ArePartsBelow i n → AreReduced of n
      → ((k : ℕ) → k < i → is_not_allowed (of k) ≡ false → HasNoNotAllowed (of k)) → is_not_allowed (tree_over s of n) ≡ false → HasNoNotAllowed (tree_over s of n)
  node_allowed s i node.not_allowed below reduced inner e = absurd cc
  node_allowed s i node.empty below reduced inner e = tt
  node_allowed s i node.text below reduced inner e = tt
  node_allowed s i (node.choice ms) below reduced inner e =
      members_allowed ms below.0 (λ k d within. inner (get_or ms k d) (below.1 k d within) (reduced k d within).not_not_allowed)
  node_allowed s i (node.group a b) below reduced inner e = (inner a below.0 reduced.0.not_not_allowed, inner b below.1 reduced.1.not_not_allowed)
  node_allowed s i (node.interleave a b) below reduced inner e = (inner a below.0 reduced.0.not_not_allowed, inner b below.1 reduced.1.not_not_allowed)
  node_allowed s i (node.one_or_more a) below reduced inner e = inner a below reduced.not_not_allowed
  node_allowed s i (node.element k) below reduced inner e = tt
  node_allowed s i (node.attribute a) below reduced inner e = attribute_allowed (found_attribute s (slice_get s.patterns a))
  node_allowed s i (node.data_at d) below reduced inner e = string_allowed (found_string s (slice_get s.patterns d))

module _ (s : Table) (ps : List Node) (kept : IsPatternTable ps) where
  allowed_below : (n i : ℕ) → i < n → i < length ps → is_not_allowed (tree_of s ps i) ≡ false → HasNoNotAllowed (tree_of s ps i)
  allowed_below zero i less within e = absurd (omega (arith, less))
  allowed_below (suc n) i less within e =
      let m = get_or ps i node.empty in
      let found = slice_get-get_or ps i node.empty within in
      let over = tree_of-over_parts s ps i m (kept.falls i m found) found in
      let inner : (k : ℕ) → k < i → is_not_allowed (tree_of s ps k) ≡ false → HasNoNotAllowed (tree_of s ps k) =
      λ k below none. allowed_below n k (omega (arith, below, less)) (omega (arith, below, within)) none in
      subst HasNoNotAllowed (sym over)
      (node_allowed (tree_of s ps) s i m (kept.falls i m found) (kept.reduced s i m found) inner (subst (λ p. is_not_allowed p ≡ false) over e))

  -- a pattern that is not notAllowed
  pub allowed_there : (i : ℕ) → i < length ps → is_not_allowed (tree_of s ps i) ≡ false → HasNoNotAllowed (tree_of s ps i)
  allowed_there i within e = allowed_below (i + 1) i (omega arith) within e

  pub reduced_there : (i : ℕ) → i < length ps → IsReduced (tree_of s ps i)
  reduced_there i within = is_reduced (tree_of s ps i) (allowed_there i within)
