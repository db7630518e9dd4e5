-- Where leaves stand in a pattern of a table, by its parts.
use Rattle.std.proofs.Common.{◌≡◌, ◌↔◌, ◌⊎◌, inl, inr, ℕ, ◌<◌, List, [], ◌∷◌, ◌++◌, All, Bool, true, false, not, refl, sym, ap, ◌∙◌, subst, ⊎_elim, slice_get}
use Rattle.std.proofs.Common.{Contains, arith}
use Rattle.std.proofs.lemmas.Bool.{not-true}
use Rattle.std.proofs.lemmas.List.Elements.{All-append, All-nil, Contains-append_cases, Contains-append_left, Contains-append_right, Contains-get_or}
use Rattle.rng_model.proofs.Members.{all_from_members, first_or_later, not_in_none, one_only}
use Rattle.rng_model.specs.simple.Table.{Table}
use Rattle.rng_model.specs.simple.Tree.{Simple}
use Rattle.rng_deriv_laws.specs.plain.Derivatives.{is_nullable}
use Rattle.rng_deriv_table.specs.views.Node.{Node, node_of}
use Rattle.rng_deriv_table.specs.views.Node as node
use Rattle.rng_deriv_table.specs.views.PatternTable.{ArePartsBelow}
use Rattle.rng_deriv_table.specs.views.Trees.{choice_from, tree_over}
use Rattle.rng_deriv_ways.proofs.PatternNodes.{IsAttribute, IsStringLeaf, a_list, a_datatype, an_except, a_value, an_attribute, found_attribute, found_string}
use Rattle.rng_expected.specs.plain.Leaves.{Stands, StandsIn, is_leaf, lets, lets_behind, parts_where, side, takes_items}
use Rattle.rng_expected.specs.declared.leaves.Standing.{Standing}

-- ---- numbers under tests

in_side : (b : Bool) (m k : ℕ) → Contains (side b m) k → (b ≡ true) × (m ≡ k)
in_side true m k c = (refl, one_only m k c)
in_side false m k c = absurd (not_in_none c)

side_in : (b : Bool) (m : ℕ) → b ≡ true → Contains (side b m) m
side_in b m e = subst (λ b. Contains (side b m) m) (sym e) (Contains-get_or (m ∷ []) 0 m (omega arith))

module _ (s : Standing) (of : ℕ → Simple ℕ) (l : Simple ℕ) where
  -- one of two parts, each under its test
  two_sides : (b c : Bool) (m k : ℕ) → (((b ≡ true) × Stands s (of m) l) ⊎ ((c ≡ true) × Stands s (of k) l)) ↔ StandsIn s of (side b m ++ side c k) l
  two_sides b c m k = (
    λ h. ⊎_elim
        (λ f. (m, Contains-append_left (side b m) (side c k) m (side_in b m f.0), f.1))
        (λ g. (k, Contains-append_right (side b m) (side c k) k (side_in c k g.0), g.1))
        h,
    λ d. ⊎_elim
        (λ f. let e = in_side b m d.0 f in inl (e.0, subst (λ n. Stands s (of n) l) (sym e.1) d.2))
        (λ g. let e = in_side c k d.0 g in inr (e.0, subst (λ n. Stands s (of n) l) (sym e.1) d.2))
        (Contains-append_cases (side b m) (side c k) d.0 d.1),
  )

  -- one of the members of a choice
  some_member : (m : ℕ) (ms : List ℕ) → Stands s (choice_from of m ms) l ↔ StandsIn s of (m ∷ ms) l
  some_member m [] = (
    λ h. (m, Contains-get_or (m ∷ []) 0 m (omega arith), h),
    λ d. subst (λ n. Stands s (of n) l) (sym (one_only m d.0 d.1)) d.2,
  )
  some_member m (n ∷ ms) = (
    λ h. ⊎_elim
        (λ f. (m, Contains-get_or (m ∷ n ∷ ms) 0 m (omega arith), f))
        (λ g. let d = (some_member n ms).0 g in (d.0, Contains-append_right (m ∷ []) (n ∷ ms) d.0 d.1, d.2))
        h,
    λ d. ⊎_elim
        (λ e. inl (subst (λ n. Stands s (of n) l) (sym e) d.2))
        (λ c. inr ((some_member n ms).1 (d.0, c, d.2)))
        (first_or_later m (n ∷ ms) d.0 d.1),
  )

  none_in : StandsIn s of [] l → ⊥
  none_in d = not_in_none d.1

  -- what stands under a test that holds, or under one that does not
  under : {A : Type 0} (b c : Bool) → b ≡ c → ((b ≡ c) × A) ↔ A
  under b c e = (λ h. h.1, λ a. (e, a))

  not_under : {A B : Type 0} (b : Bool) → not b ≡ false → (B → ⊥) → ((b ≡ false) × A) ↔ B
  not_under b e none = (λ h. let no : true ≡ false = sym (ap not h.0) ∙ e in absurd cc, λ d. absurd (none d))

  none_under : {A B : Type 0} (b : Bool) → b ≡ false → (B → ⊥) → ((b ≡ true) × A) ↔ B
  none_under b e none = (λ h. let no : true ≡ false = sym h.0 ∙ e in absurd cc, λ d. absurd (none d))

  attribute_stands : {p : Simple ℕ} → IsAttribute p → takes_items s ≡ false → Stands s p l ↔ (l ≡ p)
  attribute_stands an_attribute e = under (takes_items s) false e

  no_attribute_stands : {p : Simple ℕ} → IsAttribute p → not (takes_items s) ≡ false → Stands s p l ↔ StandsIn s of [] l
  no_attribute_stands an_attribute e = not_under (takes_items s) e none_in

  string_stands : {p : Simple ℕ} → IsStringLeaf p → takes_items s ≡ true → Stands s p l ↔ (l ≡ p)
  string_stands a_list e = under (takes_items s) true e
  string_stands a_datatype e = under (takes_items s) true e
  string_stands an_except e = under (takes_items s) true e
  string_stands a_value e = under (takes_items s) true e

  no_string_stands : {p : Simple ℕ} → IsStringLeaf p → takes_items s ≡ false → Stands s p l ↔ StandsIn s of [] l
  no_string_stands a_list e = none_under (takes_items s) e none_in
  no_string_stands a_datatype e = none_under (takes_items s) e none_in
  no_string_stands an_except e = none_under (takes_items s) e none_in
  no_string_stands a_value e = none_under (takes_items s) e none_in

  -- a pattern that is no leaf has the leaves of its parts
  pub stands_in_parts : (t : Table) (n : Node) → is_leaf s n ≡ false
      → Stands s (tree_over t of n) l ↔ StandsIn s of (parts_where s (λ m. is_nullable (of m)) n) l
  stands_in_parts t node.not_allowed other = (λ h. absurd h, λ d. absurd (none_in d))
  stands_in_parts t node.empty other = (λ h. absurd h, λ d. absurd (none_in d))
  stands_in_parts t node.text other = none_under (takes_items s) other none_in
  stands_in_parts t (node.choice []) other = (λ h. absurd h, λ d. absurd (none_in d))
  stands_in_parts t (node.choice (m ∷ ms)) other = some_member m ms
  stands_in_parts t (node.group a b) other = two_sides (lets s (is_nullable (of b))) (lets_behind s (is_nullable (of a))) a b
  stands_in_parts t (node.interleave a b) other = two_sides (lets s (is_nullable (of b))) (lets s (is_nullable (of a))) a b
  stands_in_parts t (node.one_or_more a) other = (
    λ h. (a, Contains-get_or (a ∷ []) 0 a (omega arith), h),
    λ d. subst (λ n. Stands s (of n) l) (sym (one_only a d.0 d.1)) d.2,
  )
  stands_in_parts t (node.element e) other = none_under (takes_items s) other none_in
  stands_in_parts t (node.attribute a) other = no_attribute_stands (found_attribute t (slice_get t.patterns a)) other
  stands_in_parts t (node.data_at d) other = no_string_stands (found_string t (slice_get t.patterns d)) other

  -- a leaf has itself
  pub stands_itself : (t : Table) (n : Node) → is_leaf s n ≡ true → Stands s (tree_over t of n) l ↔ (l ≡ tree_over t of n)
  stands_itself t node.not_allowed is = absurd cc
  stands_itself t node.empty is = absurd cc
  stands_itself t node.text is = under (takes_items s) true is
  stands_itself t (node.choice ms) is = absurd cc
  stands_itself t (node.group a b) is = absurd cc
  stands_itself t (node.interleave a b) is = absurd cc
  stands_itself t (node.one_or_more a) is = absurd cc
  stands_itself t (node.element e) is = under (takes_items s) true is
  stands_itself t (node.attribute a) is = attribute_stands (found_attribute t (slice_get t.patterns a)) (not-true (takes_items s) is)
  stands_itself t (node.data_at d) is = string_stands (found_string t (slice_get t.patterns d)) is

-- ---- the parts are below

side_below : (b : Bool) (m i : ℕ) → m < i → All (λ k. k < i) (side b m)
side_below b m i h = all_from_members (λ k. k < i) (side b m) (λ k c. subst (λ k. k < i) (in_side b m k c).1 h)

pub parts_below : (s : Standing) (nullable : ℕ → Bool) (n : Node) (i : ℕ) → ArePartsBelow i n → All (λ m. m < i) (parts_where s nullable n)
parts_below s nullable node.not_allowed i h = All-nil (λ m. m < i)
parts_below s nullable node.empty i h = All-nil (λ m. m < i)
parts_below s nullable node.text i h = All-nil (λ m. m < i)
parts_below s nullable (node.choice ms) i h = h.1
parts_below s nullable (node.group a b) i h =
    All-append (λ m. m < i) (side (lets s (nullable b)) a) (side (lets_behind s (nullable a)) b) (side_below (lets s (nullable b)) a i h.0)
    (side_below (lets_behind s (nullable a)) b i h.1)
parts_below s nullable (node.interleave a b) i h =
    All-append (λ m. m < i) (side (lets s (nullable b)) a) (side (lets s (nullable a)) b) (side_below (lets s (nullable b)) a i h.0)
    (side_below (lets s (nullable a)) b i h.1)
parts_below s nullable (node.one_or_more a) i h = all_from_members (λ k. k < i) (a ∷ []) (λ k c. subst (λ k. k < i) (one_only a k c) h)
parts_below s nullable (node.element e) i h = All-nil (λ m. m < i)
parts_below s nullable (node.attribute a) i h = All-nil (λ m. m < i)
parts_below s nullable (node.data_at d) i h = All-nil (λ m. m < i)
