-- A simple form is no deeper than the tree with 4.12 to 4.15 applied.
use Rattle.std.proofs.Common.{◌≡◌, refl, ap, ap₂, ℕ, ◌+◌, ◌≤◌, arith}
use Rattle.std.specs.Prelude.{max}
use Rattle.rng_model.specs.names.Names.{NameClass}
use Rattle.rng_model.specs.simple.Tree.{Tree, Trees, Connector, choice, group, interleave, not_allowed, empty, text, leaf, attribute, list, data_of}
use Rattle.rng_model.specs.simple.Tree.{data_except}
use Rattle.rng_model.specs.simple.Tree.{value, mixed, optional, zero_or_more, one_or_more, joined, no_trees, tree_and, Datatype}
use Rattle.rng_model.specs.simple.Tree.{Simple, s_not_allowed, s_empty, s_text, s_leaf, s_attribute, s_list, s_data, s_data_except, s_value, s_one_or_more}
use Rattle.rng_model.specs.simple.Tree.{s_joined}
use Rattle.rng_model.specs.simple.Leaves.{depth, class_depth}
use Rattle.rng_simple.specs.plain.InTwos.{nested, in_twos, more_in_twos}
use Rattle.rng_simple.specs.plain.SimpleOf.{Sort, nothing, blank, proper, sort_of, attribute_by, list_by, except_by, one_or_more_by, choice_by, both_by, join}
use Rattle.rng_simple.specs.plain.SimpleOf.{some_of, simple_of, join_all}
use Rattle.rng_simple.specs.plain.Renamed.{simple_renamed}

module _ {L : Type 0} where
  positive : (s : Simple L) → 1 ≤ depth s
  positive s_not_allowed = omega arith
  positive s_empty = omega arith
  positive s_text = omega arith
  positive (s_leaf l) = omega arith
  positive (s_attribute c s) = omega arith
  positive (s_list s) = omega arith
  positive (s_data d) = omega arith
  positive (s_data_except d s) = omega arith
  positive (s_value d v) = omega arith
  positive (s_one_or_more s) = omega arith
  positive (s_joined k s u) = omega arith

  attribute_depth : (x : Sort) (c : NameClass) (s : Simple L) (m : ℕ) → depth s ≤ m → depth (attribute_by x c s) ≤ max (class_depth c) m + 1
  attribute_depth nothing c s m h = omega arith
  attribute_depth blank c s m h = omega arith
  attribute_depth proper c s m h = omega arith

  list_depth : (x : Sort) (s : Simple L) (m : ℕ) → depth s ≤ m → depth (list_by x s) ≤ m + 1
  list_depth nothing s m h = omega arith
  list_depth blank s m h = omega arith
  list_depth proper s m h = omega arith

  except_depth : (x : Sort) (d : Datatype) (s : Simple L) (m : ℕ) → depth s ≤ m → depth (except_by x d s) ≤ m + 1
  except_depth nothing d s m h = omega arith
  except_depth blank d s m h = omega arith
  except_depth proper d s m h = omega arith

  some_depth : (x : Sort) (s : Simple L) (m : ℕ) → depth s ≤ m → depth (one_or_more_by x s) ≤ m + 1
  some_depth nothing s m h = omega arith
  some_depth blank s m h = omega arith
  some_depth proper s m h = omega arith

  choice_depth : (x y : Sort) (s u : Simple L) (m n : ℕ) → depth s ≤ m → depth u ≤ n → depth (choice_by x y s u) ≤ max m n + 1
  choice_depth nothing y s u m n h i = omega arith
  choice_depth blank nothing s u m n h i = omega arith
  choice_depth blank blank s u m n h i = omega arith
  choice_depth blank proper s u m n h i = omega arith
  choice_depth proper nothing s u m n h i = omega arith
  choice_depth proper blank s u m n h i = let p = positive u in omega (arith, p)
  choice_depth proper proper s u m n h i = omega arith

  both_depth : (k : Connector) (x y : Sort) (s u : Simple L) (m n : ℕ) → depth s ≤ m → depth u ≤ n → depth (both_by k x y s u) ≤ max m n + 1
  both_depth k nothing y s u m n h i = omega arith
  both_depth k blank y s u m n h i = omega arith
  both_depth k proper nothing s u m n h i = omega arith
  both_depth k proper blank s u m n h i = omega arith
  both_depth k proper proper s u m n h i = omega arith

  join_depth : (k : Connector) (s u : Simple L) (m n : ℕ) → depth s ≤ m → depth u ≤ n → depth (join k s u) ≤ max m n + 1
  join_depth choice s u = choice_depth (sort_of s) (sort_of u) s u
  join_depth group s u = both_depth group (sort_of s) (sort_of u) s u
  join_depth interleave s u = both_depth interleave (sort_of s) (sort_of u) s u

  mutual
    unfolding simple_of join_all

    pub simple_depth : (a : Tree L) → depth (simple_of a) ≤ depth (in_twos a)
    simple_depth not_allowed = omega arith
    simple_depth empty = omega arith
    simple_depth text = omega arith
    simple_depth (leaf l) = omega arith
    simple_depth (attribute c a) = attribute_depth (sort_of (simple_of a)) (nested c) (simple_of a) (depth (in_twos a)) (simple_depth a)
    simple_depth (list a) = list_depth (sort_of (simple_of a)) (simple_of a) (depth (in_twos a)) (simple_depth a)
    simple_depth (data_of d) = omega arith
    simple_depth (data_except d a) = except_depth (sort_of (simple_of a)) d (simple_of a) (depth (in_twos a)) (simple_depth a)
    simple_depth (value d v) = omega arith
    simple_depth (mixed a) = join_depth interleave (simple_of a) s_text (depth (in_twos a)) 1 (simple_depth a) (omega arith)
    simple_depth (optional a) = join_depth choice (simple_of a) s_empty (depth (in_twos a)) 1 (simple_depth a) (omega arith)
    simple_depth (zero_or_more a) =
        join_depth choice (some_of (simple_of a)) s_empty (depth (in_twos a) + 1) 1
        (some_depth (sort_of (simple_of a)) (simple_of a) (depth (in_twos a)) (simple_depth a))
        (omega arith)
    simple_depth (one_or_more a) = some_depth (sort_of (simple_of a)) (simple_of a) (depth (in_twos a)) (simple_depth a)
    simple_depth (joined k a b ts) =
        all_depth ts k (join k (simple_of a) (simple_of b)) (s_joined k (in_twos a) (in_twos b))
        (join_depth k (simple_of a) (simple_of b) (depth (in_twos a)) (depth (in_twos b)) (simple_depth a) (simple_depth b))

    all_depth : (ts : Trees L) (k : Connector) (s p : Simple L) → depth s ≤ depth p → depth (join_all k s ts) ≤ depth (more_in_twos k p ts)
    all_depth no_trees k s p h = h
    all_depth (tree_and a ts) k s p h =
        all_depth ts k (join k s (simple_of a)) (s_joined k p (in_twos a))
        (join_depth k s (simple_of a) (depth p) (depth (in_twos a)) h (simple_depth a))

pub renamed_depth : {K L : Type 0} (f : K → L) (s : Simple K) → depth (simple_renamed f s) ≡ depth s
renamed_depth f s_not_allowed = refl
renamed_depth f s_empty = refl
renamed_depth f s_text = refl
renamed_depth f (s_leaf l) = refl
renamed_depth f (s_attribute c s) = ap (λ (n : ℕ). max (class_depth c) n + 1) (renamed_depth f s)
renamed_depth f (s_list s) = ap (λ (n : ℕ). n + 1) (renamed_depth f s)
renamed_depth f (s_data d) = refl
renamed_depth f (s_data_except d s) = ap (λ (n : ℕ). n + 1) (renamed_depth f s)
renamed_depth f (s_value d v) = refl
renamed_depth f (s_one_or_more s) = ap (λ (n : ℕ). n + 1) (renamed_depth f s)
renamed_depth f (s_joined k s u) = ap₂ (λ (m n : ℕ). max m n + 1) (renamed_depth f s) (renamed_depth f u)
