-- The weight of a side is less than that of the whole.
use Rattle.std.proofs.Common.{ℕ, ◌<◌, ◌≤◌, ◌+◌, ◌*◌, suc, zero, List, [], ◌∷◌, length, get_or, arith, Bool, true, false, cond}
use Rattle.rng_model.specs.simple.Tree.{Connector, Simple, choice, group, interleave, s_not_allowed, s_empty, s_text, s_leaf, s_attribute, s_list, s_data}
use Rattle.rng_model.specs.simple.Tree.{s_data_except}
use Rattle.rng_model.specs.simple.Tree.{s_value, s_one_or_more, s_joined}
use Rattle.rng_deriv_laws.specs.plain.Derivatives.{group_of, is_empty, is_not_allowed}
use Rattle.rng_deriv_table.specs.views.Trees.{choice_from, choice_over}
use Rattle.rng_deriv_ways.specs.plain.Kinds.{weight}

pub left_less : (k : Connector) (p q : Simple ℕ) → weight p + 1 ≤ weight (s_joined k p q)
left_less choice p q = omega arith
left_less group p q = omega arith
left_less interleave p q = omega arith

pub right_less : (k : Connector) (p q : Simple ℕ) → weight q + 1 ≤ weight (s_joined k p q)
right_less choice p q = omega arith
right_less group p q = omega arith
right_less interleave p q = omega arith

chosen_weight : (b : Bool) (p q : Simple ℕ) (n : ℕ) → weight p ≤ n → weight q ≤ n → weight (cond b p q) ≤ n
chosen_weight true p q n h k = h
chosen_weight false p q n h k = k

group_of_weight : (p q : Simple ℕ) → weight (group_of p q) ≤ 2 * weight p + weight q + 1
group_of_weight p q =
    chosen_weight (is_not_allowed p) s_not_allowed _ _ (omega arith) (chosen_weight (is_not_allowed q) s_not_allowed _ _ (omega arith)
    (chosen_weight (is_empty p) q _ _ (omega arith) (chosen_weight (is_empty q) p (s_joined group p q) _ (omega arith) (omega arith))))

pub positive : (p : Simple ℕ) → 1 ≤ weight p
positive s_not_allowed = omega arith
positive s_empty = omega arith
positive s_text = omega arith
positive (s_leaf k) = omega arith
positive (s_attribute c p) = omega arith
positive (s_list p) = omega arith
positive (s_data d) = omega arith
positive (s_data_except d p) = omega arith
positive (s_value d v) = omega arith
positive (s_one_or_more p) = omega arith
positive (s_joined choice p q) = omega arith
positive (s_joined group p q) = omega arith
positive (s_joined interleave p q) = omega arith

-- a list nested to the left is heavier than one reassociated to the right
pub opened_less : (p q r : Simple ℕ) → weight (s_joined group p (group_of q r)) + 1 ≤ weight (s_joined group (s_joined group p q) r)
opened_less p q r = let a = positive p in let b = group_of_weight q r in omega (arith, a, b)

from_weight : (f : ℕ → Simple ℕ) (m : ℕ) (ms : List ℕ) (i d : ℕ) → i < length (m ∷ ms) → weight (f (get_or (m ∷ ms) i d)) ≤ weight (choice_from f m ms)
from_weight f m [] (zero) d h = omega arith
from_weight f m [] (suc i) d h = absurd (omega (arith, h))
from_weight f m (n ∷ ms) (zero) d h = omega arith
from_weight f m (n ∷ ms) (suc i) d h = let a = from_weight f n ms i d (omega (arith, h)) in omega (arith, a)

pub member_less : (f : ℕ → Simple ℕ) (ms : List ℕ) (i d : ℕ) → i < length ms → 2 ≤ length ms → weight (f (get_or ms i d)) + 1 ≤ weight (choice_over f ms)
member_less f [] i d h two = absurd (omega (arith, h))
member_less f (m ∷ []) i d h two = absurd (omega (arith, two))
member_less f (m ∷ n ∷ ms) (zero) d h two = omega arith
member_less f (m ∷ n ∷ ms) (suc i) d h two = let a = from_weight f n ms i d (omega (arith, h)) in omega (arith, a)
