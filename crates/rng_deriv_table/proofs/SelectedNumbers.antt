-- What is known of numbers by position holds for the numbers in the table of the selected patterns.
use Rattle.std.proofs.Common.{◌≡◌, ℕ, zero, suc, ◌<◌, All, List, [], ◌∷◌, length, take, arith, subst, sym}
use Rattle.std.specs.List.{AllZip}
use Rattle.std.proofs.lemmas.List.Elements.{All-get_or, All-take, AllZip-get_or, length_all_zip}
use Rattle.rng_model.specs.simple.Table.{Table, tree_at}
use Rattle.rng_deriv_laws.specs.plain.Restricted.{IsRestricted, IsTyped}
use Rattle.rng_deriv_laws.specs.plain.Taking.{Same}
use Rattle.rng_deriv_table.specs.plain.Kept.{AreRestrictedAlike, HasNoLists}
use Rattle.rng_deriv_table.specs.views.Node.{Node}
use Rattle.rng_deriv_table.specs.views.Taking.{AreTaken, tree_by}
use Rattle.rng_deriv_table.specs.views.Trees.{tree_of}
use Rattle.rng_deriv_table.specs.declared.pattern.PatternNumber.{PatternNumber}

zip_take : (R : PatternNumber → PatternNumber → Type 0) (k : ℕ) (xs ys : List PatternNumber) → AllZip R xs ys → AllZip R (take k xs) (take k ys)
zip_take R zero xs ys h = tt
zip_take R (suc k) [] [] h = tt
zip_take R (suc k) [] (y ∷ ys) h = absurd h
zip_take R (suc k) (x ∷ xs) [] h = absurd h
zip_take R (suc k) (x ∷ xs) (y ∷ ys) h = (h.0, zip_take R k xs ys h.1)

module _ (t : Table) (ns ms : List Node) (numbers places : List PatternNumber) (inside : All (λ n. n.0 < length ms) places)
    (same : AllZip (λ m n. tree_of t ms n.0 ≡ tree_of t ns m.0) numbers places) (k : ℕ) where
  long : length (take k numbers) ≡ length (take k places)
  long = length_all_zip (λ m n. tree_of t ms n.0 ≡ tree_of t ns m.0) (take k numbers) (take k places)
      (zip_take (λ m n. tree_of t ms n.0 ≡ tree_of t ns m.0) k numbers places same)

  -- each position has the same tree
  same_tree : (i : ℕ) → i < length (take k places) → tree_by t ms (take k places) (record { 0 = i }) ≡ tree_by t ns (take k numbers) (record { 0 = i })
  same_tree i h =
      AllZip-get_or (λ m n. tree_of t ms n.0 ≡ tree_of t ns m.0) (take k numbers) (take k places) i (record { 0 = 0 }) (record { 0 = 0 })
      (zip_take (λ m n. tree_of t ms n.0 ≡ tree_of t ns m.0) k numbers places same) (omega (arith, h, long))

  pub taken_selected : AreTaken t ns (take k numbers) → AreTaken t ms (take k places)
  taken_selected taken = record {
    inside = λ i h. All-get_or (λ n. n.0 < length ms) (take k places) i (record { 0 = 0 }) h (All-take (λ n. n.0 < length ms) k places inside);
    same = λ i h has g. subst (λ p. Same g p (tree_at t.patterns (record { 0 = i }))) (sym (same_tree i h)) (taken.same i (omega (arith, h, long)) has g);
  }

  pub restricted_selected : AreRestrictedAlike t ns (take k numbers) → AreRestrictedAlike t ms (take k places)
  restricted_selected alike = record {
    restricted = λ id h has o. subst IsRestricted (sym (same_tree id.0 h)) (alike.restricted id (omega (arith, h, long)) has o);
    unlisted = λ id h has o. subst HasNoLists (sym (same_tree id.0 h)) (alike.unlisted id (omega (arith, h, long)) has o);
    typed = λ id h has o. subst IsTyped (sym (same_tree id.0 h)) (alike.typed id (omega (arith, h, long)) has o);
  }
