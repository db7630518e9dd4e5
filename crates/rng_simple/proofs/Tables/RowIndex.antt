-- An index of rows, when one more is added.
use Rattle.std.proofs.Common.{◌≡◌, ◌↔◌, inl, inr, refl, ap, sym, ◌∙◌, ℕ, Bool, true, false, cond, List, [], ◌∷◌, ◌++◌, length}
use Rattle.std.proofs.Common.{slice_get, Option, Some, None, rules}
use Rattle.std.proofs.lemmas.Option.{same_Some}
use Rattle.std.specs.HashMap.{HashMap}
use Rattle.rng_model.proofs.Truths.{not_both}
use Rattle.rng_model.proofs.Places.{before_or_at_end, at_place_of_end, in_front}
use Rattle.rng_simple.specs.declared.rows.Row.{Row}
use Rattle.rng_simple.specs.contracts.rows.RowPartialEq.TheImpl as same
use Rattle.rng_simple.specs.views.RowIndex.{IsIndex, number_of_row}

pub row_exact : (x y : Row) → same.ghosts.eq x y ≡ true → x ≡ y
row_exact x y e = search rules

row_itself : (x : Row) → same.ghosts.eq x x ≡ true
row_itself x = search rules

-- ---- lists with one more

not_none : {A : Type 0} {x : A} {o : Option A} → o ≡ None → o ≡ Some x → ⊥
not_none e f = cc

-- ---- the index

module _ {S : Type 0} (xs : List Row) (m n : HashMap Row ℕ S) (r : Row) (is : IsIndex xs m) (new : number_of_row m r ≡ None) (i : ℕ) (last : i ≡ length xs)
  where
    by_test : (q : Row) (j : ℕ) (b : Bool) → same.ghosts.eq r q ≡ b → number_of_row n q ≡ cond b (Some i) (number_of_row m q)
        → number_of_row n q ≡ Some j ↔ slice_get (xs ++ r ∷ []) j ≡ Some q
    by_test q j true e u =
        let x : r ≡ q = row_exact r q e in (
          λ f. let k : i ≡ j = same_Some _ _ (sym u ∙ f) in at_place_of_end xs r j (sym k ∙ last) ∙ ap Some x,
          λ f. elim (before_or_at_end xs r q j f) [
            | inl h ↦ absurd (not_none new (ap (number_of_row m) x ∙ (is q j).1 h))
            | inr h ↦ u ∙ ap Some (last ∙ sym h.0)
          ],
        )
    by_test q j false e u = (
      λ f. in_front xs (r ∷ []) j q ((is q j).0 (sym u ∙ f)),
      λ f. elim (before_or_at_end xs r q j f) [
        | inl h ↦ u ∙ (is q j).1 h
        | inr h ↦ absurd (not_both (ap (same.ghosts.eq r) h.1 ∙ row_itself r) e)
      ],
    )

    pub index_more : ((q : Row) → number_of_row n q ≡ cond (same.ghosts.eq r q) (Some i) (number_of_row m q)) → IsIndex (xs ++ r ∷ []) n
    index_more u = λ q j. by_test q j (same.ghosts.eq r q) refl (u q)
