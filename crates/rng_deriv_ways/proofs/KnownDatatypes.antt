-- The meanings of datatypes that are kept.
use Rattle.std.proofs.Common.{◌≡◌, ◌∙◌, ◌+◌, ◌<◌, ℕ, List, Some, None, ⊎_elim, slice_get, sym, ap, subst, arith}
use Rattle.std.proofs.lemmas.Bool.{cases_lt}
use Rattle.std.proofs.lemmas.Option.{slice_get_within, same_Some}
use Rattle.rng_model.proofs.Places.{ends_before}
use Rattle.rng_model.specs.simple.Table.{Table}
use Rattle.rng_model.specs.datatypes.Datatypes.{known_allows, known_equates}
use Rattle.rng_model.specs.declared.simple.Simple.{Simple}
use Rattle.rng_deriv_ways.specs.views.Datatypes.{AreDatatypesOf, position_count, meaning_at, meaning_named_by}
use Rattle.rng_deriv_ways.specs.declared.datatypes.Datatypes.{Datatypes}

-- ---- by position

module _ (t : Table) (datatypes : Datatypes) where
  -- the meanings of the patterns below this position are kept
  pub record AreKeptBelow (n : ℕ) : Type 0 where
    pub kept : (k : ℕ) (row : Simple) → k < n → slice_get t.patterns k ≡ Some row → meaning_at datatypes k ≡ meaning_named_by t.types row
    pub count : position_count datatypes ≡ n

  pub all_kept : (n : ℕ) → slice_get t.patterns n ≡ None → AreKeptBelow n → AreDatatypesOf t datatypes
  all_kept n end below = λ k row at.
      let inside = slice_get_within t.patterns k row at in
      let past = ends_before t.patterns n end in
      below.kept k row (omega (arith, inside, past)) at

  module _ (all : AreDatatypesOf t datatypes) (k : ℕ) (row : Simple) (at : slice_get t.patterns k ≡ Some row) (s : List ℕ) where
    pub allowed_there : known_allows (meaning_at datatypes k) s ≡ known_allows (meaning_named_by t.types row) s
    allowed_there = ap (λ o. known_allows o s) (all k row at)

    pub equal_there : (v : List ℕ) → known_equates (meaning_at datatypes k) v s ≡ known_equates (meaning_named_by t.types row) v s
    equal_there v = ap (λ o. known_equates o v s) (all k row at)

-- one more pattern
module _ (t : Table) (old new : Datatypes) (n : ℕ) (row : Simple) where
  pub one_more_kept : slice_get t.patterns n ≡ Some row → position_count new ≡ position_count old + 1 → meaning_at new (position_count old) ≡ meaning_named_by t.types row
      → ((k : ℕ) → k < position_count old → meaning_at new k ≡ meaning_at old k) → AreKeptBelow t old n → AreKeptBelow t new (n + 1)
  one_more_kept at more own others before = record {
    kept = λ k other less there. ⊎_elim
        (λ below. others k (omega (arith, below, before.count)) ∙ before.kept k other below there)
        (λ above.
        let same : k ≡ n = omega (arith, less, above) in
        let is : row ≡ other = same_Some _ _ (sym at ∙ subst (λ k. slice_get t.patterns k ≡ Some other) same there) in
        subst (λ k. meaning_at new k ≡ meaning_named_by t.types other) (before.count ∙ sym same) (own ∙ ap (meaning_named_by t.types) is))
        (cases_lt k n);
    count = omega (arith, more, before.count);
  }
