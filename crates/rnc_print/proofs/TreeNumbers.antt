-- Patterns have the same number exactly if their trees are equal, if each has the place of its code among different
-- codes.
use Rattle.std.proofs.Common.{◌≡◌, ◌↔◌, ◌∙◌, inl, inr, sym, ap, ℕ, zero, suc, ◌<◌, ◌≤◌, List, [], ◌∷◌, ◌++◌, length, Some, None, slice_get, arith}
use Rattle.std.proofs.Common.{length-append}
use Rattle.std.proofs.lemmas.Bool.{cases_lt}
use Rattle.std.proofs.lemmas.List.{get_or_append_left, get_or_push}
use Rattle.std.proofs.lemmas.Option.{slice_get_cases, same_Some}
use Rattle.rng_labels.specs.plain.LabelCodes.{Part, AreCodesApart}
use Rattle.rng_model.specs.simple.Table.{Table, tree_at}
use Rattle.rng_model.specs.simple.TableRules.{IsTable}
use Rattle.rng_model.specs.declared.simple.PatternId.{PatternId}
use Rattle.rng_model.specs.declared.simple.Simple.{Simple}
use Rattle.rng_model.proofs.Table.{tree_at-over_children}
use Rattle.rnc_print.specs.plain.PatternCodes.{Stays, number_at, pattern_code}
use Rattle.rnc_print.specs.views.TreeNumbers.{AreTreeNumbers}
use Rattle.rnc_print.proofs.ItemTables.{class_paired}
use Rattle.rnc_print.proofs.PatternCodes.{AreAlike, code_below, same_codes, same_trees}

-- the first patterns have the places of their codes as numbers
pub record AreNumbered (t : Table) (numbers : List ℕ) (codes : List (List Part)) : Type 0 where
  pub apart : AreCodesApart codes
  pub within : length numbers ≤ length t.patterns
  pub placed : (id : PatternId) (p : Simple) → id.0 < length numbers → slice_get t.patterns id.0 ≡ Some p
      → slice_get codes (number_at numbers id) ≡ Some (pattern_code (number_at numbers) p)

pub none_apart : (codes : List (List Part)) → codes ≡ [] → AreCodesApart codes
none_apart codes e i j c f g = let n : slice_get [] i ≡ Some c = ap (λ cs. slice_get cs i) (sym e) ∙ f in cc

pub none_numbered : (t : Table) (numbers : List ℕ) (codes : List (List Part)) → numbers ≡ [] → codes ≡ [] → AreNumbered t numbers codes
none_numbered t numbers codes e f =
    let none : length numbers ≡ 0 = ap length e in
    record {
      apart = none_apart codes f;
      within = omega (arith, none);
      placed = λ id p h g. absurd (omega (arith, none, h));
    }

-- one more pattern
module _ (t : Table) (table : IsTable t) (old new : List ℕ) (was now : List (List Part)) (p : Simple) (n : ℕ) (are : AreNumbered t old was)
    (found : slice_get t.patterns (length old) ≡ Some p) (more : new ≡ old ++ n ∷ []) (apart : AreCodesApart now) (stays : Stays was now)
    (there : slice_get now n ≡ Some (pattern_code (number_at old) p)) where
  keeps : (id : PatternId) → id.0 < length old → number_at old id ≡ number_at new id
  keeps id h = sym (ap (λ ns. number_at ns id) more ∙ get_or_append_left old (n ∷ []) 0 id.0 h)

  same_code : (id : PatternId) (q : Simple) → id.0 ≤ length old → slice_get t.patterns id.0 ≡ Some q
      → pattern_code (number_at old) q ≡ pattern_code (number_at new) q
  same_code id q h e = code_below (number_at old) (number_at new) id.0 q (table.falls id.0 q e) (λ a l. keeps a (omega (arith, h, l)))

  pub more_numbered : AreNumbered t new now
  more_numbered = record {
    apart = apart;
    within = elim (slice_get_cases t.patterns (length old)).1 [
      | inl c ↦ let inside = c.1 in omega (arith, inside, ap length more, length-append old (n ∷ []))
      | inr c ↦ let none = c.1 in let both : Some p ≡ None = sym found ∙ none in cc
    ];
    placed = λ id q h e. elim (cases_lt id.0 (length old)) [
      | inl l ↦ ap (slice_get now) (sym (keeps id l)) ∙ stays (number_at old id) (pattern_code (number_at old) q) (are.placed id q l e)
          ∙ ap (λ c. Some c) (same_code id q (omega (arith, l)) e)
      | inr g ↦
          let last : length old ≡ id.0 = omega (arith, g, h, ap length more, length-append old (n ∷ [])) in
          let same : p ≡ q = same_Some _ _ (sym found ∙ ap (slice_get t.patterns) last ∙ e) in
          ap (slice_get now) (ap (λ ns. number_at ns id) more ∙ get_or_push old n 0 id.0 last) ∙ there
          ∙ ap (λ r. Some (pattern_code (number_at old) r)) same ∙ ap (λ c. Some c) (same_code id q (omega (arith, last)) e)
    ];
  }

-- all patterns
module _ (t : Table) (table : IsTable t) (numbers : List ℕ) (codes : List (List Part)) (are : AreNumbered t numbers codes)
    (past : slice_get t.patterns (length numbers) ≡ None) where
  found_at : (id : PatternId) → id.0 < length t.patterns → (p : Simple) × (slice_get t.patterns id.0 ≡ Some p)
  found_at id h = elim (slice_get_cases t.patterns id.0).1 [
    | inl c ↦ (c.0, c.2)
    | inr c ↦ absurd (omega (arith, h, c.0))
  ]

  numbered : (id : PatternId) → id.0 < length t.patterns → id.0 < length numbers
  numbered id h = elim (slice_get_cases t.patterns (length numbers)).1 [
    | inl c ↦ let both : Some c.0 ≡ None = sym c.2 ∙ past in cc
    | inr c ↦ omega (arith, h, c.0)
  ]

  -- by induction on a bound of both
  alike : (n : ℕ) (a b : PatternId) → a.0 < n → b.0 < n → a.0 < length t.patterns → b.0 < length t.patterns
      → (number_at numbers a ≡ number_at numbers b) ↔ (tree_at t.patterns a ≡ tree_at t.patterns b)
  alike zero a b l m h k = absurd (omega (arith, l))
  alike (suc n) a b l m h k =
      let p = found_at a h in
      let q = found_at b k in
      let before : AreAlike (tree_at t.patterns) (number_at numbers) a.0 b.0 =
      λ x y i j. alike n x y (omega (arith, i, l)) (omega (arith, j, m)) (omega (arith, i, h)) (omega (arith, j, k)) in
      let first = tree_at-over_children t.patterns a p.0 table.falls p.1 in
      let second = tree_at-over_children t.patterns b q.0 table.falls q.1 in
      let place_a = are.placed a p.0 (numbered a h) p.1 in
      let place_b = are.placed b q.0 (numbered b k) q.1 in (
        λ e. first
            ∙ same_trees (tree_at t.patterns) (number_at numbers) a.0 b.0 p.0 q.0 (table.falls a.0 p.0 p.1) (table.falls b.0 q.0 q.1)
            (class_paired t table a.0 p.0 p.1) (class_paired t table b.0 q.0 q.1) before
            (same_Some _ _ (sym place_a ∙ ap (slice_get codes) e ∙ place_b))
            ∙ sym second,
        λ e. are.apart (number_at numbers a) (number_at numbers b) (pattern_code (number_at numbers) p.0) place_a (place_b
            ∙ ap (λ c. Some c)
            (sym (same_codes (tree_at t.patterns) (number_at numbers) a.0 b.0 p.0 q.0 (table.falls a.0 p.0 p.1) (table.falls b.0 q.0 q.1) before
            (sym first ∙ e ∙ second)))),
      )

  pub all_numbered : AreTreeNumbers t numbers
  all_numbered a b h k = alike (length t.patterns) a b h k h k
