-- A table while it is made: states are added, and a row for each of them in turn.
use Rattle.std.proofs.Common.{◌≡◌, ◌<◌, ◌≤◌, ℕ, List, [], ◌∷◌, ◌++◌, length, refl, sym, subst, inl, inr, arith}
use Rattle.std.specs.List.{AllByRecursion}
use Rattle.std.proofs.lemmas.Bool.{cases_lt}
use Rattle.std.proofs.lemmas.List.{get_or_append_left, get_or_push, length-append}
use Rattle.rng_model.specs.regexes.Expressions.{Class, Regex}
use Rattle.rng_model.specs.regexes.plain.LinearForms.{RegexState}
use Rattle.xsd_regex.specs.plain.StateTable.{StateRow, last_row, row_at, state_at, IsRowOf, AreRows, IsTableOf}
use Rattle.xsd_regex.proofs.TableRows.{state_stays, row_stays}

pub no_rows : (states : List RegexState) → AreRows states []
no_rows states = record { each = λ i h. absurd (omega (arith, h)); within = λ i h. absurd (omega (arith, h)) }

-- ---- more states

pub within_more : (n m : ℕ) (arcs : List (Class × ℕ)) → n ≤ m → AllByRecursion (λ a. a.1 < n) arcs → AllByRecursion (λ a. a.1 < m) arcs
within_more n m [] le h = tt
within_more n m (a ∷ arcs) le h = let first = h.0 in (omega (arith, le, first), within_more n m arcs le h.1)

pub rows_stay : (states more : List RegexState) (rows : List StateRow) → length rows ≤ length states → AreRows states rows
    → AreRows (states ++ more) rows
rows_stay states more rows few are = record { each = each; within = within } where
  each : (i : ℕ) → i < length rows → IsRowOf (states ++ more) (state_at (states ++ more) i) (row_at rows i)
  each i l =
      subst (λ q. IsRowOf (states ++ more) q (row_at rows i)) (sym (state_stays states more i (omega (arith, l, few))))
      (row_stays states more (state_at states i) (row_at rows i) (are.within i l) (are.each i l))

  longer : length states ≤ length (states ++ more)
  longer = let both = length-append states more in omega (arith, both)

  within : (i : ℕ) → i < length rows → AllByRecursion (λ a. a.1 < length (states ++ more)) (row_at rows i).arcs
  within i l = within_more (length states) (length (states ++ more)) (row_at rows i).arcs longer (are.within i l)

-- ---- one more row

module _ (P : ℕ → StateRow → Type 0) (rows : List StateRow) (row : StateRow) (f : (i : ℕ) → i < length rows → P i (row_at rows i))
    (h : P (length rows) row) where
  last_pushed : (i : ℕ) → i ≡ length rows → P i (row_at (rows ++ row ∷ []) i)
  last_pushed i e =
      subst (λ n. P n (row_at (rows ++ row ∷ []) n)) (sym e) (subst (P (length rows)) (sym (get_or_push rows row last_row (length rows) refl)) h)

  each_pushed : (i : ℕ) → i < length (rows ++ row ∷ []) → P i (row_at (rows ++ row ∷ []) i)
  each_pushed i l =
      elim (cases_lt i (length rows)) [
        | inl lt ↦ subst (P i) (sym (get_or_append_left rows (row ∷ []) last_row i lt)) (f i lt)
        | inr ge ↦ last_pushed i (let one = length-append rows (row ∷ []) in omega (arith, ge, l, one))
      ]

pub rows_push : (states : List RegexState) (rows : List StateRow) (row : StateRow) → AreRows states rows
    → IsRowOf states (state_at states (length rows)) row → AllByRecursion (λ a. a.1 < length states) row.arcs → AreRows states (rows ++ row ∷ [])
rows_push states rows row are is fits =
    record {
      each = each_pushed (λ i x. IsRowOf states (state_at states i) x) rows row are.each is;
      within = each_pushed (λ i x. AllByRecursion (λ a. a.1 < length states) x.arcs) rows row are.within fits;
    }

-- ---- each state has its row

pub table_made : (r : Regex) (start : ℕ) (states : List RegexState) (rows : List StateRow) → AreRows states rows → length states ≡ length rows
    → state_at states start ≡ r ∷ [] → IsTableOf r start states rows
table_made r start states rows are as_many first = record { first = first; as_many = as_many; each = are.each }
