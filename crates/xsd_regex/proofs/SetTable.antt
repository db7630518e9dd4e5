-- The run over a table of sets has the result of the run over the states.
use Rattle.std.proofs.Common.{◌≡◌, ◌↔◌, ◌<◌, ◌∙◌, ℕ, List, [], ◌∷◌, length, Bool, true, false, refl, sym}
use Rattle.std.specs.List.{AllByRecursion}
use Rattle.rng_model.proofs.Truths.{same_truth}
use Rattle.rng_model.specs.regexes.Expressions.{Regex, Denotes}
use Rattle.rng_model.specs.regexes.plain.LinearForms.{RegexState}
use Rattle.xsd_regex.specs.plain.StateTable.{StateRow, IsTableOf, step_rows, run_rows, one_ends, accepts, AreSame}
use Rattle.xsd_regex.specs.plain.SetTable.{SetRow, set_at, target_at, IsSetTable, run_sets}
use Rattle.xsd_regex.proofs.StateTable.{step_same, one_ends_same, table_if, table_then}

pub same_back : {ns ms : List ℕ} → AreSame ns ms → AreSame ms ns
same_back same = record { to = same.back; back = same.to }

module _ (rows : List StateRow) where
  pub run_same : (ns ms s : List ℕ) → AreSame ns ms → AreSame (run_rows rows ns s) (run_rows rows ms s)
  unfolding run_rows
  run_same ns ms [] same = same
  run_same ns ms (c ∷ s) same = run_same (step_rows rows ns c) (step_rows rows ms c) s (step_same rows c ns ms same)

  pub ends_alike : (ns ms : List ℕ) → AreSame ns ms → one_ends rows ns ≡ one_ends rows ms
  ends_alike ns ms same = same_truth (one_ends rows ns) (one_ends rows ms) (one_ends_same rows ns ms same) (one_ends_same rows ms ns (same_back same))

  -- what a text is answered is the same from sets that have the same members
  pub answers_alike : (ns ms s : List ℕ) → AreSame ns ms → one_ends rows (run_rows rows ns s) ≡ one_ends rows (run_rows rows ms s)
  answers_alike ns ms s same = ends_alike (run_rows rows ns s) (run_rows rows ms s) (run_same ns ms s same)

  -- the numbers behind a character may be in any order
  pub answer_behind : (ns ms : List ℕ) (c : ℕ) (s : List ℕ) → AreSame ms (step_rows rows ns c)
      → one_ends rows (run_rows rows ns (c ∷ s)) ≡ one_ends rows (run_rows rows ms s)
  unfolding run_rows
  answer_behind ns ms c s same = answers_alike (step_rows rows ns c) ms s (same_back same)

  -- once no state is left, no text is accepted
  pub none_left : (s : List ℕ) → one_ends rows (run_rows rows [] s) ≡ false
  unfolding run_rows
  none_left [] = refl
  none_left (c ∷ s) = none_left s

  module _ (is_known : ℕ → Bool) (group : ℕ → ℕ) (start : ℕ) (sets : List SetRow) (is : IsSetTable rows is_known group start sets) where
    -- one step from a set
    pub set_step : (i : ℕ) (c : ℕ) (s : List ℕ) → i < length sets → is_known c ≡ true
        → one_ends rows (run_rows rows (set_at sets i).members (c ∷ s))
        ≡ one_ends rows (run_rows rows (set_at sets (target_at sets i (group c))).members s)
    set_step i c s h k =
        answer_behind (set_at sets i).members (set_at sets (target_at sets i (group c))).members c s ((is.each i h).steps c k)

    pub first_set : (s : List ℕ) → one_ends rows (run_rows rows (set_at sets 0).members s) ≡ accepts rows start s
    first_set s = answers_alike (set_at sets 0).members (start ∷ []) s is.first

    run_is : (i : ℕ) (s : List ℕ) → i < length sets → AllByRecursion (λ c. is_known c ≡ true) s
        → (set_at sets (run_sets group sets i s)).is_end ≡ one_ends rows (run_rows rows (set_at sets i).members s)
    unfolding run_sets run_rows
    run_is i [] h all = (is.each i h).ends
    run_is i (c ∷ s) h all =
        run_is (target_at sets i (group c)) s ((is.each i h).within c all.0) all.1 ∙ sym (set_step i c s h all.0)

    pub sets_answer : (s : List ℕ) → AllByRecursion (λ c. is_known c ≡ true) s → (set_at sets (run_sets group sets 0 s)).is_end ≡ accepts rows start s
    sets_answer s all = run_is 0 s is.some all ∙ first_set s

    pub matched_by_sets : (r : Regex) (states : List RegexState) → IsTableOf r start states rows → (s : List ℕ)
        → AllByRecursion (λ c. is_known c ≡ true) s → Denotes r s ↔ ((set_at sets (run_sets group sets 0 s)).is_end ≡ true)
    matched_by_sets r states table s all =
        (λ m. sets_answer s all ∙ table_if r start states rows table s m, λ e. table_then r start states rows table s (sym (sets_answer s all) ∙ e))
