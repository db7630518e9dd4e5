-- The run over the rows of a table decides whether the expression matches the text.
use Rattle.std.proofs.Common.{◌≡◌, ◌↔◌, ◌≤◌, ◌∙◌, ℕ, List, [], ◌∷◌, ◌++◌, length, Bool, true, cond, refl, sym, ap, subst, inl, inr, arith}
use Rattle.std.specs.List.{list_any, AllByRecursion}
use Rattle.std.proofs.lemmas.Bool.{or_left, or_right, or_cases, cases_lt}
use Rattle.std.proofs.lemmas.List.{get_or_past}
use Rattle.rng_model.specs.regexes.Expressions.{Class, holds, Regex, Denotes}
use Rattle.rng_model.specs.regexes.plain.LinearForms.{RegexState, AcceptsState, OneOf, Takes, forms, rests_at, ends}
use Rattle.xsd_regex.specs.plain.StateTable.{StateRow, last_row, row_at, state_at, forms_at, IsRowOf, IsTableOf}
use Rattle.xsd_regex.specs.plain.StateTable.{step_rows, run_rows, one_ends, accepts, Has, AreSame}
use Rattle.xsd_regex.proofs.OneOf.{in_first, in_second, of_both, each_to, each_from, one_to, one_test_if, one_test_then}
use Rattle.xsd_regex.proofs.Nullable.{ends_if, ends_then}
use Rattle.xsd_regex.proofs.LinearForms.{state_forms_if, state_forms_then}
use Rattle.xsd_regex.proofs.Runs.{HasChar, behind_if, behind_then, alone_if, alone_then}

-- the row of a state that nothing is left of
no_state_row : (states : List RegexState) → IsRowOf states [] last_row
unfolding forms
no_state_row states = record { to = λ c s h. h; back = λ c s h. h; end = refl }

module _ (r : Regex) (start : ℕ) (states : List RegexState) (rows : List StateRow) (is : IsTableOf r start states rows) where
  row_is : (i : ℕ) → IsRowOf states (state_at states i) (row_at rows i)
  row_is i = elim (cases_lt i (length rows)) [ inl h ↦ is.each i h | inr h ↦ past h ] where
    past : length rows ≤ i → IsRowOf states (state_at states i) (row_at rows i)
    past h =
        subst (λ q. IsRowOf states q (row_at rows i)) (sym (get_or_past states i [] (omega (arith, h, is.as_many))))
        (subst (IsRowOf states []) (sym (get_or_past rows i last_row h)) (no_state_row states))

  -- the state of this number accepts the text
  abbrev Accepts : List ℕ → ℕ → Type 0
  Accepts s i = AcceptsState (state_at states i) s

  module _ (c : ℕ) (s : List ℕ) where
    arcs_if : (i : ℕ) → Accepts (c ∷ s) i → OneOf (Accepts s) (rests_at c (row_at rows i).arcs)
    arcs_if i a =
        behind_if (Accepts s) c (row_at rows i).arcs
        (each_from (HasChar (Accepts s) c) (Takes c s) (λ a. (a.0, state_at states a.1)) (row_at rows i).arcs (λ x h. h)
        ((row_is i).to c s (state_forms_if c (state_at states i) s a)))

    arcs_then : (i : ℕ) → OneOf (Accepts s) (rests_at c (row_at rows i).arcs) → Accepts (c ∷ s) i
    arcs_then i h =
        state_forms_then c (state_at states i) s
        ((row_is i).back c s
        (each_to (HasChar (Accepts s) c) (Takes c s) (λ a. (a.0, state_at states a.1)) (row_at rows i).arcs (λ x h. h)
        (behind_then (Accepts s) c (row_at rows i).arcs h)))

    step_if : (ns : List ℕ) → OneOf (Accepts (c ∷ s)) ns → OneOf (Accepts s) (step_rows rows ns c)
    step_if [] h = h
    step_if (i ∷ ns) (inl a) = in_first (Accepts s) (rests_at c (row_at rows i).arcs) (step_rows rows ns c) (arcs_if i a)
    step_if (i ∷ ns) (inr h) = in_second (Accepts s) (rests_at c (row_at rows i).arcs) (step_rows rows ns c) (step_if ns h)

    step_then : (ns : List ℕ) → OneOf (Accepts s) (step_rows rows ns c) → OneOf (Accepts (c ∷ s)) ns
    step_then [] h = h
    step_then (i ∷ ns) h =
        elim (of_both (Accepts s) (rests_at c (row_at rows i).arcs) (step_rows rows ns c) h)
        [ inl a ↦ inl (arcs_then i a) | inr b ↦ inr (step_then ns b) ]

  run_if : (ns : List ℕ) (s : List ℕ) → OneOf (Accepts s) ns → OneOf (Accepts []) (run_rows rows ns s)
  unfolding run_rows
  run_if ns [] h = h
  run_if ns (c ∷ s) h = run_if (step_rows rows ns c) s (step_if c s ns h)

  run_then : (ns : List ℕ) (s : List ℕ) → OneOf (Accepts []) (run_rows rows ns s) → OneOf (Accepts s) ns
  unfolding run_rows
  run_then ns [] h = h
  run_then ns (c ∷ s) h = step_then c s ns (run_then (step_rows rows ns c) s h)

  end_if : (i : ℕ) → Accepts [] i → (row_at rows i).is_end ≡ true
  end_if i a = (row_is i).end ∙ ends_if (state_at states i) a

  end_then : (i : ℕ) → (row_at rows i).is_end ≡ true → Accepts [] i
  end_then i e = ends_then (state_at states i) (sym (row_is i).end ∙ e)

  pub table_if : (s : List ℕ) → Denotes r s → accepts rows start s ≡ true
  table_if s m =
      one_test_if (λ i. (row_at rows i).is_end) (run_rows rows (start ∷ []) s)
      (one_to (Accepts []) (λ i. (row_at rows i).is_end ≡ true) (run_rows rows (start ∷ []) s) end_if
      (run_if (start ∷ []) s (inl (subst (λ q. AcceptsState q s) (sym is.first) (alone_if r s m)))))

  pub table_then : (s : List ℕ) → accepts rows start s ≡ true → Denotes r s
  table_then s e =
      only (run_then (start ∷ []) s
      (one_to (λ i. (row_at rows i).is_end ≡ true) (Accepts []) (run_rows rows (start ∷ []) s) end_then
      (one_test_then (λ i. (row_at rows i).is_end) (run_rows rows (start ∷ []) s) e)))
    where
      only : OneOf (Accepts s) (start ∷ []) → Denotes r s
      only (inl a) = alone_then r s (subst (λ q. AcceptsState q s) is.first a)
      only (inr h) = absurd h

  pub matched_by_table : (s : List ℕ) → Denotes r s ↔ (accepts rows start s ≡ true)
  matched_by_table s = (table_if s, table_then s)

-- ---- a row with the forms in their order

pub row_of_forms : (states : List RegexState) (q : RegexState) (row : StateRow) → forms q ≡ forms_at states row.arcs → row.is_end ≡ ends q
    → IsRowOf states q row
row_of_forms states q row e end =
    record { to = λ c s h. subst (OneOf (Takes c s)) e h; back = λ c s h. subst (OneOf (Takes c s)) (sym e) h; end = end }

-- ---- sets of numbers with the same members

module _ (rows : List StateRow) (c : ℕ) where
  -- a number that a step goes to, and one that it goes from
  pub gone_from : (ns : List ℕ) (j : ℕ) → Has (step_rows rows ns c) j → (i : ℕ) × Has ns i × Has (rests_at c (row_at rows i).arcs) j
  gone_from [] j h = absurd h
  gone_from (n ∷ ns) j h =
      elim (of_both (λ l. j ≡ l) (rests_at c (row_at rows n).arcs) (step_rows rows ns c) h)
      [ inl a ↦ (n, inl refl, a) | inr b ↦ let g = gone_from ns j b in (g.0, inr g.1, g.2) ]

  pub goes_to : (ns : List ℕ) (i j : ℕ) → Has ns i → Has (rests_at c (row_at rows i).arcs) j → Has (step_rows rows ns c) j
  goes_to [] i j h a = h
  goes_to (n ∷ ns) i j (inl e) a =
      in_first (λ l. j ≡ l) (rests_at c (row_at rows n).arcs) (step_rows rows ns c) (subst (λ l. Has (rests_at c (row_at rows l).arcs) j) e a)
  goes_to (n ∷ ns) i j (inr h) a = in_second (λ l. j ≡ l) (rests_at c (row_at rows n).arcs) (step_rows rows ns c) (goes_to ns i j h a)

  step_members : (ns ms : List ℕ) → ((i : ℕ) → Has ns i → Has ms i) → (j : ℕ) → Has (step_rows rows ns c) j → Has (step_rows rows ms c) j
  step_members ns ms f j h = let g = gone_from ns j h in goes_to ms g.0 j (f g.0 g.1) g.2

  pub step_same : (ns ms : List ℕ) → AreSame ns ms → AreSame (step_rows rows ns c) (step_rows rows ms c)
  step_same ns ms same = record { to = step_members ns ms same.to; back = step_members ms ns same.back }

module _ (test : ℕ → Bool) where
  pub passes_if : (ns : List ℕ) → list_any test ns ≡ true → (i : ℕ) × Has ns i × (test i ≡ true)
  passes_if [] e = absurd (cc)
  passes_if (n ∷ ns) e =
      elim (or_cases (test n) (list_any test ns) e) [ inl h ↦ (n, inl refl, h) | inr h ↦ let g = passes_if ns h in (g.0, inr g.1, g.2) ]

  pub passes_then : (ns : List ℕ) (i : ℕ) → Has ns i → test i ≡ true → list_any test ns ≡ true
  passes_then [] i h e = absurd h
  passes_then (n ∷ ns) i (inl same) e = or_left _ _ (subst (λ l. test l ≡ true) same e)
  passes_then (n ∷ ns) i (inr h) e = or_right _ _ (passes_then ns i h e)

-- whether one of them is at the end is the same
pub one_ends_same : (rows : List StateRow) (ns ms : List ℕ) → AreSame ns ms → one_ends rows ns ≡ true → one_ends rows ms ≡ true
one_ends_same rows ns ms same e =
    let g = passes_if (λ i. (row_at rows i).is_end) ns e in passes_then (λ i. (row_at rows i).is_end) ms g.0 (same.to g.0 g.1) g.2

-- ---- characters that are in the same classes

pub behind_alike : {A : Type 0} (c d : ℕ) (fs : List (Class × A)) → AllByRecursion (λ f. holds f.0 c ≡ holds f.0 d) fs → rests_at c fs ≡ rests_at d fs
behind_alike c d [] h = refl
behind_alike c d (f ∷ fs) h =
    ap (λ b. cond b (f.1 ∷ rests_at c fs) (rests_at c fs)) h.0 ∙ ap (λ l. cond (holds f.0 d) (f.1 ∷ l) l) (behind_alike c d fs h.1)

pub step_alike : (rows : List StateRow) (c d : ℕ) → ((i : ℕ) → AllByRecursion (λ a. holds a.0 c ≡ holds a.0 d) (row_at rows i).arcs) → (ns : List ℕ)
    → step_rows rows ns c ≡ step_rows rows ns d
step_alike rows c d h [] = refl
step_alike rows c d h (n ∷ ns) =
    ap (λ l. l ++ step_rows rows ns c) (behind_alike c d (row_at rows n).arcs (h n)) ∙ ap (λ l. rests_at d (row_at rows n).arcs ++ l) (step_alike rows c d h ns)
