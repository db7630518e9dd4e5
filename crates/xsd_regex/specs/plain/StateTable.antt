-- A table of the states of an expression, and its run over a text.
use Rattle.std.specs.Prelude.{◌≡◌, ℕ, ◌<◌, List, [], ◌∷◌, ◌++◌, length, map, Bool, true, slice_index_or}
use Rattle.std.specs.List.{fold, list_any, AllByRecursion}
use Rattle.rng_model.specs.regexes.Expressions.{Class, Regex}
use Rattle.rng_model.specs.regexes.plain.LinearForms.{RegexState, Form, OneOf, Takes, forms, ends, rests_at}

-- A row for each state: for each class of first characters the state of the rest, and whether the state accepts the
-- empty text.
pub record StateRow : Type 0 where
  pub arcs : List (Class × ℕ)
  pub is_end : Bool

-- the row of the state of which nothing is left
abbrev pub last_row : StateRow
last_row = record { arcs = []; is_end = true }

abbrev pub row_at : List StateRow → ℕ → StateRow
row_at rows i = slice_index_or rows i last_row

abbrev pub state_at : List RegexState → ℕ → RegexState
state_at states i = slice_index_or states i []

-- ---- what a table is

abbrev pub forms_at : List RegexState → List (Class × ℕ) → List Form
forms_at states arcs = map (λ a. (a.0, state_at states a.1)) arcs

-- The arcs take what the forms of the state take. They may be in another order, and equal ones may be joined.
pub record IsRowOf (states : List RegexState) (q : RegexState) (row : StateRow) : Type 0 where
  pub to : (c : ℕ) (s : List ℕ) → OneOf (Takes c s) (forms q) → OneOf (Takes c s) (forms_at states row.arcs)
  pub back : (c : ℕ) (s : List ℕ) → OneOf (Takes c s) (forms_at states row.arcs) → OneOf (Takes c s) (forms q)
  pub end : row.is_end ≡ ends q

pub record IsTableOf (r : Regex) (start : ℕ) (states : List RegexState) (rows : List StateRow) : Type 0 where
  pub first : state_at states start ≡ r ∷ []
  pub as_many : length states ≡ length rows
  pub each : (i : ℕ) → i < length rows → IsRowOf states (state_at states i) (row_at rows i)

-- the rows that are made so far, of the first states
pub record AreRows (states : List RegexState) (rows : List StateRow) : Type 0 where
  pub each : (i : ℕ) → i < length rows → IsRowOf states (state_at states i) (row_at rows i)
  pub within : (i : ℕ) → i < length rows → AllByRecursion (λ a. a.1 < length states) (row_at rows i).arcs

-- ---- states that share what they have in common

-- the first expression of a state, and the number of the state of the others; each state is behind that one
abbrev pub Link : Type 0
Link = Regex × ℕ

abbrev pub with_link : List RegexState → Link → List RegexState
with_link states l = states ++ (l.0 ∷ state_at states l.1) ∷ []

-- state 0 has no expression
unfoldable pub linked : List Link → List RegexState
linked ls = fold with_link ([] ∷ []) ls

-- ---- the run

-- the numbers of the states behind a character
abbrev pub step_rows : List StateRow → List ℕ → ℕ → List ℕ
step_rows rows [] c = []
step_rows rows (i ∷ is) c = rests_at c (row_at rows i).arcs ++ step_rows rows is c

unfoldable pub run_rows : List StateRow → List ℕ → List ℕ → List ℕ
run_rows rows is [] = is
run_rows rows is (c ∷ s) = run_rows rows (step_rows rows is c) s

abbrev pub one_ends : List StateRow → List ℕ → Bool
one_ends rows is = list_any (λ i. (row_at rows i).is_end) is

-- whether the text is accepted
abbrev pub accepts : List StateRow → ℕ → List ℕ → Bool
accepts rows start s = one_ends rows (run_rows rows (start ∷ []) s)

-- sets of numbers that have the same members
abbrev pub Has : List ℕ → ℕ → Type 0
Has is i = OneOf (λ j. i ≡ j) is

pub record AreSame (is js : List ℕ) : Type 0 where
  pub to : (i : ℕ) → Has is i → Has js i
  pub back : (i : ℕ) → Has js i → Has is i
