-- Worked cases: runs of states over texts, and a table with its run.
use Rattle.std.proofs.Common.{◌≡◌, ℕ, List, [], ◌∷◌, codes, refl, Bool, true, false, Some, None}
use Rattle.std.specs.List.{list_any}
use Rattle.rng_model.specs.regexes.Expressions.{Regex, nothing_more, one_of, both, times, only_char}
use Rattle.rng_model.specs.regexes.plain.LinearForms.{is_nullable, forms, forms_of, states_behind, ends}
use Rattle.xsd_regex.specs.plain.StateTable.{StateRow, row_at, state_at, forms_at, Link, linked, run_rows, accepts}

-- `a`, `a{1,3}b`, `(a?){2}`, `(a*)*b`, and one with a limit below its least number
a : Regex
a = one_of (only_char 0x61)

b : Regex
b = one_of (only_char 0x62)

few_then_b : Regex
few_then_b = both (both nothing_more (times 1 (Some 3) a)) b

two_at_most : Regex
two_at_most = times 2 (Some 2) (times 0 (Some 1) a)

nested_then_b : Regex
nested_then_b = both (times 0 None (times 0 None a)) b

impossible : Regex
impossible = times 2 (Some 1) a

runs : Regex → List ℕ → Bool
runs r s = list_any ends (states_behind ((r ∷ []) ∷ []) s)

few : runs few_then_b (codes "aaab") ≡ true
unfolding runs few_then_b a b forms forms_of is_nullable
few = refl

too_few : runs few_then_b (codes "b") ≡ false
unfolding runs few_then_b a b forms forms_of is_nullable
too_few = refl

too_many : runs few_then_b (codes "aaaab") ≡ false
unfolding runs few_then_b a b forms forms_of is_nullable
too_many = refl

-- a copy may be empty
one_of_two : runs two_at_most (codes "a") ≡ true
unfolding runs two_at_most a forms forms_of is_nullable
one_of_two = refl

three : runs two_at_most (codes "aaa") ≡ false
unfolding runs two_at_most a forms forms_of is_nullable
three = refl

nested : runs nested_then_b (codes "aab") ≡ true
unfolding runs nested_then_b a b forms forms_of is_nullable
nested = refl

never : runs impossible (codes "a") ≡ false
unfolding runs impossible a forms forms_of is_nullable
never = refl

never_empty : runs impossible [] ≡ false
unfolding runs impossible a forms forms_of is_nullable
never_empty = refl

-- the table of `a{1,3}b`, of which state 5 is the whole
links : List Link
links = (b, 0) ∷ (times 0 (Some 0) a, 1) ∷ (times 0 (Some 1) a, 1) ∷ (times 0 (Some 2) a, 1) ∷ (few_then_b, 0) ∷ []

rows : List StateRow
rows =
    record { arcs = []; is_end = true }
    ∷ record { arcs = (only_char 0x62, 0) ∷ []; is_end = false }
    ∷ record { arcs = (only_char 0x62, 0) ∷ []; is_end = false }
    ∷ record { arcs = (only_char 0x61, 2) ∷ (only_char 0x62, 0) ∷ []; is_end = false }
    ∷ record { arcs = (only_char 0x61, 3) ∷ (only_char 0x62, 0) ∷ []; is_end = false }
    ∷ record { arcs = (only_char 0x61, 4) ∷ []; is_end = false } ∷ []

arcs_are : forms (state_at (linked links) 3) ≡ forms_at (linked links) (row_at rows 3).arcs
unfolding rows links linked few_then_b a b forms forms_of is_nullable
arcs_are = refl

whole_arcs_are : forms (state_at (linked links) 5) ≡ forms_at (linked links) (row_at rows 5).arcs
unfolding rows links linked few_then_b a b forms forms_of is_nullable
whole_arcs_are = refl

accepted : accepts rows 5 (codes "aab") ≡ true
unfolding rows run_rows
accepted = refl

refused : accepts rows 5 (codes "aaaab") ≡ false
unfolding rows run_rows
refused = refl
