-- Marks of numbers, and a list of the numbers that are marked.
use Rattle.std.proofs.Common.{◌≡◌, ◌≢◌, ◌∙◌, ◌<◌, ◌==◌, ◌||◌, ℕ, suc, List, [], ◌∷◌, ◌++◌, length, Bool, true, false, true≢false}
use Rattle.std.proofs.Common.{refl, sym, ap, get_or, set, subst, arith, inl, inr}
use Rattle.std.proofs.Common.{eq-eqb, eqb-true}
use Rattle.std.specs.List.{sum_by}
use Rattle.std.proofs.lemmas.Bool.{cases_lt, false_from_ne_true, or_left, or_right, or_cases}
use Rattle.std.proofs.lemmas.List.{append-nil, get_or_past, get_or-set_same, get_or-set_other}
use Rattle.std.proofs.lemmas.List.Sums.{sum_by-cons}
use Rattle.xsd_automaton.specs.plain.Closures.{has_number}
use Rattle.xsd_automaton.specs.views.Reached.{blank, AreMarked}

pub true_within : (marks : List Bool) (i : ℕ) → get_or marks i false ≡ true → i < length marks
true_within marks i e =
    elim (cases_lt i (length marks)) [ inl h ↦ h | inr h ↦ absurd (true≢false (sym e ∙ get_or_past marks i false h)) ]

all_blank : (marks : List Bool) → ((i : ℕ) → get_or marks i false ≡ true → ⊥) → sum_by blank marks ≡ length marks
all_blank [] none = refl
all_blank (true ∷ marks) none = absurd (none 0 refl)
all_blank (false ∷ marks) none = let rest = all_blank marks (λ i e. none (suc i) e) in let one = sum_by-cons blank false marks in omega (arith, rest, one)

pub cleared : (most : ℕ) (marks : List Bool) → length marks ≡ most → ((i : ℕ) → get_or marks i false ≡ true → ⊥) → AreMarked most marks []
cleared most marks e none =
    let room = all_blank marks none in
    record { as_many = e; marked = λ i. false_from_ne_true (get_or marks i false) (none i); room = omega (arith, e, room) }

-- the last number is there
pub has_last : (is : List ℕ) (i : ℕ) → has_number (is ++ i ∷ []) i ≡ true
has_last [] i = or_left _ _ (eq-eqb i i refl)
has_last (j ∷ is) i = or_right _ _ (has_last is i)

pub has_before : (is js : List ℕ) (i : ℕ) → has_number is i ≡ true → has_number (is ++ js) i ≡ true
has_before [] js i e = absurd (true≢false (sym e))
has_before (j ∷ is) js i e =
    elim (or_cases (i == j) (has_number is i) e) [ inl h ↦ or_left _ _ h | inr h ↦ or_right _ _ (has_before is js i h) ]

has_before_last : (is : List ℕ) (n i : ℕ) → has_number (is ++ n ∷ []) i ≡ true → (i == n) ≡ false → has_number is i ≡ true
has_before_last [] n i e other = absurd (true≢false (sym (or_one (i == n) e) ∙ other)) where
  or_one : (b : Bool) → (b || false) ≡ true → b ≡ true
  or_one true e = refl
  or_one false e = e
has_before_last (j ∷ is) n i e other =
    elim (or_cases (i == j) (has_number (is ++ n ∷ []) i) e) [ inl h ↦ or_left _ _ h | inr h ↦ or_right _ _ (has_before_last is n i h other) ]

differs : (i n : ℕ) → (i == n) ≡ false → i ≢ n
differs i n e same = true≢false (sym (eq-eqb i n same) ∙ e)

-- the last number loses its mark
pub one_cleared : (marks : List Bool) (is js : List ℕ) (n i : ℕ) → n < length marks → is ≡ js ++ n ∷ []
    → ((i : ℕ) → get_or marks i false ≡ true → has_number is i ≡ true) → get_or (set marks n false) i false ≡ true → has_number js i ≡ true
one_cleared marks is js n i lt parts all e = by (i == n) refl where
  by : (b : Bool) → (i == n) ≡ b → has_number js i ≡ true
  by true same =
      let at = ap (λ k. get_or (set marks n false) k false) (eqb-true i n same) ∙ get_or-set_same marks n false false lt in
      absurd (true≢false (sym e ∙ at))
  by false other =
      has_before_last js n i
      (subst (λ l. has_number l i ≡ true) parts (all i (sym (get_or-set_other marks n i false false (differs i n other)) ∙ e))) other

pub none_left : (is : List ℕ) → (0 < length is → false ≡ true) → is ≡ []
none_left [] f = refl
none_left (i ∷ is) f = absurd (true≢false (sym (f (omega arith))))

-- no number is left
pub all_cleared : (most : ℕ) (marks : List Bool) (is js : List ℕ) → length marks ≡ most → is ≡ [] → is ≡ js ++ []
    → ((i : ℕ) → get_or marks i false ≡ true → has_number is i ≡ true) → AreMarked most marks js
all_cleared most marks is js many none parts all =
    subst (AreMarked most marks) (sym none ∙ parts ∙ append-nil js)
    (cleared most marks many (λ i e. true≢false (sym (subst (λ l. has_number l i ≡ true) none (all i e)))))
