-- Linear forms of expressions: for each first character that a text may have, what has to match the rest of the text.
-- A state is a list of expressions that have to match one after the other.
use Rattle.std.specs.Prelude.{◌⊎◌, ◌≡◌, ℕ, ◌-◌, List, [], ◌∷◌, ◌++◌, Bool, true, false, ◌&&◌, ◌||◌}
use Rattle.std.specs.Prelude.{Option, Some, None, if◌then◌else◌, ◌==◌, nat_le}
use Rattle.std.specs.Option.{option_map}
use Rattle.std.specs.List.{list_all}
use Rattle.rng_model.specs.regexes.Expressions.{Class, holds, Regex, nothing_more, one_of, both, either, times, Denotes}

abbrev pub RegexState : Type 0
RegexState = List Regex

-- the text is a concatenation of texts that the expressions of the state match
pub data AcceptsState : RegexState → List ℕ → Type 0 where
  nothing_left : AcceptsState [] []
  next_is : {r : Regex} {k : RegexState} {s t all : List ℕ} → Denotes r s → AcceptsState k t → all ≡ s ++ t → AcceptsState (r ∷ k) all

-- ---- the empty text

abbrev pub is_at_most : ℕ → Option ℕ → Bool
is_at_most n None = true
is_at_most n (Some m) = nat_le n m

-- whether the expression matches the empty text
unfoldable pub is_nullable : Regex → Bool
is_nullable nothing_more = true
is_nullable (one_of k) = false
is_nullable (both a b) = is_nullable a && is_nullable b
is_nullable (either a b) = is_nullable a || is_nullable b
is_nullable (times n m a) = is_at_most n m && (n == 0 || is_nullable a)

-- whether the state accepts the empty text
abbrev pub ends : RegexState → Bool
ends k = list_all is_nullable k

-- ---- a first character

-- a class of first characters, and what has to match the rest
abbrev pub Form : Type 0
Form = Class × RegexState

abbrev pub one_less : Option ℕ → Option ℕ
one_less m = option_map (λ n. n - 1) m

abbrev pub is_none_left : Option ℕ → Bool
is_none_left None = false
is_none_left (Some m) = m == 0

-- the forms of an expression with what has to match behind it
unfoldable pub forms_of : Regex → RegexState → List Form
forms_of nothing_more k = []
forms_of (one_of c) k = (c, k) ∷ []
forms_of (both a b) k = forms_of a (b ∷ k) ++ (if is_nullable a then forms_of b k else [])
forms_of (either a b) k = forms_of a k ++ forms_of b k
forms_of (times n m a) k = if is_none_left m then [] else forms_of a (times (n - 1) (one_less m) a ∷ k)

unfoldable pub forms : RegexState → List Form
forms [] = []
forms (r ∷ k) = forms_of r k ++ (if is_nullable r then forms k else [])

abbrev pub OneOf : {A : Type 0} → (A → Type 0) → List A → Type 0
OneOf P [] = ⊥
OneOf P (x ∷ xs) = P x ⊎ OneOf P xs

-- the class has the character, and the rest accepts the text
abbrev pub Takes : ℕ → List ℕ → Form → Type 0
Takes c s f = (holds f.0 c ≡ true) × AcceptsState f.1 s

-- ---- sets of states

-- what is behind the classes that have the character
abbrev pub rests_at : {A : Type 0} → ℕ → List (Class × A) → List A
rests_at c [] = []
rests_at c (f ∷ fs) = if holds f.0 c then f.1 ∷ rests_at c fs else rests_at c fs

-- the states behind a character
abbrev pub next_states : List RegexState → ℕ → List RegexState
next_states [] c = []
next_states (q ∷ qs) c = rests_at c (forms q) ++ next_states qs c

abbrev pub states_behind : List RegexState → List ℕ → List RegexState
states_behind qs [] = qs
states_behind qs (c ∷ s) = states_behind (next_states qs c) s

abbrev pub AcceptsOne : List RegexState → List ℕ → Type 0
AcceptsOne qs s = OneOf (λ q. AcceptsState q s) qs
