-- The definition of durations, step by step: which branch it takes, by what the front of the text is.
use Rattle.std.proofs.Common.{◌≡◌, ℕ, List, [], ◌∷◌, length, Bool, true, false, ◌&&◌, ◌==◌, cond, not, Option, Some, None, refl, sym, ap, ◌∙◌, rules, tests, arith, true≢false}
use Rattle.std.proofs.lemmas.Option.{same_Some}
use Rattle.rng_model.specs.datatypes.Texts.{is_blank, has_bytes}
use Rattle.rng_types.specs.plain.Runs.{from_run}
use Rattle.rng_model.specs.xsd.primitives.Fronts.{Front, ◌>>=◌, after}
use Rattle.rng_model.specs.xsd.primitives.Durations.{Duration, number_before, seconds_at, time_fields, time_part, duration_with, duration_fields, duration_of}
use Rattle.xsd_durations.specs.Parts.{period}
use Rattle.xsd_durations.proofs.FrontRuns.{ends-run}

-- ---- one byte

same_either : (m n : ℕ) (b : Bool) → (m == n) ≡ b → (n == m) ≡ b
same_either m n true e = search (rules, tests, arith)
same_either m n false e = search (rules, tests, arith)

some_not_none : {A : Type 0} (x : A) → Some x ≡ None → ⊥
some_not_none x e = search rules

-- the byte begins the text
record Begins (b c : ℕ) (s rest : List ℕ) : Type 0 where
  first : (c == b) ≡ true
  behind : rest ≡ s

begins : (b c : ℕ) (s rest : List ℕ) → Some rest ≡ after b (c ∷ s) → Begins b c s rest
begins b c s rest e = by_first (b == c) refl
  where
    by_first : (v : Bool) → (b == c) ≡ v → Begins b c s rest
    by_first true is = record { first = same_either b c true is; behind = same_Some rest s (e ∙ rw is refl) }
    by_first false is = absurd (some_not_none rest (e ∙ rw is refl))

begins_not : (b c : ℕ) (s : List ℕ) → None ≡ after b (c ∷ s) → (c == b) ≡ false
begins_not b c s e = by_first (b == c) refl
  where
    by_first : (v : Bool) → (b == c) ≡ v → (c == b) ≡ false
    by_first true is = absurd (some_not_none s (sym (e ∙ rw is refl)))
    by_first false is = same_either b c false is

-- ---- a blank text

has-run : (s : List ℕ) → has_bytes (from_run s) ≡ not (is_blank s)
has-run s = some_bytes (from_run s) ∙ ap not (ends-run s)
  where
    some_bytes : (t : List ℕ) → has_bytes t ≡ not (length t == 0)
    some_bytes [] = refl
    some_bytes (b ∷ t) = search (rules, tests, arith)

blank-run : (s : List ℕ) → is_blank s ≡ true → from_run s ≡ []
blank-run s e = empty (from_run s) (ends-run s ∙ e)
  where
    empty : (t : List ℕ) → (length t == 0) ≡ true → t ≡ []
    empty [] e = refl
    empty (b ∷ t) e = absurd (search (rules, tests, arith))

-- ---- hours, minutes and seconds

abbrev time_ended : List ℕ → Front → Front → Front → Option (ℕ × ℕ × ℕ)
time_ended s h m q = cond (has_bytes s && (length q.1 == 0)) (Some (h.0, m.0, q.0)) None

time_is : (s : List ℕ) (h m q : Front) → h ≡ number_before 0x48 s → m ≡ number_before 0x4D h.1 → q ≡ seconds_at m.1 → time_ended s h m q ≡ time_fields s
time_is s h m q h_is m_is q_is =
    ap (time_ended s h m) q_is
    ∙ (ap (λ m. time_ended s h m (seconds_at m.1)) m_is
    ∙ ap (λ h. time_ended s h (number_before 0x4D h.1) (seconds_at (number_before 0x4D h.1).1)) h_is)

pub time_whole : (s rest : List ℕ) (h m q : Front) → h ≡ number_before 0x48 (from_run s) → m ≡ number_before 0x4D h.1 → q ≡ seconds_at m.1
    → q.1 ≡ from_run rest → is_blank s ≡ false → is_blank rest ≡ true → Some (h.0, m.0, q.0) ≡ time_fields (from_run s)
time_whole s rest h m q h_is m_is q_is end some whole =
    let has : has_bytes (from_run s) ≡ true = has-run s ∙ ap not some in
    let ends : (length q.1 == 0) ≡ true = ap (λ t. length t == 0) end ∙ (ends-run rest ∙ whole) in
    all (has_bytes (from_run s)) (length q.1 == 0) (h.0, m.0, q.0) has ends ∙ time_is (from_run s) h m q h_is m_is q_is
  where
    all : {A : Type 0} (a b : Bool) (x : A) → a ≡ true → b ≡ true → Some x ≡ cond (a && b) (Some x) None
    all a b x e f = rw (e, f) refl

pub time_blank : (s : List ℕ) → is_blank s ≡ true → None ≡ time_fields (from_run s)
time_blank s e = ap time_fields (sym (blank-run s e))

pub time_more : (s rest : List ℕ) (h m q : Front) → h ≡ number_before 0x48 (from_run s) → m ≡ number_before 0x4D h.1 → q ≡ seconds_at m.1
    → q.1 ≡ from_run rest → is_blank rest ≡ false → None ≡ time_fields (from_run s)
time_more s rest h m q h_is m_is q_is end more =
    let ends : (length q.1 == 0) ≡ false = ap (λ t. length t == 0) end ∙ (ends-run rest ∙ more) in
    sym (none (has_bytes (from_run s)) (length q.1 == 0) (h.0, m.0, q.0) ends) ∙ time_is (from_run s) h m q h_is m_is q_is
  where
    none : {A : Type 0} (a b : Bool) (x : A) → b ≡ false → cond (a && b) (Some x) None ≡ None
    none true b x e = rw e refl
    none false b x e = refl

-- ---- `T` and these

pub time_none : (s : List ℕ) → is_blank s ≡ true → Some (0, 0, 0) ≡ time_part (from_run s)
time_none s e = ap time_part (sym (blank-run s e))

pub time_at : (s rest : List ℕ) → Some rest ≡ after 0x54 s → time_fields rest ≡ time_part s
time_at [] rest e = absurd (some_not_none rest e)
time_at (c ∷ s) rest e = let is = begins 0x54 c s rest e in rw (is.first, is.behind) refl

pub time_other : (s : List ℕ) → (length s == 0) ≡ false → None ≡ after 0x54 s → None ≡ time_part s
time_other [] some e = absurd (true≢false some)
time_other (c ∷ s) some e = rw (begins_not 0x54 c s e) refl

-- ---- years, months and days, and the time behind them

abbrev fields_with : Bool → List ℕ → Front → Front → Front → Option Duration
fields_with minus s y m d = cond (has_bytes s) (time_part d.1 >>= λ t. Some (duration_with minus (y.0, m.0, d.0) t)) None

fields_are : (minus : Bool) (s : List ℕ) (y m d : Front) → y ≡ number_before 0x59 s → m ≡ number_before 0x4D y.1 → d ≡ number_before 0x44 m.1
    → fields_with minus s y m d ≡ duration_fields minus s
fields_are minus s y m d y_is m_is d_is =
    ap (fields_with minus s y m) d_is
    ∙ (ap (λ m. fields_with minus s y m (number_before 0x44 m.1)) m_is
    ∙ ap (λ y. fields_with minus s y (number_before 0x4D y.1) (number_before 0x44 (number_before 0x4D y.1).1)) y_is)

pub fields_blank : (minus : Bool) (s : List ℕ) → is_blank s ≡ true → None ≡ duration_fields minus (from_run s)
fields_blank minus s e = ap (duration_fields minus) (sym (blank-run s e))

pub fields_whole : (minus : Bool) (s : List ℕ) (y m d : Front) (t : ℕ × ℕ × ℕ) → y ≡ number_before 0x59 (from_run s) → m ≡ number_before 0x4D y.1
    → d ≡ number_before 0x44 m.1 → is_blank s ≡ false → Some t ≡ time_part d.1
    → Some (duration_with minus (y.0, m.0, d.0) t) ≡ duration_fields minus (from_run s)
fields_whole minus s y m d t y_is m_is d_is some time =
    let has : has_bytes (from_run s) ≡ true = has-run s ∙ ap not some in
    whole (has_bytes (from_run s)) (time_part d.1) has time ∙ fields_are minus (from_run s) y m d y_is m_is d_is
  where
    whole : (b : Bool) (o : Option (ℕ × ℕ × ℕ)) → b ≡ true → Some t ≡ o
        → Some (duration_with minus (y.0, m.0, d.0) t) ≡ cond b (o >>= λ t. Some (duration_with minus (y.0, m.0, d.0) t)) None
    whole b o e is = rw (e, ← is) refl

-- ---- an optional minus

pub minus_is : (s rest : List ℕ) → Some rest ≡ after 0x2D s → period true rest ≡ duration_of s
unfolding duration_of
minus_is [] rest e = absurd (some_not_none rest e)
minus_is (c ∷ s) rest e = let is = begins 0x2D c s rest e in rw (is.first, is.behind) refl

pub no_minus : (s : List ℕ) → None ≡ after 0x2D s → period false s ≡ duration_of s
unfolding duration_of
no_minus [] e = refl
no_minus (c ∷ s) e = rw (begins_not 0x2D c s e) refl
