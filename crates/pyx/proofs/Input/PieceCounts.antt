-- The counts after a line or a piece.
use Rattle.std.proofs.Common.{◌≡◌, ℕ, ◌+◌, ◌≤◌, ◌<◌, Bool, true, false, cond, List, [], ◌∷◌, ◌++◌, length, Result, Ok, Err, refl, sym, ◌∙◌, arith, rules, eqb}
use Rattle.std.specs.Prelude.{nat_le}
use Rattle.std.proofs.lemmas.List.{length-append}
use Rattle.pyx.proofs.Documents.Sound.{goes_first}
use Rattle.rng_model.proofs.Options.{err_is_ok}
use Rattle.rng_model.specs.documents.Lines.{line_limit, Fault}
use Rattle.rng_model.specs.documents.PyxTrees.{Event}
use Rattle.pyx.specs.plain.DocumentReader.{Turn, silent, go_on, followed, line_read}
use Rattle.pyx.specs.plain.Pieces.{Progress, with_begun, ended_line, open_line, byte_read, read, overlong, line_taken, weight}
use Rattle.pyx.proofs.Input.LineCounts.{line_keeps}
use Rattle.pyx.proofs.Input.LinesOfPieces.{Fails, overlong_fails, fails_first, long_fails}

went_well : {A B : Type 0} (r : Result A Fault) (es : List Event) (f : A → B) (q : B) → (go_on r es (λ a. silent (f a))).0 ≡ Ok q
    → (a : A) × (r ≡ Ok a) × (f a ≡ q)
went_well (Ok a) es f q e = (a, refl, cc)
went_well (Err x) es f q e = absurd cc

pub no_ok : {A : Type 0} (turn : Turn A) (q : A) → Fails turn → turn.0 ≡ Ok q → ⊥
no_ok turn q h e = err_is_ok (sym h.is ∙ e)

taken : (b : Bool) (front : List ℕ) (p q : Progress) → nat_le (length p.begun + length front) line_limit ≡ b →
    (cond b (followed (line_read (ended_line (p.begun ++ front)) p.state) (λ s. silent (with_begun [] s))) (overlong front p)).0 ≡ Ok q →
    length p.begun ≤ line_limit → (length q.begun ≡ 0) × (weight q ≤ weight p + length front + 1)
taken true front p q u e h =
    let w = went_well (line_read (ended_line (p.begun ++ front)) p.state).0 (line_read (ended_line (p.begun ++ front)) p.state).1 (with_begun []) q e in
    let k = line_keeps (ended_line (p.begun ++ front)) p.state w.0 w.1 in
    rw (← w.2) (refl, omega (arith, k.0, k.1, length-append p.begun front))
taken false front p q u e h = absurd (no_ok (overlong front p) q (overlong_fails front p h (search rules)) e)

pub line_counts : (front : List ℕ) (p q : Progress) → (line_taken front p).0 ≡ Ok q → length p.begun ≤ line_limit
    → (length q.begun ≡ 0) × (weight q ≤ weight p + length front + 1)
unfolding line_taken
line_counts front p q e h = taken (nat_le (length p.begun + length front) line_limit) front p q refl e h

-- ---- a piece

abbrev Counted : ℕ → Progress → Progress → Type 0
Counted n p q = (length q.begun ≤ line_limit) × (weight q ≤ weight p + n)

within_or : (b : Bool) (c : ℕ) (p q : Progress) → nat_le line_limit (length p.begun) ≡ b →
    (cond b (followed (line_read (open_line (p.begun ++ c ∷ [])) p.state) (λ s. silent (with_begun (p.begun ++ c ∷ []) s)))
    (silent (record p { begun = p.begun ++ c ∷ [] }))).0 ≡ Ok q →
    length p.begun ≤ line_limit → Counted 1 p q
within_or true c p q u e h =
    let k : line_limit ≤ length p.begun = search rules in
    absurd (no_ok _ q (fails_first _ _ (long_fails (open_line (p.begun ++ c ∷ [])) p.state (omega (arith, k, length-append p.begun (c ∷ []))))) e)
within_or false c p q u e h =
    let k : length p.begun < line_limit = search rules in
    let w : record p { begun = p.begun ++ c ∷ [] } ≡ q = cc in
    rw (← w) (omega (arith, k, length-append p.begun (c ∷ [])), omega (arith, length-append p.begun (c ∷ [])))

byte_or : (b : Bool) (c : ℕ) (p q : Progress) →
    (cond b (followed (line_read (ended_line p.begun) p.state) (λ s. silent (with_begun [] s))) (cond (nat_le line_limit (length p.begun))
    (followed (line_read (open_line (p.begun ++ c ∷ [])) p.state) (λ s. silent (with_begun (p.begun ++ c ∷ []) s)))
    (silent (record p { begun = p.begun ++ c ∷ [] })))).0 ≡ Ok q →
    length p.begun ≤ line_limit → Counted 1 p q
byte_or true c p q e h =
    let w = went_well (line_read (ended_line p.begun) p.state).0 (line_read (ended_line p.begun) p.state).1 (with_begun []) q e in
    let k = line_keeps (ended_line p.begun) p.state w.0 w.1 in
    rw (← w.2) (omega arith, omega (arith, k.0, k.1))
byte_or false c p q e h = within_or (nat_le line_limit (length p.begun)) c p q refl e h

byte_counts : (c : ℕ) (p q : Progress) → (byte_read c p).0 ≡ Ok q → length p.begun ≤ line_limit → Counted 1 p q
unfolding byte_read
byte_counts c p q e h = byte_or (eqb c 10) c p q e h

pub read_counts : (bytes : List ℕ) (p q : Progress) → (read bytes p).0 ≡ Ok q → length p.begun ≤ line_limit → Counted (length bytes) p q
unfolding read
read_counts [] p q e h = let w : p ≡ q = cc in rw (← w) (h, omega arith)
read_counts (c ∷ cs) p q e h =
    let w = goes_first (byte_read c p).0 (byte_read c p).1 (read cs) q e in
    let one = byte_counts c p w.0 w.1 h in
    let more = read_counts cs w.0 q w.2 one.0 in
    (more.0, omega (arith, more.1, one.1))
