-- Texts without their blanks.
use Rattle.std.proofs.Common.{◌≡◌, ℕ, List, [], ◌∷◌, ◌++◌, Bool, true, false, not, cond, refl, sym, ap, ◌∙◌, rules, append-nil}
use Rattle.std.specs.List.{list_all, concat}
use Rattle.std.proofs.lemmas.Bool.{and_parts, not-true}
use Rattle.rng_model.specs.datatypes.Texts.{is_blank_byte, is_blank, has_bytes, pieces, collapse}
use Rattle.rng_model.specs.plain.BlankRuns.{is_run_byte, HasRuns, no_run, then_run}
use Rattle.rng_model.proofs.BlankRuns.{HasRuns-pieces, pieces-collapse}
use Rattle.rng_types.specs.plain.Runs.{past_blanks}
use Rattle.rng_model.specs.xsd.primitives.Octets.{without_blanks}
use Rattle.xsd_values.proofs.Base64Grammar.{kept}

blanks_out : (before s : List ℕ) → is_blank before ≡ true → without_blanks (before ++ s) ≡ without_blanks s
blanks_out [] s e = refl
blanks_out (b ∷ before) s e =
    let both = and_parts (is_blank_byte b) (is_blank before) e in
    ap (λ x. cond (not x) (b ∷ without_blanks (before ++ s)) (without_blanks (before ++ s))) both.0 ∙ blanks_out before s both.1

run_stays : (run s : List ℕ) → list_all is_run_byte run ≡ true → without_blanks (run ++ s) ≡ run ++ without_blanks s
run_stays [] s e = refl
run_stays (b ∷ run) s e =
    let both = and_parts (is_run_byte b) (list_all is_run_byte run) e in
    kept b (run ++ s) (not-true (is_blank_byte b) both.0) ∙ ap (λ t. b ∷ t) (run_stays run s both.1)

runs_stay : (s : List ℕ) (runs : List (List ℕ)) → HasRuns s runs → without_blanks s ≡ concat runs
runs_stay s _ (no_run e) = ap without_blanks (sym (append-nil s)) ∙ blanks_out s [] e
runs_stay s _ (then_run {run} {runs} before rest blank is ends more parts) =
    ap without_blanks parts ∙ blanks_out before (run ++ rest) blank ∙ run_stays run rest (and_parts (has_bytes run) (list_all is_run_byte run) is).1
    ∙ ap (λ t. run ++ t) (runs_stay rest runs more)

-- blanks that collapse are no matter
pub collapsed_without : (s : List ℕ) → without_blanks (collapse s) ≡ without_blanks s
collapsed_without s =
    runs_stay (collapse s) (pieces (collapse s)) (HasRuns-pieces (collapse s)) ∙ ap concat (pieces-collapse s)
    ∙ sym (runs_stay s (pieces s) (HasRuns-pieces s))

past_by : (b : ℕ) (s : List ℕ) (c : Bool) → is_blank_byte b ≡ c → without_blanks (past_blanks s) ≡ without_blanks s
    → without_blanks (past_blanks (b ∷ s)) ≡ without_blanks (b ∷ s)
past_by b s true c e = rw c e
past_by b s false c e = ap (λ x. without_blanks (cond x (past_blanks s) (b ∷ s))) c

past_without : (s : List ℕ) → without_blanks (past_blanks s) ≡ without_blanks s
past_without [] = refl
past_without (b ∷ s) = past_by b s (is_blank_byte b) refl (past_without s)

first_by : (b : ℕ) (s : List ℕ) (d : ℕ) (t : List ℕ) (c : Bool) → is_blank_byte b ≡ c → (past_blanks s ≡ d ∷ t → is_blank_byte d ≡ false)
    → past_blanks (b ∷ s) ≡ d ∷ t → is_blank_byte d ≡ false
first_by b s d t true c more e = more (rw c at e)
first_by b s d t false c more e =
    let same : b ∷ s ≡ d ∷ t = rw c at e in
    let first : b ≡ d = cc in
    ap is_blank_byte (sym first) ∙ c

first_past : (s : List ℕ) (d : ℕ) (t : List ℕ) → past_blanks s ≡ d ∷ t → is_blank_byte d ≡ false
first_past [] d t e = search rules
first_past (b ∷ s) d t e = first_by b s d t (is_blank_byte b) refl (first_past s d t) e

-- the first byte behind the blanks is the next character
pub next_is : (s : List ℕ) (d : ℕ) (t : List ℕ) → past_blanks s ≡ d ∷ t → without_blanks s ≡ d ∷ without_blanks t
next_is s d t e = sym (past_without s) ∙ ap without_blanks e ∙ kept d t (first_past s d t e)

pub none_left : (s : List ℕ) → past_blanks s ≡ [] → without_blanks s ≡ []
none_left s e = sym (past_without s) ∙ ap without_blanks e
