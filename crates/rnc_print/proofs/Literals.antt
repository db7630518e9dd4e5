-- Writing a literal byte by byte gives the literal.
use Rattle.std.proofs.Common.{◌≡◌, ◌∙◌, ℕ, suc, ◌+◌, ◌≤◌, arith, ◌<◌, Bool, true, false, cond, List, [], ◌∷◌, ◌++◌, flat_map, length, drop, get_or, refl, sym}
use Rattle.std.proofs.Common.{ap, append_assoc, codes, drop-cons}
use Rattle.std.specs.Prelude.{◌==◌}
use Rattle.std.proofs.lemmas.Bool.{eqb-true}
use Rattle.rncv_model.specs.printed.Words.{delimiter, with_character, runs_of, escaped, more_runs, joined_runs, literal}
use Rattle.rnc_print.specs.plain.Literals.{byte_text, open_text}
use Rattle.rnc_print.proofs.SameTests.{number_itself}

-- what is written for these runs if a run with this delimiter is open
abbrev rest_text : ℕ → List (ℕ × List ℕ) → List ℕ
rest_text quote [] = quote ∷ []
rest_text quote (run ∷ runs) = cond (quote == run.0) (flat_map escaped run.1 ++ run.0 ∷ more_runs runs) (quote ∷ more_runs (run ∷ runs))

-- what is written in front of a character if a run is open, whether or not another one is needed
abbrev before : Bool → ℕ → ℕ → List ℕ
before b quote d = cond b [] (quote ∷ (codes " ~ " ++ d ∷ []))

-- a run that begins with the character
run_begins : (quote d : ℕ) (w rest : List ℕ) (runs : List (ℕ × List ℕ)) (b : Bool) →
    (before b quote d ++ w) ++ (rest ++ d ∷ more_runs runs)
    ≡ cond b ((w ++ rest) ++ d ∷ more_runs runs) (quote ∷ (codes " ~ " ++ d ∷ ((w ++ rest) ++ d ∷ [])) ++ more_runs runs)
run_begins quote d w rest runs true = sym (append_assoc w rest (d ∷ more_runs runs))
run_begins quote d w rest runs false = simp append_assoc refl

byte_then : (c quote : ℕ) (runs : List (ℕ × List ℕ)) → byte_text quote c ++ rest_text (delimiter c) runs ≡ rest_text quote (with_character c runs)
byte_then c quote [] = run_begins quote (delimiter c) (escaped c) [] [] (quote == delimiter c)
byte_then c quote (run ∷ runs) = at_test (delimiter c == run.0) refl
  where
    at_test : (b : Bool) → (delimiter c == run.0) ≡ b
        → byte_text quote c ++ cond b (flat_map escaped run.1 ++ run.0 ∷ more_runs runs) (delimiter c ∷ more_runs (run ∷ runs))
        ≡ rest_text quote (cond b ((run.0, c ∷ run.1) ∷ runs) ((delimiter c, c ∷ []) ∷ run ∷ runs))
    at_test true e =
        ap (λ d. (before (quote == d) quote d ++ escaped c) ++ (flat_map escaped run.1 ++ run.0 ∷ more_runs runs)) (eqb-true (delimiter c) run.0 e)
        ∙ run_begins quote run.0 (escaped c) (flat_map escaped run.1) runs (quote == run.0)
    at_test false e = run_begins quote (delimiter c) (escaped c) [] (run ∷ runs) (quote == delimiter c)

open_is : (cs : List ℕ) (quote : ℕ) → open_text quote cs ≡ rest_text quote (runs_of cs)
open_is [] quote = refl
open_is (c ∷ cs) quote = ap (λ x. byte_text quote c ++ x) (open_is cs (delimiter c)) ∙ byte_then c quote (runs_of cs)

joined_is : (quote : ℕ) (run : ℕ × List ℕ) (runs : List (ℕ × List ℕ)) → (quote == run.0) ≡ true
    → joined_runs (run ∷ runs) ≡ quote ∷ rest_text quote (run ∷ runs)
joined_is quote run runs e =
    ap (λ x. run.0 ∷ x) (append_assoc (flat_map escaped run.1) (run.0 ∷ []) (more_runs runs))
    ∙ ap (λ d. d ∷ (flat_map escaped run.1 ++ run.0 ∷ more_runs runs)) (sym (eqb-true quote run.0 e))
    ∙ ap (λ b. quote ∷ cond b (flat_map escaped run.1 ++ run.0 ∷ more_runs runs) (quote ∷ more_runs (run ∷ runs))) (sym e)

begins : (c : ℕ) (runs : List (ℕ × List ℕ)) → joined_runs (with_character c runs) ≡ delimiter c ∷ rest_text (delimiter c) (with_character c runs)
begins c [] = joined_is (delimiter c) (delimiter c, c ∷ []) [] (number_itself (delimiter c))
begins c (run ∷ runs) = at_test (delimiter c == run.0) refl
  where
    at_test : (b : Bool) → (delimiter c == run.0) ≡ b → joined_runs (cond b ((run.0, c ∷ run.1) ∷ runs) ((delimiter c, c ∷ []) ∷ run ∷ runs))
        ≡ delimiter c ∷ rest_text (delimiter c) (cond b ((run.0, c ∷ run.1) ∷ runs) ((delimiter c, c ∷ []) ∷ run ∷ runs))
    at_test true e = joined_is (delimiter c) (run.0, c ∷ run.1) runs e
    at_test false e = joined_is (delimiter c) (delimiter c, c ∷ []) (run ∷ runs) (number_itself (delimiter c))

-- a literal is the delimiter of its first character, and then its bytes
pub literal_is : (c : ℕ) (cs : List ℕ) → literal (c ∷ cs) ≡ delimiter c ∷ open_text (delimiter c) (c ∷ cs)
literal_is c cs = begins c (runs_of cs) ∙ ap (λ x. delimiter c ∷ x) (sym (open_is (c ∷ cs) (delimiter c)))

-- one byte more
pub byte_written : (old new bytes total : List ℕ) (quote next i : ℕ) → i < length bytes → next ≡ delimiter (get_or bytes i 0)
    → new ≡ old ++ byte_text quote (get_or bytes i 0)
    → old ++ open_text quote (drop i bytes) ≡ total → new ++ open_text next (drop (i + 1) bytes) ≡ total
byte_written old new bytes total quote next i l n w h =
    let one : suc i ≡ i + 1 = omega arith in
    ap (λ x. x ++ open_text next (drop (i + 1) bytes)) w
    ∙ append_assoc old (byte_text quote (get_or bytes i 0)) (open_text next (drop (i + 1) bytes))
    ∙ ap (λ q. old ++ (byte_text quote (get_or bytes i 0) ++ open_text q (drop (i + 1) bytes))) n
    ∙ ap (λ bs. old ++ open_text quote bs) (sym (drop-cons bytes i 0 l ∙ ap (λ m. get_or bytes i 0 ∷ drop m bytes) one))
    ∙ h

-- the delimiter of the first byte
pub literal_begun : (old new bytes : List ℕ) (quote : ℕ) → 1 ≤ length bytes → quote ≡ delimiter (get_or bytes 0 0) → new ≡ old ++ quote ∷ []
    → new ++ open_text quote (drop 0 bytes) ≡ old ++ literal bytes
literal_begun old new [] quote l e n = absurd (omega (arith, l))
literal_begun old new (c ∷ cs) quote l e n =
    ap (λ x. x ++ open_text quote (c ∷ cs)) n
    ∙ append_assoc old (quote ∷ []) (open_text quote (c ∷ cs))
    ∙ ap (λ q. old ++ (q ∷ open_text q (c ∷ cs))) e
    ∙ ap (λ x. old ++ x) (sym (literal_is c cs))
