-- UTF-8 and what is written character by character: escapes, runs, colons.
use Rattle.std.proofs.Common.{◌≡◌, ◌∙◌, ◌⊎◌, inl, inr, ℕ, suc, ◌+◌, ◌/◌, ◌%◌, ◌≤◌, ◌<◌, Bool, true, false, cond, List, [], ◌∷◌, ◌++◌, length, map, flat_map}
use Rattle.std.proofs.Common.{refl, sym, ap, subst, append_assoc, arith, codes}
use Rattle.std.specs.Prelude.{◌==◌, not, nat_lt, encode_utf8_all}
use Rattle.std.specs.List.{list_all, AllByRecursion}
use Rattle.std.specs.Char.{encode_utf8}
use Rattle.std.proofs.lemmas.Bool.{ne_eqb, eqb-true, and_parts, lt-ltb, le-ltb, ltb-true, ltb-false, and_from}
use Rattle.std.proofs.lemmas.List.{append-nil}
use Rattle.std.proofs.lemmas.Str.{encodes-append, encode_ascii}
use Rattle.rng_model.specs.names.Names.{is_xml_char}
use Rattle.rncv_model.specs.printed.Words.{delimiter, with_character, runs_of, escaped}
use Rattle.rnc_text.specs.plain.Marks.{is_within}
use Rattle.rnc_model.specs.tokens.Tokens.{is_quote}
use Rattle.std.proofs.lemmas.Bool.{false≢true}

-- ---- the bytes of a character that is not ASCII

abbrev pub AreHigh : List ℕ → Type 0
AreHigh bs = AllByRecursion (λ b. 128 ≤ b) bs

high_at : (c : ℕ) (x y z : Bool) → x ≡ false
    → AreHigh (cond x (c ∷ [])
    (cond y ((192 + c / 64) ∷ (128 + c % 64) ∷ [])
    (cond z ((224 + c / 4096) ∷ (128 + c / 64 % 64) ∷ (128 + c % 64) ∷ [])
    ((240 + c / 262144) ∷ (128 + c / 4096 % 64) ∷ (128 + c / 64 % 64) ∷ (128 + c % 64) ∷ []))))
high_at c true y z e = absurd (false≢true (sym e))
high_at c false true z e = (omega arith, (omega arith, tt))
high_at c false false true e = (omega arith, (omega arith, (omega arith, tt)))
high_at c false false false e = (omega arith, (omega arith, (omega arith, (omega arith, tt))))

pub high_bytes : (c : ℕ) → 128 ≤ c → AreHigh (encode_utf8 c)
unfolding encode_utf8
high_bytes c h = high_at c (nat_lt c 128) (nat_lt c 2048) (nat_lt c 65536) (le-ltb c 128 h)

pub low_or_high : (c : ℕ) → (c < 128) ⊎ (128 ≤ c)
low_or_high c = at_test (nat_lt c 128) refl
  where
    at_test : (b : Bool) → nat_lt c 128 ≡ b → (c < 128) ⊎ (128 ≤ c)
    at_test true e = inl (ltb-true c 128 e)
    at_test false e = inr (ltb-false c 128 e)

some_bytes : (c : ℕ) → encode_utf8 c ≡ [] → ⊥
unfolding encode_utf8
some_bytes c e = at_tests (nat_lt c 128) (nat_lt c 2048) (nat_lt c 65536) e
  where
    no_list : (x : ℕ) (xs : List ℕ) → x ∷ xs ≡ [] → ⊥
    no_list x xs e = let n : suc (length xs) ≡ 0 = ap length e in omega (arith, n)

    at_tests : (x y z : Bool) → cond x (c ∷ [])
        (cond y ((192 + c / 64) ∷ (128 + c % 64) ∷ [])
        (cond z ((224 + c / 4096) ∷ (128 + c / 64 % 64) ∷ (128 + c % 64) ∷ [])
        ((240 + c / 262144) ∷ (128 + c / 4096 % 64) ∷ (128 + c / 64 % 64) ∷ (128 + c % 64) ∷ []))) ≡ [] → ⊥
    at_tests true y z e = no_list _ _ e
    at_tests false true z e = no_list _ _ e
    at_tests false false true e = no_list _ _ e
    at_tests false false false e = no_list _ _ e

-- ---- escapes

pub other_number : (b c : ℕ) → 128 ≤ b → c < 128 → (b == c) ≡ false
other_number b c h l = ne_eqb b c (λ e. absurd (omega (arith, h, l, e)))

escaped_high : (b : ℕ) → 128 ≤ b → escaped b ≡ b ∷ []
escaped_high b h =
    rw (other_number b 0x5C h (omega arith), other_number b 0x9 h (omega arith), other_number b 0xA h (omega arith), other_number b 0xD h (omega arith)) refl

all_escaped_high : (bs : List ℕ) → AreHigh bs → flat_map escaped bs ≡ bs
all_escaped_high [] h = refl
all_escaped_high (b ∷ bs) h = rw (escaped_high b h.0, all_escaped_high bs h.1) refl

escaped_low : (c : ℕ) → c < 128 → encode_utf8_all (escaped c) ≡ escaped c
unfolding encode_utf8
escaped_low c lt = at_tests (c == 0x5C) (c == 0x9) (c == 0xA) (c == 0xD)
  where
    at_tests : (x y z w : Bool) → encode_utf8_all
        (cond x (0x5C ∷ codes "x{5C}") (cond y (0x5C ∷ codes "x{9}") (cond z (0x5C ∷ codes "x{A}") (cond w (0x5C ∷ codes "x{D}") (c ∷ [])))))
        ≡ cond x (0x5C ∷ codes "x{5C}") (cond y (0x5C ∷ codes "x{9}") (cond z (0x5C ∷ codes "x{A}") (cond w (0x5C ∷ codes "x{D}") (c ∷ []))))
    at_tests true y z w = refl
    at_tests false true z w = refl
    at_tests false false true w = refl
    at_tests false false false true = refl
    at_tests false false false false = rw (lt-ltb c 128 lt) refl

escaped_one : (c : ℕ) → flat_map escaped (encode_utf8 c) ≡ encode_utf8_all (escaped c)
escaped_one c = elim (low_or_high c) [
  | inl lt ↦ ap (flat_map escaped) (encode_ascii c lt) ∙ append-nil (escaped c) ∙ sym (escaped_low c lt)
  | inr h ↦ all_escaped_high (encode_utf8 c) (high_bytes c h) ∙ sym (append-nil (encode_utf8 c)) ∙ sym (ap encode_utf8_all (escaped_high c h))
]

flat_append : (f : ℕ → List ℕ) (xs ys : List ℕ) → flat_map f (xs ++ ys) ≡ flat_map f xs ++ flat_map f ys
flat_append f [] ys = refl
flat_append f (x ∷ xs) ys = ap (λ (y : List ℕ). f x ++ y) (flat_append f xs ys) ∙ sym (append_assoc (f x) (flat_map f xs) (flat_map f ys))

pub escaped_all : (ns : List ℕ) → flat_map escaped (encode_utf8_all ns) ≡ encode_utf8_all (flat_map escaped ns)
escaped_all [] = refl
escaped_all (c ∷ ns) =
    flat_append escaped (encode_utf8 c) (encode_utf8_all ns) ∙ rw (escaped_one c, escaped_all ns) (sym (encodes-append (escaped c) (flat_map escaped ns)))

-- ---- runs

abbrev pub encoded_run : ℕ × List ℕ → ℕ × List ℕ
encoded_run run = (run.0, encode_utf8_all run.1)

-- bytes in front, one after the other
abbrev in_front : List ℕ → List (ℕ × List ℕ) → List (ℕ × List ℕ)
in_front [] runs = runs
in_front (b ∷ bs) runs = with_character b (in_front bs runs)

runs_append : (xs ys : List ℕ) → runs_of (xs ++ ys) ≡ in_front xs (runs_of ys)
runs_append [] ys = refl
runs_append (x ∷ xs) ys = ap (with_character x) (runs_append xs ys)

delimiter_high : (b : ℕ) → 128 ≤ b → delimiter b ≡ 0x22
delimiter_high b h = rw (other_number b 0x22 h (omega arith)) refl

-- what runs become with some bytes between quotation marks in front
abbrev joined_front : List ℕ → List (ℕ × List ℕ) → List (ℕ × List ℕ)
joined_front bs [] = (0x22, bs) ∷ []
joined_front bs (run ∷ runs) = cond (0x22 == run.0) ((run.0, bs ++ run.1) ∷ runs) ((0x22, bs) ∷ run ∷ runs)

one_front : (b : ℕ) (runs : List (ℕ × List ℕ)) → delimiter b ≡ 0x22 → with_character b runs ≡ joined_front (b ∷ []) runs
one_front b [] d = rw d refl
one_front b (run ∷ runs) d = rw d refl

next_front : (b c : ℕ) (bs : List ℕ) (runs : List (ℕ × List ℕ)) → delimiter b ≡ 0x22
    → with_character b (joined_front (c ∷ bs) runs) ≡ joined_front (b ∷ c ∷ bs) runs
next_front b c bs [] d = rw d refl
next_front b c bs (run ∷ runs) d = at_test (0x22 == run.0) refl
  where
    at_test : (t : Bool) → (0x22 == run.0) ≡ t
        → with_character b (cond t ((run.0, (c ∷ bs) ++ run.1) ∷ runs) ((0x22, c ∷ bs) ∷ run ∷ runs))
        ≡ cond t ((run.0, (b ∷ c ∷ bs) ++ run.1) ∷ runs) ((0x22, b ∷ c ∷ bs) ∷ run ∷ runs)
    at_test true e = rw (d, e) refl
    at_test false e = rw d refl

high_front : (b : ℕ) (bs : List ℕ) (runs : List (ℕ × List ℕ)) → AreHigh (b ∷ bs) → in_front (b ∷ bs) runs ≡ joined_front (b ∷ bs) runs
high_front b [] runs h = one_front b runs (delimiter_high b h.0)
high_front b (c ∷ bs) runs h = ap (with_character b) (high_front c bs runs h.1) ∙ next_front b c bs runs (delimiter_high b h.0)

high_run : (c : ℕ) (bs : List ℕ) (runs : List (ℕ × List ℕ)) → encode_utf8 c ≡ bs → delimiter c ≡ 0x22
    → joined_front bs (map encoded_run runs) ≡ map encoded_run (with_character c runs)
high_run c bs [] e d = rw d (ap (λ (x : List ℕ). (0x22, x) ∷ []) (sym e ∙ sym (append-nil (encode_utf8 c))))
high_run c bs (run ∷ runs) e d = rw d (at_test (0x22 == run.0))
  where
    at_test : (t : Bool) → cond t ((run.0, bs ++ encode_utf8_all run.1) ∷ map encoded_run runs) ((0x22, bs) ∷ encoded_run run ∷ map encoded_run runs)
        ≡ map encoded_run (cond t ((run.0, c ∷ run.1) ∷ runs) ((0x22, c ∷ []) ∷ run ∷ runs))
    at_test true = ap (λ (x : List ℕ). (run.0, x ++ encode_utf8_all run.1) ∷ map encoded_run runs) (sym e)
    at_test false = ap (λ (x : List ℕ). (0x22, x) ∷ encoded_run run ∷ map encoded_run runs) (sym e ∙ sym (append-nil (encode_utf8 c)))

low_run : (c : ℕ) (runs : List (ℕ × List ℕ)) → encode_utf8 c ≡ c ∷ [] → with_character c (map encoded_run runs) ≡ map encoded_run (with_character c runs)
low_run c [] e = ap (λ (x : List ℕ). (delimiter c, x) ∷ []) (sym (append-nil (encode_utf8 c) ∙ e))
low_run c (run ∷ runs) e = at_test (delimiter c == run.0)
  where
    at_test : (t : Bool) → cond t ((run.0, c ∷ encode_utf8_all run.1) ∷ map encoded_run runs) ((delimiter c, c ∷ []) ∷ encoded_run run ∷ map encoded_run runs)
        ≡ map encoded_run (cond t ((run.0, c ∷ run.1) ∷ runs) ((delimiter c, c ∷ []) ∷ run ∷ runs))
    at_test true = ap (λ (x : List ℕ). (run.0, x ++ encode_utf8_all run.1) ∷ map encoded_run runs) (sym e)
    at_test false = ap (λ (x : List ℕ). (delimiter c, x) ∷ encoded_run run ∷ map encoded_run runs) (sym (append-nil (encode_utf8 c) ∙ e))

one_run : (c : ℕ) (runs : List (ℕ × List ℕ)) → in_front (encode_utf8 c) (map encoded_run runs) ≡ map encoded_run (with_character c runs)
one_run c runs = elim (low_or_high c) [
  | inl lt ↦ ap (λ (x : List ℕ). in_front x (map encoded_run runs)) (encode_ascii c lt) ∙ low_run c runs (encode_ascii c lt)
  | inr h ↦ of_bytes (encode_utf8 c) refl h
]
  where
    of_bytes : (bs : List ℕ) → encode_utf8 c ≡ bs → 128 ≤ c → in_front bs (map encoded_run runs) ≡ map encoded_run (with_character c runs)
    of_bytes [] e h = absurd (some_bytes c e)
    of_bytes (b ∷ bs) e h = high_front b bs (map encoded_run runs) (subst AreHigh e (high_bytes c h)) ∙ high_run c (b ∷ bs) runs e (delimiter_high c h)

-- the runs of the bytes are the bytes of the runs
pub encoded_runs : (ns : List ℕ) → runs_of (encode_utf8_all ns) ≡ map encoded_run (runs_of ns)
encoded_runs [] = refl
encoded_runs (c ∷ ns) = runs_append (encode_utf8 c) (encode_utf8_all ns) ∙ ap (in_front (encode_utf8 c)) (encoded_runs ns) ∙ one_run c (runs_of ns)

-- ---- each run is between delimiters that are not in it

abbrev pub IsRun : ℕ × List ℕ → Type 0
IsRun run = (is_quote run.0 ≡ true) × (list_all (is_within run.0) run.1 ≡ true)

delimiter_quote : (c : ℕ) → is_quote (delimiter c) ≡ true
delimiter_quote c = at_test (c == 0x22)
  where
    at_test : (b : Bool) → is_quote (cond b 0x27 0x22) ≡ true
    at_test true = refl
    at_test false = refl

delimiter_other : (c : ℕ) → not (c == delimiter c) ≡ true
delimiter_other c = at_test (c == 0x22) refl
  where
    at_test : (b : Bool) → (c == 0x22) ≡ b → not (c == cond b 0x27 0x22) ≡ true
    at_test true e = subst (λ (x : ℕ). not (x == 0x27) ≡ true) (sym (eqb-true c 0x22 e)) refl
    at_test false e = rw e refl

run_with : (c : ℕ) (runs : List (ℕ × List ℕ)) → is_xml_char c ≡ true → AllByRecursion IsRun runs → AllByRecursion IsRun (with_character c runs)
run_with c [] x h = ((delimiter_quote c, rw (x, delimiter_other c) refl), tt)
run_with c (run ∷ runs) x h = at_test (delimiter c == run.0) refl
  where
    at_test : (t : Bool) → (delimiter c == run.0) ≡ t → AllByRecursion IsRun (cond t ((run.0, c ∷ run.1) ∷ runs) ((delimiter c, c ∷ []) ∷ run ∷ runs))
    at_test true e = (
      (
        h.0.0,
        and_from (is_within run.0 c) (list_all (is_within run.0) run.1)
            (subst (λ (q : ℕ). is_within q c ≡ true) (eqb-true (delimiter c) run.0 e) (and_from (is_xml_char c) _ x (delimiter_other c))) h.0.1,
      ),
      h.1,
    )
    at_test false e = ((delimiter_quote c, rw (x, delimiter_other c) refl), h)

pub all_runs : (ns : List ℕ) → list_all is_xml_char ns ≡ true → AllByRecursion IsRun (runs_of ns)
all_runs [] h = tt
all_runs (c ∷ ns) h = let p = and_parts (is_xml_char c) (list_all is_xml_char ns) h in run_with c (runs_of ns) p.0 (all_runs ns p.1)
