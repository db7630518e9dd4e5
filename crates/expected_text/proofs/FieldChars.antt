-- Fields, character by character.
use Rattle.std.proofs.Common.{◌≡◌, ◌∙◌, ⊎_elim, ℕ, suc, ◌<◌, ◌≤◌, arith, Bool, true, false, List, [], ◌∷◌, ◌++◌, flat_map, length, get_or, refl, sym, ap}
use Rattle.std.proofs.lemmas.Bool.{cases_lt, eqb-true}
use Rattle.std.proofs.lemmas.Grind.{flat_map-append}
use Rattle.std.proofs.lemmas.List.{append-nil}
use Rattle.std.proofs.lemmas.Str.{encode_ascii, encodes-chars, inside_one}
use Rattle.std.specs.Char.{encode_utf8}
use Rattle.std.specs.Prelude.{◌==◌}
use Rattle.std.specs.Str.{IsUtf8, chars, encode_utf8_all}
use Rattle.expected_text.specs.ExpectationText.{escaped, field}
use Rattle.expected_text.specs.plain.Fields.{escape_or, escaped_char}

-- ---- bytes that are no ASCII

differs : (c n : ℕ) → n < 128 → 128 ≤ c → (c == n) ≡ false
differs c n l h = at_test (c == n) refl
  where
    at_test : (b : Bool) → (c == n) ≡ b → b ≡ false
    at_test true e = let same : c ≡ n = eqb-true c n e in absurd (omega (arith, l, h, same))
    at_test false e = refl

-- they have no escape
kept : (w : List ℕ) (c : ℕ) → 128 ≤ c → escape_or w c ≡ w
kept w c h =
    rw (differs c 92 (omega arith) h, differs c 10 (omega arith) h, differs c 13 (omega arith) h, differs c 9 (omega arith) h, differs c 32 (omega arith) h)
    refl

all_kept : (bs : List ℕ) → ((k : ℕ) → k < length bs → 128 ≤ get_or bs k 0) → field bs ≡ bs
all_kept [] h = refl
all_kept (b ∷ bs) h =
    ap (λ w. w ++ field bs) (kept (b ∷ []) b (h 0 (omega arith))) ∙ ap (λ w. b ∷ w) (all_kept bs (λ k l. h (suc k) (omega (arith, l))))

-- ---- characters

high_bytes : (c : ℕ) → 128 ≤ c → (k : ℕ) → k < length (encode_utf8 c) → 128 ≤ get_or (encode_utf8 c) k 0
high_bytes c h k l =
    ⊎_elim
    (λ low. let same = inside_one c [] (encode_utf8 c) k (sym (append-nil (encode_utf8 c))) l low in absurd (omega (arith, h, low, same)))
    (λ high. high)
    (cases_lt (get_or (encode_utf8 c) k 0) 128)

-- the escape of a character is that of its bytes
char_is : (c : ℕ) → escaped_char c ≡ field (encode_utf8 c)
char_is c = ⊎_elim low high (cases_lt c 128)
  where
    low : c < 128 → escaped_char c ≡ field (encode_utf8 c)
    low h = let one = encode_ascii c h in ap (λ w. escape_or w c) one ∙ sym (append-nil (escaped c)) ∙ ap field (sym one)

    high : 128 ≤ c → escaped_char c ≡ field (encode_utf8 c)
    high h = kept (encode_utf8 c) c h ∙ sym (all_kept (encode_utf8 c) (high_bytes c h))

-- ---- texts

chars_are : (cs : List ℕ) → flat_map escaped_char cs ≡ field (encode_utf8_all cs)
chars_are [] = refl
chars_are (c ∷ cs) =
    ap (λ w. w ++ flat_map escaped_char cs) (char_is c) ∙ ap (λ w. field (encode_utf8 c) ++ w) (chars_are cs)
    ∙ sym (flat_map-append escaped (encode_utf8 c) (encode_utf8_all cs))

pub field_is : (bs : List ℕ) → IsUtf8 bs → flat_map escaped_char (chars bs) ≡ field bs
field_is bs u = chars_are (chars bs) ∙ ap field (encodes-chars bs u)
