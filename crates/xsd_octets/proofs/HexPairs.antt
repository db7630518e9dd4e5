-- Digits to base 16: their pairs, and small letters for capitals.
use Rattle.std.proofs.Common.{◌≡◌, ◌↔◌, ℕ, suc, ◌%◌, ◌/◌, ◌==◌, List, [], ◌∷◌, map, length, drop, take, Bool, true, false, ◌&&◌, cond, Some, None}
use Rattle.std.proofs.Common.{IsTrue, refl, sym, ap, ap₂, ◌∙◌, rules, arith, tests}
use Rattle.std.specs.List.{list_all, prefix_len}
use Rattle.std.specs.Option.{option_map}
use Rattle.std.specs.Char.{to_ascii_lowercase}
use Rattle.std.specs.Str.{bytes_eq}
use Rattle.std.proofs.lemmas.Bool.{and_parts, and_from, and_right, and_left}
use Rattle.std.proofs.lemmas.Bool.Decides.{nat_tests}
use Rattle.std.proofs.lemmas.Slice.Eq.{bytes_eq-Decides}
use Rattle.std.proofs.lemmas.List.{length-map}
use Rattle.rng_model.specs.datatypes.Texts.{is_blank_byte, is_blank, collapse, text, are_equal}
use Rattle.rng_model.proofs.Truths.{same_truth}
use Rattle.rng_types.specs.plain.Runs.{past_blanks, from_run}
use Rattle.rng_types.proofs.CollapsedBytes.{alone, collapse-past}
use Rattle.rng_types.proofs.WordsOfTexts.{run_front}
use Rattle.rng_model.specs.xsd.primitives.Octets.{is_hex_digit, are_hex_pairs, capital, hex_length, hex_binary_of}
use Rattle.xsd_octets.specs.plain.HexDigits.{AreDigitsOf}

-- ---- pairs

even_more : (n : ℕ) → (suc (suc n) % 2 == 0) ≡ (n % 2 == 0)
even_more n = let e : suc (suc n) % 2 ≡ n % 2 = omega arith in ap (λ k. k == 0) e

and_moved : (a b c d : Bool) → (a && b) && (c && d) ≡ c && (a && (b && d))
and_moved true true c d = refl
and_moved true false true d = refl
and_moved true false false d = refl
and_moved false b true d = refl
and_moved false b false d = refl

-- digits, and an even number of them
pub even_digits : (s : List ℕ) → are_hex_pairs s ≡ ((length s % 2 == 0) && list_all is_hex_digit s)
even_digits [] = refl
even_digits (a ∷ []) = refl
even_digits (a ∷ b ∷ rest) =
    ap (λ t. (is_hex_digit a && is_hex_digit b) && t) (even_digits rest)
    ∙ and_moved (is_hex_digit a) (is_hex_digit b) (length rest % 2 == 0) (list_all is_hex_digit rest)
    ∙ ap (λ t. t && (is_hex_digit a && (is_hex_digit b && list_all is_hex_digit rest))) (sym (even_more (length rest)))

-- ---- the digits between the blanks of a text

no_digit : (b : ℕ) → is_blank_byte b ≡ true → is_hex_digit b ≡ false
no_digit b e = search (rules, tests, arith)

digits_alone : (s bytes : List ℕ) → bytes ≡ past_blanks s → list_all is_hex_digit (collapse s) ≡ is_blank (drop (prefix_len is_hex_digit bytes) bytes)
digits_alone s bytes past = ap (list_all is_hex_digit) (collapse-past s ∙ ap from_run (sym past)) ∙ alone is_hex_digit no_digit bytes

blank_behind : (bytes after : List ℕ) (n : ℕ) (b : Bool) → n ≡ prefix_len is_hex_digit bytes → after ≡ drop n bytes → is_blank after ≡ b
    → is_blank (drop (prefix_len is_hex_digit bytes) bytes) ≡ b
blank_behind bytes after n b len back blank = ap is_blank (sym (back ∙ ap (λ k. drop k bytes) len)) ∙ blank

collapsed_digits : (s bytes digits after : List ℕ) (n : ℕ) → bytes ≡ past_blanks s → n ≡ prefix_len is_hex_digit bytes → digits ≡ take n bytes
    → after ≡ drop n bytes → is_blank after ≡ true → collapse s ≡ digits
collapsed_digits s bytes digits after n past len front back blank =
    collapse-past s ∙ ap from_run (sym past) ∙ run_front is_hex_digit no_digit bytes (blank_behind bytes after n true len back blank)
    ∙ sym (front ∙ ap (λ k. take k bytes) len)

pub found_digits : (s bytes digits after : List ℕ) (n : ℕ) → bytes ≡ past_blanks s → n ≡ prefix_len is_hex_digit bytes → digits ≡ take n bytes
    → after ≡ drop n bytes → (length digits % 2 == 0) ≡ true → is_blank after ≡ true → AreDigitsOf s digits
found_digits s bytes digits after n past len front back even blank =
    let is = collapsed_digits s bytes digits after n past len front back blank in
    let all : list_all is_hex_digit digits ≡ true =
    ap (list_all is_hex_digit) (sym is) ∙ digits_alone s bytes past ∙ blank_behind bytes after n true len back blank in
    record { is = is; pairs = even_digits digits ∙ and_from (length digits % 2 == 0) (list_all is_hex_digit digits) even all }

none_if : (s : List ℕ) → are_hex_pairs s ≡ false → hex_binary_of s ≡ None
unfolding hex_binary_of
none_if s e = ap (λ b. cond b (Some (map capital s)) None) e

pub not_blank_behind : (s bytes after : List ℕ) (n : ℕ) → bytes ≡ past_blanks s → n ≡ prefix_len is_hex_digit bytes → after ≡ drop n bytes
    → is_blank after ≡ false → hex_binary_of (collapse s) ≡ None
not_blank_behind s bytes after n past len back more =
    let here = blank_behind bytes after n false len back more in
    none_if (collapse s)
    (even_digits (collapse s) ∙ and_right (length (collapse s) % 2 == 0) (list_all is_hex_digit (collapse s)) (digits_alone s bytes past ∙ here))

pub odd_digits : (s bytes digits after : List ℕ) (n : ℕ) → bytes ≡ past_blanks s → n ≡ prefix_len is_hex_digit bytes → digits ≡ take n bytes
    → after ≡ drop n bytes → (length digits % 2 == 0) ≡ false → hex_binary_of (collapse s) ≡ None
odd_digits s bytes digits after n past len front back odd = by_rest (is_blank after) refl
  where
    by_rest : (b : Bool) → is_blank after ≡ b → hex_binary_of (collapse s) ≡ None
    by_rest false more = not_blank_behind s bytes after n past len back more
    by_rest true blank =
        let is : collapse s ≡ digits = collapsed_digits s bytes digits after n past len front back blank in
        none_if (collapse s)
        (even_digits (collapse s) ∙ and_left (length (collapse s) % 2 == 0) (list_all is_hex_digit (collapse s))
        (ap (λ t. length t % 2 == 0) is ∙ odd))

-- ---- what the digits write

octets_are : (s digits : List ℕ) → AreDigitsOf s digits → hex_binary_of (collapse s) ≡ Some (map capital digits)
unfolding hex_binary_of
octets_are s digits of = ap hex_binary_of of.is ∙ ap (λ b. cond b (Some (map capital digits)) None) of.pairs

pub half_as_many : (s digits : List ℕ) → AreDigitsOf s digits → Some (length digits / 2) ≡ option_map hex_length (hex_binary_of (collapse s))
half_as_many s digits of =
    ap (λ n. Some (n / 2)) (sym (length-map digits capital)) ∙ ap (option_map hex_length) (sym (octets_are s digits of))

-- ---- small letters and capitals

small_of_capital : (c : ℕ) → to_ascii_lowercase (capital c) ≡ to_ascii_lowercase c
small_of_capital c = grind (arith, nat_tests)

capital_of_small : (c : ℕ) → is_hex_digit c ≡ true → capital (to_ascii_lowercase c) ≡ capital c
capital_of_small c e = grind (arith, nat_tests)

small_of_capitals : (s : List ℕ) → map to_ascii_lowercase (map capital s) ≡ map to_ascii_lowercase s
small_of_capitals [] = refl
small_of_capitals (c ∷ s) = ap₂ ◌∷◌ (small_of_capital c) (small_of_capitals s)

capitals_of_small : (s : List ℕ) → list_all is_hex_digit s ≡ true → map capital (map to_ascii_lowercase s) ≡ map capital s
capitals_of_small [] e = refl
capitals_of_small (c ∷ s) e =
    let both = and_parts (is_hex_digit c) (list_all is_hex_digit s) e in
    ap₂ ◌∷◌ (capital_of_small c both.0) (capitals_of_small s both.1)

all_digits : (s digits : List ℕ) → AreDigitsOf s digits → list_all is_hex_digit digits ≡ true
all_digits s digits of = (and_parts (length digits % 2 == 0) (list_all is_hex_digit digits) (sym (even_digits digits) ∙ of.pairs)).1

same_octets : (v w : List ℕ) → list_all is_hex_digit v ≡ true → list_all is_hex_digit w ≡ true
    → (map to_ascii_lowercase v ≡ map to_ascii_lowercase w) ↔ (map capital v ≡ map capital w)
same_octets v w p q = (
  (λ e. sym (capitals_of_small v p) ∙ ap (map capital) e ∙ capitals_of_small w q),
  (λ e. sym (small_of_capitals v) ∙ ap (map to_ascii_lowercase) e ∙ small_of_capitals w),
)

-- the digits of two texts, compared without regard to case
pub same_digits : (s t v w : List ℕ) (b : Bool) → AreDigitsOf s v → AreDigitsOf t w
    → IsTrue b ↔ (map to_ascii_lowercase v ≡ map to_ascii_lowercase w)
    → b ≡ are_equal (option_map text (hex_binary_of (collapse s))) (option_map text (hex_binary_of (collapse t)))
same_digits s t v w b of-s of-t same =
    let octets = same_octets v w (all_digits s v of-s) (all_digits t w of-t) in
    let eq = bytes_eq-Decides (map capital v) (map capital w) in
    same_truth b (bytes_eq (map capital v) (map capital w)) (λ e. eq.1 (octets.0 (same.0 e))) (λ e. same.1 (octets.1 (eq.0 e)))
    ∙ ap₂ (λ x y. are_equal (option_map text x) (option_map text y)) (sym (octets_are s v of-s)) (sym (octets_are t w of-t))
