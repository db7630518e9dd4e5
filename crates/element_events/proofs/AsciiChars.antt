-- A text of ASCII characters of XML has only characters of XML, and a name of ASCII characters is an NCName.
use Rattle.std.proofs.Common.{◌≡◌, ℕ, ◌==◌, ◌<◌, Bool, true, false, ◌&&◌, ◌||◌, ◌≤◌, not, List, [], ◌∷◌, refl, ap, sym, ◌∙◌, length, take, drop, arith, ⊎_elim}
use Rattle.std.proofs.lemmas.Bool.{and_from, and_parts, or_cases, or_left, or_right}
use Rattle.std.proofs.lemmas.Bool.Decides.{nat_tests}
use Rattle.std.proofs.Math.Dec.{eqb-suc-zero}
use Rattle.std.specs.Prelude.{nat_le, zero, suc}
use Rattle.std.specs.List.{list_all}
use Rattle.std.specs.Str.{IsAscii}
use Rattle.std.proofs.lemmas.Str.{chars-IsAscii}
use Rattle.std.proofs.lemmas.Str.Ascii.{IsAscii-nil, IsAscii-cons}
use Rattle.std.specs.Str.{chars}
use Rattle.rng_model.proofs.Truths.{no_truth}
use Rattle.rng_model.specs.names.Names.{is_xml_char, is_name_start, is_name_char, is_colon, is_ncname, is_in_ranges, name_start_ranges, more_name_ranges}
use Rattle.rng_model.specs.datatypes.Texts.{is_blank, is_blank_byte}
use Rattle.rng_model.specs.documents.Telling.{are_xml_chars}
use Rattle.element_events.specs.plain.AsciiChars.{is_ascii_char, is_plain, is_ascii_start, is_ascii_part, is_ascii_name}

char_of : (b : ℕ) → is_ascii_char b ≡ true → is_xml_char b ≡ true
char_of b e = grind (arith, nat_tests)

low : (b : ℕ) → is_ascii_char b ≡ true → b < 128
low b e = grind (arith, nat_tests)

all_low : (bs : List ℕ) → list_all is_ascii_char bs ≡ true → IsAscii bs
all_low [] e = IsAscii-nil
all_low (b ∷ bs) e = let p = and_parts (is_ascii_char b) (list_all is_ascii_char bs) e in IsAscii-cons b bs (low b p.0) (all_low bs p.1)

all_chars : (bs : List ℕ) → list_all is_ascii_char bs ≡ true → list_all is_xml_char bs ≡ true
all_chars [] e = refl
all_chars (b ∷ bs) e = let p = and_parts (is_ascii_char b) (list_all is_ascii_char bs) e in rw (char_of b p.0, all_chars bs p.1) refl

pub ascii_chars : (bs : List ℕ) → list_all is_ascii_char bs ≡ true → are_xml_chars bs ≡ true
ascii_chars bs e = ap (list_all is_xml_char) (chars-IsAscii bs (all_low bs e)) ∙ all_chars bs e

-- the first ones and the last ones are all
pub all_in_ends : (p : ℕ → Bool) (bs : List ℕ) (n m : ℕ) → m ≤ n → list_all p (take n bs) ≡ true → list_all p (drop m bs) ≡ true → list_all p bs ≡ true
all_in_ends p [] n m h f e = refl
all_in_ends p (b ∷ bs) n zero h f e = e
all_in_ends p (b ∷ bs) zero (suc m) h f e = absurd (omega (arith, h))
all_in_ends p (b ∷ bs) (suc n) (suc m) h f e =
    let t = and_parts (p b) (list_all p (take n bs)) f in
    and_from (p b) (list_all p bs) t.0 (all_in_ends p bs n m (omega (arith, h)) t.1 e)

-- more ranges, in front and behind
wider_starts : (a b c d e : Bool) → (b || (c || (d || false))) ≡ true → (a || (b || (c || (d || e)))) ≡ true
wider_starts true b c d e h = refl
wider_starts false true c d e h = refl
wider_starts false false true d e h = refl
wider_starts false false false true e h = refl
wider_starts false false false false e h = no_truth h

wider_parts : (a b c : Bool) → (a || (b || false)) ≡ true → (a || (b || c)) ≡ true
wider_parts true b c h = refl
wider_parts false true c h = refl
wider_parts false false c h = no_truth h

abbrev within : ℕ → ℕ → ℕ → Bool
within low high b = nat_le low b && nat_le b high

name_start : (b : ℕ) → is_ascii_start b ≡ true → is_name_start b ≡ true
name_start b e =
    wider_starts (within 0x3A 0x3A b) (within 0x41 0x5A b) (within 0x5F 0x5F b) (within 0x61 0x7A b) (is_in_ranges (drop 4 name_start_ranges) b) e

name_char : (b : ℕ) → is_ascii_part b ≡ true → is_name_char b ≡ true
name_char b e = ⊎_elim
    (λ h. or_left (is_name_start b) (is_in_ranges more_name_ranges b) (name_start b h))
    (λ h. or_right (is_name_start b) (is_in_ranges more_name_ranges b)
    (wider_parts (within 0x2D 0x2E b) (within 0x30 0x39 b) (is_in_ranges (drop 2 more_name_ranges) b) h))
    (or_cases (is_ascii_start b) (within 0x2D 0x2E b || (within 0x30 0x39 b || false)) e)

start_no_colon : (b : ℕ) → is_ascii_start b ≡ true → not (is_colon b) ≡ true
start_no_colon b e = grind (arith, nat_tests)

part_no_colon : (b : ℕ) → is_ascii_part b ≡ true → not (is_colon b) ≡ true
part_no_colon b e = grind (arith, nat_tests)

start_of : (b : ℕ) → is_ascii_start b ≡ true → (is_name_start b && not (is_colon b)) ≡ true
start_of b e = and_from (is_name_start b) (not (is_colon b)) (name_start b e) (start_no_colon b e)

part_of : (b : ℕ) → is_ascii_part b ≡ true → (is_name_char b && not (is_colon b)) ≡ true
part_of b e = and_from (is_name_char b) (not (is_colon b)) (name_char b e) (part_no_colon b e)

start_low : (b : ℕ) → is_ascii_start b ≡ true → b < 128
start_low b e = grind (arith, nat_tests)

part_low : (b : ℕ) → is_ascii_part b ≡ true → b < 128
part_low b e = grind (arith, nat_tests)

parts_low : (bs : List ℕ) → list_all is_ascii_part bs ≡ true → IsAscii bs
parts_low [] e = IsAscii-nil
parts_low (b ∷ bs) e = let p = and_parts (is_ascii_part b) (list_all is_ascii_part bs) e in IsAscii-cons b bs (part_low b p.0) (parts_low bs p.1)

parts_of : (bs : List ℕ) → list_all is_ascii_part bs ≡ true → list_all (λ d. is_name_char d && not (is_colon d)) bs ≡ true
parts_of [] e = refl
parts_of (b ∷ bs) e = let p = and_parts (is_ascii_part b) (list_all is_ascii_part bs) e in rw (part_of b p.0, parts_of bs p.1) refl

pub ascii_name : (bs : List ℕ) → is_ascii_name bs ≡ true → is_ncname (chars bs) ≡ true
ascii_name [] e = no_truth e
ascii_name (b ∷ bs) e =
    let p = and_parts (is_ascii_start b) (list_all is_ascii_part bs) e in
    ap is_ncname (chars-IsAscii (b ∷ bs) (IsAscii-cons b bs (start_low b p.0) (parts_low bs p.1)))
    ∙ and_from (is_name_start b && not (is_colon b)) (list_all (λ d. is_name_char d && not (is_colon d)) bs) (start_of b p.0) (parts_of bs p.1)

all_weaker : (p q : ℕ → Bool) → ((b : ℕ) → p b ≡ true → q b ≡ true) → (bs : List ℕ) → list_all p bs ≡ true → list_all q bs ≡ true
all_weaker p q f [] e = refl
all_weaker p q f (b ∷ bs) e = let h = and_parts (p b) (list_all p bs) e in and_from (q b) (list_all q bs) (f b h.0) (all_weaker p q f bs h.1)

plain_char : (b : ℕ) → is_plain b ≡ true → is_ascii_char b ≡ true
plain_char b e = grind (arith, nat_tests)

blank_char : (b : ℕ) → is_blank_byte b ≡ true → is_ascii_char b ≡ true
blank_char b e = grind (arith, nat_tests)

pub plain_chars : (bs : List ℕ) → list_all is_plain bs ≡ true → list_all is_ascii_char bs ≡ true
plain_chars bs e = all_weaker is_plain is_ascii_char plain_char bs e

pub blank_chars : (bs : List ℕ) → is_blank bs ≡ true → list_all is_ascii_char bs ≡ true
blank_chars bs e = all_weaker is_blank_byte is_ascii_char blank_char bs e

pub blank_xml_chars : (bs : List ℕ) → is_blank bs ≡ true → are_xml_chars bs ≡ true
blank_xml_chars bs e = ascii_chars bs (blank_chars bs e)

pub no_chars : (bs : List ℕ) → (length bs == 0) ≡ true → are_xml_chars bs ≡ true
no_chars [] e = ascii_chars [] refl
no_chars (b ∷ bs) e = no_truth (sym (eqb-suc-zero (length bs)) ∙ e)
