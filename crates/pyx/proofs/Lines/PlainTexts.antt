-- What plain bytes imply for a text.
use Rattle.std.proofs.Common.{◌≡◌, ℕ, ◌<◌, ◌≤◌, Bool, true, false, eqb, not, ◌&&◌, List, [], ◌∷◌, None, Err, refl, sym, ap, ◌∙◌}
use Rattle.std.proofs.Common.{arith}
use Rattle.std.proofs.lemmas.Bool.Decides.{nat_tests}
use Rattle.std.specs.List.{list_all}
use Rattle.std.specs.Str.{chars, IsUtf8, IsAscii}
use Rattle.std.proofs.lemmas.List.Folds.{list_all-append}
use Rattle.std.proofs.lemmas.Str.{encodes-chars, scalars-chars, chars-IsAscii, is_utf8-from_IsUtf8}
use Rattle.std.proofs.lemmas.Str.Ascii.{IsAscii-nil, IsAscii-cons}
use Rattle.std.proofs.lemmas.Bool.{or_right, and_parts}
use lib.Utf8.{scalar, scalars, encode, encodes}
use Rattle.rng_model.specs.names.Names.{is_ncname, is_xml_char, is_name_char, is_name_start, is_colon, is_in_ranges, more_name_ranges}
use Rattle.pyx.specs.plain.Cuts.{at_byte}
use Rattle.pyx.specs.plain.LineReader.{is_name, bytes_of, characters_of, kind_of}
use Rattle.pyx.specs.plain.PlainBytes.{is_plain, is_plain_name, may_begin, may_follow}

-- ---- characters

low_char : (c : ℕ) → is_plain c ≡ true → c < 55296 → is_xml_char c ≡ true
low_char c e h = grind (arith, nat_tests)

middle_char : (c : ℕ) → 57344 ≤ c → c < 61440 → is_xml_char c ≡ true
middle_char c h k = grind (arith, nat_tests)

wide_char : (c : ℕ) → 65536 ≤ c → c < 1114112 → is_xml_char c ≡ true
wide_char c h k = grind (arith, nat_tests)

plain_low : (c : ℕ) → 128 ≤ c → c < 239 → is_plain c ≡ true
plain_low c h k = grind (arith, nat_tests)

is_first : (b : ℕ) (bs : List ℕ) → list_all is_plain (b ∷ bs) ≡ true → is_plain b ≡ true
is_first b bs e = (and_parts _ _ e).0

pub plain_char : (c : ℕ) → scalar c ≡ true → list_all is_plain (encode c) ≡ true → is_xml_char c ≡ true
unfolding encode
plain_char c s e = grind (arith, nat_tests)

plain_chars : (cs : List ℕ) → scalars cs ≡ true → list_all is_plain (encodes cs) ≡ true → list_all is_xml_char cs ≡ true
plain_chars [] s e = refl
plain_chars (c ∷ cs) s e =
    let p = and_parts (scalar c) (scalars cs) s in
    let q = and_parts (list_all is_plain (encode c)) (list_all is_plain (encodes cs)) (sym (list_all-append is_plain (encode c) (encodes cs)) ∙ e) in
    rw (plain_char c p.0 q.0, plain_chars cs p.1 q.1) refl

pub plain_text : (bs : List ℕ) → IsUtf8 bs → list_all is_plain bs ≡ true → list_all is_xml_char (chars bs) ≡ true
plain_text bs u e = plain_chars (chars bs) (scalars-chars bs u) (ap (list_all is_plain) (encodes-chars bs u) ∙ e)

-- ---- names

begins : (b : ℕ) → may_begin b ≡ true → (is_name_start b && not (is_colon b)) ≡ true
begins b e = grind (arith, nat_tests)

follow_parts : (b : ℕ) → may_follow b ≡ true → may_begin b ≡ false → (is_in_ranges more_name_ranges b ≡ true) × (is_colon b ≡ false)
follow_parts b e f = (grind (arith, nat_tests), grind (arith, nat_tests))

follows : (b : ℕ) → may_follow b ≡ true → (is_name_char b && not (is_colon b)) ≡ true
follows b e = go (may_begin b) refl where
  go : (x : Bool) → may_begin b ≡ x → (is_name_char b && not (is_colon b)) ≡ true
  go true f = let p = and_parts (is_name_start b) (not (is_colon b)) (begins b f) in rw (p.0, p.1) refl
  go false f = let p = follow_parts b e f in rw (or_right (is_name_start b) (is_in_ranges more_name_ranges b) p.0, p.1) refl

begins_low : (b : ℕ) → may_begin b ≡ true → b < 128
begins_low b e = grind (arith, nat_tests)

follows_low : (b : ℕ) → may_follow b ≡ true → b < 128
follows_low b e = grind (arith, nat_tests)

begin_follows : (b : ℕ) → may_begin b ≡ true → may_follow b ≡ true
begin_follows b e = grind (arith, nat_tests)

all_low : (bs : List ℕ) → list_all may_follow bs ≡ true → IsAscii bs
all_low [] e = IsAscii-nil
all_low (b ∷ bs) e = let p = and_parts (may_follow b) (list_all may_follow bs) e in IsAscii-cons b bs (follows_low b p.0) (all_low bs p.1)

all_follow : (bs : List ℕ) → list_all may_follow bs ≡ true → list_all (λ d. is_name_char d && not (is_colon d)) bs ≡ true
all_follow [] e = refl
all_follow (b ∷ bs) e = let p = and_parts (may_follow b) (list_all may_follow bs) e in rw (follows b p.0, all_follow bs p.1) refl

no_colon : (b : ℕ) → may_follow b ≡ true → eqb b 58 ≡ false
no_colon b e = grind (arith, nat_tests)

uncut : (bs : List ℕ) → list_all may_follow bs ≡ true → at_byte 58 bs ≡ None
unfolding at_byte
uncut [] e = refl
uncut (b ∷ bs) e = let p = and_parts (may_follow b) (list_all may_follow bs) e in rw (no_colon b p.0, uncut bs p.1) refl

pub plain_part : (bs : List ℕ) → is_plain_name bs ≡ true → is_ncname (chars bs) ≡ true
plain_part [] e = absurd cc
plain_part (b ∷ bs) e =
    let p = and_parts (may_begin b) (list_all may_follow bs) e in
    rw (chars-IsAscii (b ∷ bs) (IsAscii-cons b bs (begins_low b p.0) (all_low bs p.1)), begins b p.0, all_follow bs p.1) refl

pub plain_name : (bs : List ℕ) → is_plain_name bs ≡ true → is_name bs ≡ true
unfolding is_name
plain_name [] e = absurd cc
plain_name (b ∷ bs) e =
    let p = and_parts (may_begin b) (list_all may_follow bs) e in
    let f : list_all may_follow (b ∷ bs) ≡ true = rw (begin_follows b p.0, p.1) refl in
    rw (uncut (b ∷ bs) f) (plain_part (b ∷ bs) e)

-- ---- lines

pub good_text : (bs : List ℕ) → IsUtf8 bs → list_all is_xml_char (chars bs) ≡ true → bytes_of bs ≡ kind_of bs
unfolding bytes_of characters_of
good_text bs u e = rw (is_utf8-from_IsUtf8 bs u, e) refl

pub odd_text : (bs : List ℕ) → list_all is_xml_char (chars bs) ≡ false → characters_of bs ≡ Err 3
unfolding characters_of
odd_text bs e = rw e refl
