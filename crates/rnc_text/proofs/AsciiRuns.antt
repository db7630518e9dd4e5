-- ASCII characters of a class, which a cursor passes at once.
use Rattle.std.proofs.Common.{◌≡◌, inl, inr, ℕ, ◌<◌, List, [], ◌∷◌, ◌++◌, true, take, drop, map, refl, ap, sym, ◌∙◌}
use Rattle.std.proofs.Common.{rules, tests, arith, not, ◌==◌}
use Rattle.std.specs.List.{list_all, prefix_len}
use Rattle.std.specs.Str.{IsUtf8, IsCharBoundary, chars, encode_utf8_all}
use Rattle.std.proofs.lemmas.Bool.{and_parts, or_cases, or_left, or_right, ne_eqb}
use Rattle.rng_model.specs.names.Names.{is_in_ranges, is_name_char, is_name_start, name_start_ranges, more_name_ranges}
use Rattle.rnc_text.proofs.MarksDecoded.{all_covered}
use Rattle.std.proofs.lemmas.List.{take-append-drop}
use Rattle.std.proofs.lemmas.Str.{IsUtf8-from_ascii, chars-append, chars-IsAscii, encodes-IsAscii}
use Rattle.rng_model.proofs.TestedRuns.{passing_ascii, run_boundary, run_passes}
use Rattle.rnc_model.specs.declared.character.Character.{Character}
use Rattle.rnc_model.specs.declared.character.Character.TheVariants.{Ordinary}
use Rattle.rnc_model.specs.characters.Decoding.{numbers_of}
use Rattle.rnc_text.specs.declared.cursor.Cursor.{Cursor}
use Rattle.rnc_text.specs.declared.scanning.Class.{Class}
use Rattle.rnc_text.specs.declared.scanning.Class.TheVariants as classes
use Rattle.rnc_text.specs.plain.CutSteps.{is_in, is_ascii_in, ascii_name_start_ranges, more_ascii_name_ranges, front, after}
use Rattle.rnc_text.specs.plain.Cursors.{remaining, Walks}
use Rattle.rnc_text.specs.views.Held.{unmarked, marked}
use Rattle.rnc_text.proofs.CharacterClasses.{front_in, after_in}
use Rattle.rnc_text.proofs.Held.{unmarked_other}

-- ---- the beginning

-- what the test of a byte says of its character
record IsQuick (class : Class) (b : ℕ) : Type 0 where
  pub ascii : b < 128
  pub plain : unmarked b ≡ Ordinary b
  pub inside : is_in class (Ordinary b) ≡ true

named : (b : ℕ) → is_ascii_in classes.Ncname b ≡ true → is_name_char b ≡ true
named b e = elim (or_cases (is_in_ranges ascii_name_start_ranges b) (is_in_ranges more_ascii_name_ranges b) e) [
  | inl h ↦ or_left (is_name_start b) (is_in_ranges more_name_ranges b) (all_covered name_start_ranges ascii_name_start_ranges b refl h)
  | inr h ↦ or_right (is_name_start b) (is_in_ranges more_name_ranges b) (all_covered more_name_ranges more_ascii_name_ranges b refl h)
]

not_colon : (b : ℕ) → is_ascii_in classes.Ncname b ≡ true → b ≡ 0x3A → ⊥
not_colon b e same = absurd (search (rules, tests, arith))

quick : (class : Class) (b : ℕ) → is_ascii_in class b ≡ true → IsQuick class b
quick classes.Ncname b e = record {
  ascii = search (rules, tests, arith);
  plain = unmarked_other b (λ same. absurd (search (rules, tests, arith)));
  inside = rw (named b e, ne_eqb b 0x3A (not_colon b e)) refl;
}
quick classes.Line b e = record {
  ascii = search (rules, tests, arith);
  plain = unmarked_other b (λ same. absurd (search (rules, tests, arith)));
  inside = refl;
}
quick (classes.Segment quote) b e = let both = and_parts (is_in_ranges ((0x20, 0x7E) ∷ []) b) (not (b == quote)) e in record {
  ascii = search (rules, tests, arith);
  plain = unmarked_other b (λ same. absurd (search (rules, tests, arith)));
  inside = both.1;
}

ascii_in : (class : Class) (b : ℕ) → is_ascii_in class b ≡ true → b < 128
ascii_in class b e = (quick class b e).ascii

pub ascii_boundary : (class : Class) (s : List ℕ) (n : ℕ) → IsUtf8 s → n ≡ prefix_len (is_ascii_in class) s → IsCharBoundary s n
ascii_boundary class s n utf8 e = run_boundary (is_ascii_in class) s n (ascii_in class) utf8 e

-- ---- its characters

numbers_ordinary : (bs : List ℕ) → numbers_of (map Ordinary bs) ≡ bs
numbers_ordinary [] = refl
numbers_ordinary (b ∷ bs) = ap (λ (x : List ℕ). b ∷ x) (numbers_ordinary bs)

pub marked_none : (whole b : ℕ) (cs : List ℕ) → marked whole [] (b ∷ cs) ≡ unmarked b ∷ marked whole [] cs
unfolding marked
marked_none whole b cs = refl

marked_run : (class : Class) (whole : ℕ) (bs cs : List ℕ) → list_all (is_ascii_in class) bs ≡ true
    → marked whole [] (bs ++ cs) ≡ map Ordinary bs ++ marked whole [] cs
marked_run class whole [] cs e = refl
marked_run class whole (b ∷ bs) cs e =
    let both = and_parts _ _ e in
    marked_none whole b (bs ++ cs) ∙ ap (λ (c : Character). c ∷ marked whole [] (bs ++ cs)) (quick class b both.0).plain
    ∙ ap (λ (x : List Character). Ordinary b ∷ x) (marked_run class whole bs cs both.1)

front_run : (class : Class) (bs : List ℕ) (cs : List Character) → list_all (is_ascii_in class) bs ≡ true
    → front class (map Ordinary bs ++ cs) ≡ map Ordinary bs ++ front class cs
front_run class [] cs e = refl
front_run class (b ∷ bs) cs e =
    let both = and_parts _ _ e in
    front_in class (Ordinary b) (map Ordinary bs ++ cs) (quick class b both.0).inside
    ∙ ap (λ (x : List Character). Ordinary b ∷ x) (front_run class bs cs both.1)

after_run : (class : Class) (bs : List ℕ) (cs : List Character) → list_all (is_ascii_in class) bs ≡ true
    → after class (map Ordinary bs ++ cs) ≡ after class cs
after_run class [] cs e = refl
after_run class (b ∷ bs) cs e =
    let both = and_parts _ _ e in
    after_in class (Ordinary b) (map Ordinary bs ++ cs) (quick class b both.0).inside ∙ after_run class bs cs both.1

-- the cursors before and after the bytes
pub walks_ascii : (class : Class) (from to : Cursor) (run : List ℕ) (n : ℕ) → from.escaped.now ≡ [] → to.rest.now ≡ drop n from.rest.now
    → run ≡ take n from.rest.now → n ≡ prefix_len (is_ascii_in class) from.rest.now → to.length ≡ from.length → to.escaped.now ≡ from.escaped.now
    → Walks class from to
walks_ascii class from to run n none back is len whole same =
    let bytes : from.rest.now ≡ run ++ to.rest.now = rw (is, back) (sym (take-append-drop n from.rest.now)) in
    let all : list_all (is_ascii_in class) run ≡ true = rw (is, len) (run_passes (is_ascii_in class) from.rest.now) in
    let ascii = passing_ascii (is_ascii_in class) run (ascii_in class) all in
    let numbers : chars from.rest.now ≡ run ++ chars to.rest.now = ap chars bytes ∙ chars-append run to.rest.now (IsUtf8-from_ascii run ascii)
    ∙ ap (λ (x : List ℕ). x ++ chars to.rest.now) (chars-IsAscii run ascii) in
    let left : remaining to ≡ marked from.length [] (chars to.rest.now) = rw (whole, same, none) refl in
    let all_left : remaining from ≡ map Ordinary run ++ remaining to =
    rw (none, numbers) (marked_run class from.length run (chars to.rest.now) all) ∙ ap (λ (x : List Character). map Ordinary run ++ x) (sym left) in
    record {
      taken = map Ordinary run;
      past = record {
        rest = all_left;
        bytes = bytes ∙ ap (λ (x : List ℕ). x ++ to.rest.now) (sym (ap encode_utf8_all (numbers_ordinary run) ∙ encodes-IsAscii run ascii));
        whole = whole;
      };
      front = ap (front class) all_left ∙ front_run class run (remaining to) all;
      after = ap (after class) all_left ∙ after_run class run (remaining to) all;
    }
