-- Words of ASCII characters as values of datatypes.
use Rattle.std.proofs.Common.{◌≡◌, ◌==◌, ◌<◌, ℕ, List, [], ◌∷◌, Bool, true, false, not, ◌&&◌, ◌||◌, is_some, length, take, drop, refl, sym, ap, ◌∙◌, rules}
use Rattle.std.proofs.Common.{arith, tests, one-add, true≢false, nat_le}
use Rattle.std.specs.List.{list_all, prefix_len}
use Rattle.std.specs.Str.{chars, IsAscii}
use Rattle.std.proofs.lemmas.Str.{chars-IsAscii}
use Rattle.std.proofs.lemmas.Str.Ascii.{IsAscii-nil, IsAscii-cons}
use Rattle.std.proofs.lemmas.Bool.{and_parts, and_from}
use Rattle.rng_model.specs.names.Names.{is_name_char, is_name_start, is_colon, is_ncname, is_in_ranges, name_start_ranges, more_name_ranges}
use Rattle.rng_model.specs.datatypes.Texts.{is_blank_byte, is_blank, collapse, text_if}
use Rattle.rng_model.specs.datatypes.Facets.{Lengths, fits, is_within}
use Rattle.rng_model.specs.datatypes.Datatypes.{is_nmtoken}
use Rattle.rng_types.specs.plain.Runs.{past_blanks, from_run}
use Rattle.rng_types.specs.plain.Words.{IsWordOf, is_start_byte, is_word_byte, starts_name}
use Rattle.rng_types.proofs.CollapsedBytes.{alone, collapse-past}
use Rattle.rng_types.proofs.TextValues.{is_some-text_if}

-- ---- the front of a text whose bytes pass a test, where it is all but blanks

front_by : (p : ℕ → Bool) (b : ℕ) (s : List ℕ) (c d : Bool) → p b ≡ c → is_blank_byte b ≡ d → (d ≡ true → c ≡ false)
    → (is_blank (drop (prefix_len p s) s) ≡ true → from_run s ≡ take (prefix_len p s) s) → is_blank (drop (prefix_len p (b ∷ s)) (b ∷ s)) ≡ true
    → from_run (b ∷ s) ≡ take (prefix_len p (b ∷ s)) (b ∷ s)
front_by p b s true true c d apart more h = absurd (true≢false (apart refl))
front_by p b s true false c d apart more h =
    let blank : is_blank (drop (prefix_len p s) s) ≡ true = rw (c, one-add) at h in
    rw (c, d, one-add) (ap (λ t. b ∷ t) (more blank))
front_by p b s false true c d apart more h =
    let blank : is_blank s ≡ true = rw (c, d) at h in
    rw (c, d) (rw blank refl)
front_by p b s false false c d apart more h =
    let blank : false ≡ true = rw (c, d) at h in
    absurd (true≢false (sym blank))

pub run_front : (p : ℕ → Bool) → ((b : ℕ) → is_blank_byte b ≡ true → p b ≡ false) → (s : List ℕ) → is_blank (drop (prefix_len p s) s) ≡ true
    → from_run s ≡ take (prefix_len p s) s
run_front p apart [] h = refl
run_front p apart (b ∷ s) h = front_by p b s (p b) (is_blank_byte b) refl refl (apart b) (run_front p apart s) h

passes_by : (p : ℕ → Bool) (b : ℕ) (s : List ℕ) (c : Bool) → p b ≡ c → list_all p (take (prefix_len p s) s) ≡ true
    → list_all p (take (prefix_len p (b ∷ s)) (b ∷ s)) ≡ true
passes_by p b s true c h = rw (c, one-add) (rw (c, h) refl)
passes_by p b s false c h = rw c refl

-- ---- which bytes

pub no_blank : (b : ℕ) → is_blank_byte b ≡ true → is_word_byte b ≡ false
no_blank b e = search (rules, tests, arith)

is_low : (b : ℕ) → is_word_byte b ≡ true → b < 128
is_low b e = search (rules, tests, arith)

all_low : (w : List ℕ) → list_all is_word_byte w ≡ true → IsAscii w
all_low [] e = IsAscii-nil
all_low (b ∷ w) e = let both = and_parts (is_word_byte b) (list_all is_word_byte w) e in IsAscii-cons b w (is_low b both.0) (all_low w both.1)

abbrev is_between : ℕ → ℕ → ℕ → Bool
is_between low high b = nat_le low b && nat_le b high

among : (a b c d r : Bool) → b || (c || (d || false)) ≡ true → a || (b || (c || (d || r))) ≡ true
among true b c d r e = refl
among false true c d r e = refl
among false false true d r e = refl
among false false false true r e = refl
among false false false false r e = absurd (true≢false (sym e))

begins : (b : ℕ) → is_start_byte b ≡ true → is_name_start b ≡ true
begins b e =
    among (is_between 0x3A 0x3A b) (is_between 0x41 0x5A b) (is_between 0x5F 0x5F b) (is_between 0x61 0x7A b) (is_in_ranges (drop 4 name_start_ranges) b) e

among_more : (a c d r : Bool) → c || (d || false) ≡ true → a || (c || (d || r)) ≡ true
among_more true c d r e = refl
among_more false true d r e = refl
among_more false false true r e = refl
among_more false false false r e = absurd (true≢false (sym e))

continues_by : (b : ℕ) (c : Bool) → is_start_byte b ≡ c → is_word_byte b ≡ true → is_name_char b ≡ true
continues_by b true c e = rw (begins b c) refl
continues_by b false c e =
    let more : is_in_ranges ((0x2D, 0x2E) ∷ (0x30, 0x39) ∷ []) b ≡ true = rw c at e in
    among_more (is_name_start b) (is_between 0x2D 0x2E b) (is_between 0x30 0x39 b) (is_in_ranges (drop 2 more_name_ranges) b) more

continues : (b : ℕ) → is_word_byte b ≡ true → is_name_char b ≡ true
continues b e = continues_by b (is_start_byte b) refl e

no_colon : (b : ℕ) → is_word_byte b ≡ true → is_colon b ≡ false
no_colon b e = search (rules, tests, arith)

all_continue : (w : List ℕ) → list_all is_word_byte w ≡ true → list_all is_name_char w ≡ true
all_continue [] e = refl
all_continue (b ∷ w) e = let both = and_parts (is_word_byte b) (list_all is_word_byte w) e in and_from _ _ (continues b both.0) (all_continue w both.1)

all_without_colon : (w : List ℕ) → list_all is_word_byte w ≡ true → list_all (λ d. is_name_char d && not (is_colon d)) w ≡ true
all_without_colon [] e = refl
all_without_colon (b ∷ w) e =
    let both = and_parts (is_word_byte b) (list_all is_word_byte w) e in
    and_from _ _ (and_from _ _ (continues b both.0) (ap not (no_colon b both.0))) (all_without_colon w both.1)

pub chars-word : (w : List ℕ) → list_all is_word_byte w ≡ true → chars w ≡ w
chars-word w e = chars-IsAscii w (all_low w e)

-- the front of a text that collapses to a word, and what is behind it
pub word_front : (s bytes w : List ℕ) → bytes ≡ past_blanks s → IsWordOf s w
    → ((length (take (prefix_len is_word_byte bytes) bytes) == 0) ≡ false) × (is_blank (drop (prefix_len is_word_byte bytes) bytes) ≡ true)
word_front s bytes w past word =
    let run : from_run bytes ≡ w = ap from_run past ∙ sym (collapse-past s) ∙ word.is in
    let blank = sym (alone is_word_byte no_blank bytes) ∙ ap (list_all is_word_byte) run ∙ word.bytes in
    let front : take (prefix_len is_word_byte bytes) bytes ≡ w = sym (run_front is_word_byte no_blank bytes blank) ∙ run in
    (ap (λ t. length t == 0) front ∙ word.some, blank)

-- ---- as values

pub nmtoken-word : (w : List ℕ) → (length w == 0) ≡ false → list_all is_word_byte w ≡ true → is_nmtoken w ≡ true
nmtoken-word [] some e = absurd (true≢false some)
nmtoken-word (b ∷ w) some e = all_continue (b ∷ w) e

pub ncname-word : (w : List ℕ) → starts_name w ≡ true → list_all is_word_byte w ≡ true → is_ncname w ≡ true
ncname-word [] starts e = absurd (true≢false (sym starts))
ncname-word (b ∷ w) starts e =
    let both = and_parts (is_word_byte b) (list_all is_word_byte w) e in
    and_from _ _ (and_from _ _ (begins b starts) (ap not (no_colon b both.0))) (all_without_colon w both.1)

-- what is allowed of the texts that collapse to a word, by its bytes
pub word_allowed : (is_good : List ℕ → Bool) (l : Lengths) (s w : List ℕ) → IsWordOf s w → is_good w ≡ true
    → is_within l (length w) ≡ is_some (text_if (is_good (chars (collapse s)) && fits l (collapse s)) (collapse s))
word_allowed is_good l s w word good =
    let spelled : chars (collapse s) ≡ w = ap chars word.is ∙ chars-word w word.bytes in
    sym (
    is_some-text_if (is_good (chars (collapse s)) && fits l (collapse s)) (collapse s)
    ∙ ap (λ t. is_good t && is_within l (length t)) spelled
    ∙ ap (λ b. b && is_within l (length w)) good
    )
