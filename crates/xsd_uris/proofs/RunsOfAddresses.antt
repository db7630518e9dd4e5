-- An address in brackets has no blanks, and no characters that are not in ASCII.
use Rattle.std.proofs.Common.{◌≡◌, ℕ, List, [], ◌∷◌, Bool, true, false, not, ◌&&◌, ◌||◌, nat_le, length, Option, Some, None, refl, ap, sym, ◌∙◌, rules, tests, arith}
use Rattle.std.specs.List.{list_all, slice_split, join_with_byte}
use Rattle.std.proofs.lemmas.Bool.{and_parts, false≢true}
use Rattle.std.proofs.lemmas.Bool.{eqb-true}
use Rattle.std.proofs.lemmas.List.Splits.{join_with_byte-slice_split}
use Rattle.std.proofs.lemmas.List.Folds.{list_all-append}
use Rattle.xsd_uris.specs.plain.UriShapes.{is, none, is_digit, is_hex, is_nothing, is_of_digits, is_group, is_number, are_four, is_dotted, are_groups, is_sequence}
use Rattle.xsd_uris.specs.plain.UriShapes.{begins_with, is_colon_and_dotted, before_double, without_first, behind_double, is_hex_sequence, is_address_of, is_address}
use Rattle.xsd_uris.proofs.RunsOfOthers.{is_other, runs, runs-none, runs-list_all, IsAlike}

-- ---- characters

pub other_is : (k c : ℕ) → is_other k ≡ false → is_other c ≡ true → is k c ≡ false
other_is k c apart e = by_same (is k c) refl where
  by_same : (b : Bool) → is k c ≡ b → is k c ≡ false
  by_same false same = same
  by_same true same = absurd (false≢true (sym apart ∙ ap is_other (sym (eqb-true c k same)) ∙ e))

pub other_hex : IsAlike false is_hex
other_hex c e = search (rules, tests, arith)

pub other_digit : IsAlike false is_digit
other_digit c e = search (rules, tests, arith)

-- what passes a test that they fail
not_other : (p : ℕ → Bool) → IsAlike false p → (c : ℕ) → p c ≡ true → not (is_other c) ≡ true
not_other p fail c e = by_char (is_other c) refl where
  by_char : (b : Bool) → is_other c ≡ b → not (is_other c) ≡ true
  by_char true other = absurd (false≢true (sym (fail c other) ∙ e))
  by_char false other = ap not other

-- ---- texts without them

abbrev pub is_plain : List ℕ → Bool
is_plain s = none is_other s

plain_all : (p : ℕ → Bool) → IsAlike false p → (s : List ℕ) → list_all p s ≡ true → is_plain s ≡ true
plain_all p fail [] e = refl
plain_all p fail (c ∷ s) e =
    let both = and_parts (p c) (list_all p s) e in
    rw (not_other p fail c both.0) (plain_all p fail s both.1)

plain_digits : (p : ℕ → Bool) (most : ℕ) → IsAlike false p → (s : List ℕ) → is_of_digits p most s ≡ true → is_plain s ≡ true
plain_digits p most fail s e = plain_all p fail s (and_parts (list_all p s) (nat_le 1 (length s) && nat_le (length s) most) e).0

plain_group : (s : List ℕ) → is_group s ≡ true → is_plain s ≡ true
plain_group s e = plain_digits is_hex 4 other_hex s e

plain_number : (s : List ℕ) → is_number s ≡ true → is_plain s ≡ true
plain_number s e = plain_digits is_digit 3 other_digit s e

plain_joined : (k : ℕ) (parts : List (List ℕ)) → not (is_other k) ≡ true → list_all is_plain parts ≡ true → is_plain (join_with_byte k parts) ≡ true
plain_joined k [] apart e = refl
plain_joined k (s ∷ []) apart e = (and_parts (is_plain s) true e).0
plain_joined k (s ∷ t ∷ parts) apart e =
    let both = and_parts (is_plain s) (list_all is_plain (t ∷ parts)) e in
    list_all-append (λ c. not (is_other c)) s (k ∷ join_with_byte k (t ∷ parts))
    ∙ rw (both.0, apart) (plain_joined k (t ∷ parts) apart both.1)

plain_split : (k : ℕ) (s : List ℕ) → not (is_other k) ≡ true → list_all is_plain (slice_split (is k) s) ≡ true → is_plain s ≡ true
plain_split k s apart e = ap is_plain (sym (join_with_byte-slice_split k s)) ∙ plain_joined k (slice_split (is k) s) apart e

plain_four : (parts : List (List ℕ)) → are_four parts ≡ true → list_all is_plain parts ≡ true
plain_four [] e = absurd (false≢true e)
plain_four (a ∷ []) e = absurd (false≢true e)
plain_four (a ∷ b ∷ []) e = absurd (false≢true e)
plain_four (a ∷ b ∷ c ∷ []) e = absurd (false≢true e)
plain_four (a ∷ b ∷ c ∷ d ∷ []) e =
    let halves = and_parts (is_number a && is_number b) (is_number c && is_number d) e in
    let left = and_parts (is_number a) (is_number b) halves.0 in
    let right = and_parts (is_number c) (is_number d) halves.1 in
    rw (plain_number a left.0, plain_number b left.1, plain_number c right.0, plain_number d right.1) refl
plain_four (a ∷ b ∷ c ∷ d ∷ f ∷ parts) e = absurd (false≢true e)

plain_dotted : (s : List ℕ) → is_dotted s ≡ true → is_plain s ≡ true
plain_dotted s e = plain_split 0x2E s refl (plain_four (slice_split (is 0x2E) s) e)

plain_either : (a b : Bool) (s : List ℕ) → (a ≡ true → is_plain s ≡ true) → (b ≡ true → is_plain s ≡ true) → (a || b) ≡ true → is_plain s ≡ true
plain_either true b s left right e = left refl
plain_either false b s left right e = right e

plain_groups : (parts : List (List ℕ)) → are_groups parts ≡ true → list_all is_plain parts ≡ true
plain_groups [] e = absurd (false≢true e)
plain_groups (g ∷ []) e =
    let plain : is_plain g ≡ true = plain_either (is_group g) (is_dotted g) g (plain_group g) (plain_dotted g) e in
    rw plain refl
plain_groups (g ∷ h ∷ parts) e =
    let both = and_parts (is_group g) (are_groups (h ∷ parts)) e in
    let plain : is_plain g ≡ true = plain_group g both.0 in
    rw plain (plain_groups (h ∷ parts) both.1)

plain_sequence : (s : List ℕ) → is_sequence s ≡ true → is_plain s ≡ true
plain_sequence s e = plain_split 0x3A s refl (plain_groups (slice_split (is 0x3A) s) e)

plain_each : (parts : List (List ℕ)) → list_all is_group parts ≡ true → list_all is_plain parts ≡ true
plain_each [] e = refl
plain_each (g ∷ parts) e =
    let both = and_parts (is_group g) (list_all is_group parts) e in
    let plain : is_plain g ≡ true = plain_group g both.0 in
    rw plain (plain_each parts both.1)

plain_hex_sequence : (s : List ℕ) → is_hex_sequence s ≡ true → is_plain s ≡ true
plain_hex_sequence s e = plain_split 0x3A s refl (plain_each (slice_split (is 0x3A) s) e)

plain_nothing : (s : List ℕ) → is_nothing s ≡ true → is_plain s ≡ true
plain_nothing [] e = refl
plain_nothing (c ∷ s) e = absurd (false≢true e)

plain_colon : (s : List ℕ) → is_colon_and_dotted s ≡ true → is_plain s ≡ true
plain_colon [] e = refl
plain_colon (c ∷ s) e =
    let both = and_parts (is 0x3A c) (is_dotted s) e in
    let first : not (is_other c) ≡ true = ap (λ d. not (is_other d)) (eqb-true c 0x3A both.0) in
    rw first (plain_dotted s both.1)

-- ---- before and behind `::`

abbrev plain_behind : Option (List ℕ) → Bool
plain_behind None = true
plain_behind (Some s) = is_plain s

begun : (s : List ℕ) → begins_with 0x3A s ≡ true → is_plain (without_first s) ≡ true → is_plain s ≡ true
begun [] e plain = refl
begun (c ∷ s) e plain =
    let first : not (is_other c) ≡ true = ap (λ d. not (is_other d)) (eqb-true c 0x3A e) in
    rw first plain

plain_double : (s : List ℕ) → is_plain (before_double s) ≡ true → plain_behind (behind_double s) ≡ true → is_plain s ≡ true
plain_double [] before behind = refl
plain_double (c ∷ s) before behind = by_double (is 0x3A c && begins_with 0x3A s) refl (plain_double s) where
  by_double : (b : Bool) → (is 0x3A c && begins_with 0x3A s) ≡ b
      → (is_plain (before_double s) ≡ true → plain_behind (behind_double s) ≡ true → is_plain s ≡ true) → is_plain (c ∷ s) ≡ true
  by_double true e h =
      let both = and_parts (is 0x3A c) (begins_with 0x3A s) e in
      let first : not (is_other c) ≡ true = ap (λ d. not (is_other d)) (eqb-true c 0x3A both.0) in
      let rest : is_plain (without_first s) ≡ true = rw e at behind in
      rw first (begun s both.1 rest)
  by_double false e h =
      let here : (not (is_other c) && is_plain (before_double s)) ≡ true = rw e at before in
      let rest : plain_behind (behind_double s) ≡ true = rw e at behind in
      let both = and_parts (not (is_other c)) (is_plain (before_double s)) here in
      rw both.0 (h both.1 rest)

plain_of : (s : List ℕ) (t : Option (List ℕ)) → is_address_of s t ≡ true → (is_plain s ≡ true) × (plain_behind t ≡ true)
plain_of s None e = (plain_sequence s (and_parts (is_sequence s) (not (is_dotted s)) e).0, refl)
plain_of s (Some t) e =
    let both = and_parts (is_nothing s || is_hex_sequence s) (is_nothing t || (is_sequence t || is_colon_and_dotted t)) e in (
      plain_either (is_nothing s) (is_hex_sequence s) s (plain_nothing s) (plain_hex_sequence s) both.0,
      plain_either (is_nothing t) (is_sequence t || is_colon_and_dotted t) t (plain_nothing t)
          (plain_either (is_sequence t) (is_colon_and_dotted t) t (plain_sequence t) (plain_colon t)) both.1,
    )

plain_address : (s : List ℕ) → is_address s ≡ true → is_plain s ≡ true
plain_address s e = let parts = plain_of (before_double s) (behind_double s) e in plain_double s parts.0 parts.1

-- ---- the same with one space for each run

pub runs-is_address : (s : List ℕ) → is_address (runs s) ≡ is_address s
runs-is_address s = by_plain (is_plain s) refl where
  no_address : (t : List ℕ) → is_plain t ≡ false → is_address t ≡ false
  no_address t e = by_answer (is_address t) refl where
    by_answer : (b : Bool) → is_address t ≡ b → b ≡ false
    by_answer false a = refl
    by_answer true a = absurd (false≢true (sym e ∙ plain_address t a))

  by_plain : (b : Bool) → is_plain s ≡ b → is_address (runs s) ≡ is_address s
  by_plain true e = ap is_address (runs-none s e)
  by_plain false e =
      let same : is_plain (runs s) ≡ is_plain s = runs-list_all false (λ c. not (is_other c)) (λ c other. ap not other) s in
      no_address (runs s) (same ∙ e) ∙ sym (no_address s e)
