-- A language read byte by byte is its parts between hyphens.
use Rattle.std.proofs.Common.{◌≡◌, ◌≢◌, ℕ, suc, ◌+◌, ◌≤◌, ◌<◌, List, [], ◌∷◌, length, Bool, true, false, cond, ◌&&◌, nat_le, nat_lt, refl, sym, ap, ◌∙◌}
use Rattle.std.proofs.Common.{rules, arith, tests}
use Rattle.std.proofs.Math.Nat.{add-zero}
use Rattle.std.specs.List.{list_all, slice_split}
use Rattle.std.proofs.lemmas.List.Splits.{slice_split-cons_no, length-slice_split}
use Rattle.std.proofs.lemmas.Bool.{and_left, and_right}
use Rattle.rng_model.specs.xsd.Names.{is_hyphen, is_tag, is_letter_or_digit, are_tags, is_language}
use Rattle.xsd_types.specs.plain.Tags.{is_in_tag, rest_of_tags}

-- so many bytes, of one to eight
abbrev is_size : ℕ → Bool
is_size n = nat_le 1 n && nat_le n 8

-- the rest of a tag behind so many bytes, and further tags
abbrev parts_after : Bool → ℕ → List (List ℕ) → Bool
parts_after first n [] = false
parts_after first n (t ∷ ts) = (list_all (is_in_tag first) t && is_size (length t + n)) && list_all (is_tag is_letter_or_digit) ts

-- with none of a tag read, these are tags
further_by : (ts : List (List ℕ)) → ts ≢ [] → parts_after false 0 ts ≡ list_all (is_tag is_letter_or_digit) ts
further_by [] some = absurd (some refl)
further_by (t ∷ ts) some = rw (add-zero (length t)) refl

never_empty : (s : List ℕ) → slice_split is_hyphen s ≢ []
never_empty s e = absurd (omega (arith, ap length e, length-slice_split is_hyphen s))

-- a byte of a tag, where the parts of what follows are these
in_tag : (first : Bool) (n b : ℕ) (s : List ℕ) (ts : List (List ℕ)) → n ≤ 8 → slice_split is_hyphen s ≡ ts → is_hyphen b ≡ false
    → (n < 8 → rest_of_tags first (n + 1) s ≡ parts_after first (n + 1) ts)
    → cond (nat_lt n 8 && is_in_tag first b) (rest_of_tags first (n + 1) s) false ≡ parts_after first n (slice_split is_hyphen (b ∷ s))
in_tag first n b s [] few is other more = absurd (never_empty s is)
in_tag first n b s (t ∷ ts) few is other more = by_size (nat_lt n 8) (is_in_tag first b) refl refl
  where
    parts : slice_split is_hyphen (b ∷ s) ≡ (b ∷ t) ∷ ts
    parts = rw (slice_split-cons_no is_hyphen b s other, is) refl

    by_size : (low good : Bool) → nat_lt n 8 ≡ low → is_in_tag first b ≡ good
        → cond (nat_lt n 8 && is_in_tag first b) (rest_of_tags first (n + 1) s) false ≡ parts_after first n (slice_split is_hyphen (b ∷ s))
    by_size true true e f =
        let below : n < 8 = search (rules, tests, arith) in
        let sum : length t + (n + 1) ≡ length (b ∷ t) + n = omega arith in
        rw (parts, e, f) (more below ∙ ap (λ k. (list_all (is_in_tag first) t && is_size k) && list_all (is_tag is_letter_or_digit) ts) sum)
    by_size true false e f = rw (parts, e, f) refl
    by_size false good e f =
        let many : is_size (length (b ∷ t) + n) ≡ false = large n (length t) e in
        rw (parts, e, many) (sym (and_left _ _ (and_right (is_in_tag first b && list_all (is_in_tag first) t) false refl)))
      where
        large : (n k : ℕ) → nat_lt n 8 ≡ false → is_size (suc k + n) ≡ false
        large n k e = and_right (nat_le 1 (suc k + n)) (nat_le (suc k + n) 8) (search (rules, tests, arith))

pub rest_is : (first : Bool) (n : ℕ) (s : List ℕ) → n ≤ 8 → rest_of_tags first n s ≡ parts_after first n (slice_split is_hyphen s)
rest_is first n [] few = search (rules, tests, arith)
rest_is first n (b ∷ s) few =
    by_byte (is_hyphen b) refl (rest_is false 0 s (omega arith)) (λ below. rest_is first (n + 1) s (omega (arith, below)))
  where
    by_byte : (c : Bool) → is_hyphen b ≡ c → rest_of_tags false 0 s ≡ parts_after false 0 (slice_split is_hyphen s)
        → (n < 8 → rest_of_tags first (n + 1) s ≡ parts_after first (n + 1) (slice_split is_hyphen s))
        → rest_of_tags first n (b ∷ s) ≡ parts_after first n (slice_split is_hyphen (b ∷ s))
    by_byte true e new more =
        let size : is_size (length {A = ℕ} [] + n) ≡ nat_le 1 n = search (rules, tests, arith) in
        rw e (
        ap (λ x. nat_le 1 n && x) (new ∙ further_by (slice_split is_hyphen s) (never_empty s))
        ∙ ap (λ x. x && list_all (is_tag is_letter_or_digit) (slice_split is_hyphen s)) (sym size)
        )
    by_byte false e new more =
        ap (λ c. cond c (nat_le 1 n && rest_of_tags false 0 s) (cond (nat_lt n 8 && is_in_tag first b) (rest_of_tags first (n + 1) s) false)) e
        ∙ (in_tag first n b s (slice_split is_hyphen s) few refl e more)

-- a language is the tags that are read from its beginning
tags_by : (parts : List (List ℕ)) → parts_after true 0 parts ≡ are_tags parts
tags_by [] = refl
tags_by (t ∷ ts) = rw (add-zero (length t)) refl

pub language-tags : (s : List ℕ) → rest_of_tags true 0 s ≡ is_language s
unfolding is_language
language-tags s = rest_is true 0 s (omega arith) ∙ tags_by (slice_split is_hyphen s)
