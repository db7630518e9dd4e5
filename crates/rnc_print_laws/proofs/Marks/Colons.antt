-- The bytes of an NCName contain no colon, so what is before the first colon of a name is its prefix.
use Rattle.std.proofs.Common.{◌≡◌, ◌∙◌, inl, inr, ℕ, suc, ◌+◌, Bool, true, cond, List, [], ◌∷◌, ◌++◌, length, take, drop, sym, ap, subst, refl, arith}
use Rattle.std.specs.Prelude.{◌&&◌, not, encode_utf8_all}
use Rattle.std.specs.List.{list_all, position_or_len}
use Rattle.std.specs.Char.{encode_utf8}
use Rattle.std.proofs.lemmas.Bool.{and_parts, and_from, false≢true}
use Rattle.std.proofs.lemmas.Str.{encode_ascii}
use Rattle.rng_model.specs.names.Names.{is_ncname, is_name_char, is_name_start, is_colon}
use Rattle.rnc_model.specs.tokens.Cut as grammar
use Rattle.rnc_print_laws.proofs.Marks.EncodedMarks.{AreHigh, low_or_high, high_bytes, other_number}

-- no byte is a colon
abbrev pub HasNoColon : List ℕ → Type 0
HasNoColon w = list_all (λ b. not (is_colon b)) w ≡ true

no_colon_both : (xs ys : List ℕ) → HasNoColon xs → HasNoColon ys → HasNoColon (xs ++ ys)
no_colon_both [] ys h i = i
no_colon_both (x ∷ xs) ys h i =
    let p = and_parts (not (is_colon x)) (list_all (λ b. not (is_colon b)) xs) h in
    and_from (not (is_colon x)) _ p.0 (no_colon_both xs ys p.1 i)

high_no_colon : (bs : List ℕ) → AreHigh bs → HasNoColon bs
high_no_colon [] h = refl
high_no_colon (b ∷ bs) h = and_from (not (is_colon b)) _ (rw (other_number b 58 h.0 (omega arith)) refl) (high_no_colon bs h.1)

character_no_colon : (c : ℕ) → not (is_colon c) ≡ true → HasNoColon (encode_utf8 c)
character_no_colon c h = elim (low_or_high c) [
  | inl lt ↦ subst HasNoColon (sym (encode_ascii c lt)) (and_from (not (is_colon c)) true h refl)
  | inr high ↦ high_no_colon (encode_utf8 c) (high_bytes c high)
]

name_no_colon : (w : List ℕ) → list_all (λ d. is_name_char d && not (is_colon d)) w ≡ true → HasNoColon (encode_utf8_all w)
name_no_colon [] h = refl
name_no_colon (c ∷ w) h =
    let p = and_parts (is_name_char c && not (is_colon c)) (list_all (λ d. is_name_char d && not (is_colon d)) w) h in
    let q = and_parts (is_name_char c) (not (is_colon c)) p.0 in
    no_colon_both (encode_utf8 c) (encode_utf8_all w) (character_no_colon c q.1) (name_no_colon w p.1)

pub ncname_no_colon : (w : List ℕ) → is_ncname w ≡ true → HasNoColon (encode_utf8_all w)
ncname_no_colon [] h = absurd (false≢true h)
ncname_no_colon (c ∷ w) h =
    let p = and_parts (is_name_start c && not (is_colon c)) (list_all (λ d. is_name_char d && not (is_colon d)) w) h in
    let q = and_parts (is_name_start c) (not (is_colon c)) p.0 in
    no_colon_both (encode_utf8 c) (encode_utf8_all w) (character_no_colon c q.1) (name_no_colon w p.1)

colon_place : (p l : List ℕ) → HasNoColon p → position_or_len is_colon (p ++ 58 ∷ l) ≡ length p
colon_place [] l h = refl
colon_place (c ∷ p) l h =
    let q = and_parts (not (is_colon c)) (list_all (λ b. not (is_colon b)) p) h in
    let e = colon_place p l q.1 in
    ap (λ (b : Bool). cond b (1 + position_or_len is_colon (p ++ 58 ∷ l)) 0) q.0 ∙ omega (arith, e)

take_front : (p r : List ℕ) → take (length p) (p ++ r) ≡ p
take_front [] r = refl
take_front (c ∷ p) r = ap (λ (x : List ℕ). c ∷ x) (take_front p r)

drop_front : (p r : List ℕ) (x : ℕ) → drop (length p + 1) (p ++ x ∷ r) ≡ r
drop_front [] r x = refl
drop_front (c ∷ p) r x = ap (λ (n : ℕ). drop n (c ∷ (p ++ x ∷ r))) one_more ∙ drop_front p r x
  where
    one_more : suc (length p) + 1 ≡ suc (length p + 1)
    one_more = omega arith

-- what is before the first colon, and what is after it
pub before_colon : (p l : List ℕ) → HasNoColon p → (grammar.prefix_in (p ++ 58 ∷ l) ≡ p) × (grammar.local_in (p ++ 58 ∷ l) ≡ l)
before_colon p l h =
    let e = colon_place p l h in
    (ap (λ (n : ℕ). take n (p ++ 58 ∷ l)) e ∙ take_front p (58 ∷ l), ap (λ (n : ℕ). drop (n + 1) (p ++ 58 ∷ l)) e ∙ drop_front p l 58)
