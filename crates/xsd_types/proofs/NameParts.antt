-- The parts of a qualified name: one, or two around a colon.
use Rattle.std.proofs.Common.{◌≡◌, ◌≢◌, ◌<◌, ◌≤◌, ℕ, ◌+◌, List, [], ◌∷◌, ◌++◌, length, get_or, Bool, true, false, not, ◌&&◌, nat_lt, refl, sym, ap, ◌∙◌}
use Rattle.std.proofs.Common.{rules, arith, tests}
use Rattle.std.specs.List.{slice_split, onto_first, list_all, position_or_len, before_first, after_first}
use Rattle.std.specs.Str.{chars, IsUtf8}
use Rattle.std.proofs.lemmas.Bool.{and_left, and_right, and_parts}
use Rattle.std.proofs.lemmas.List.Folds.{list_all-append}
use Rattle.std.proofs.lemmas.List.Splits.{slice_split-cons_yes, slice_split-cons_no, slice_split_first, length-slice_split}
use Rattle.std.proofs.lemmas.List.Sums.{split_at_first, passes_at_first, prefix_len-le-length}
use Rattle.std.proofs.lemmas.Str.{chars-append, IsUtf8-take, IsUtf8-drop, IsCharBoundary-before_ascii, IsCharBoundary-after_ascii}
use Rattle.std.proofs.lemmas.List.{append_assoc}
use Rattle.rng_model.specs.names.Names.{is_name_char, is_colon, is_ncname}
use Rattle.rng_types.proofs.OnePiece.{chars-spaced}
use Rattle.rng_types.proofs.TextValues.{ncname_space}
use Rattle.rng_model.proofs.TestedRuns.{run_passes}
use Rattle.rng_model.specs.xsd.Names.{are_name_parts, is_qname}

-- no colon: one part
one_part : (s : List ℕ) → position_or_len is_colon s ≡ length s → slice_split is_colon s ≡ s ∷ []
one_part [] e = refl
one_part (b ∷ s) e = by_byte (is_colon b) refl (one_part s)
  where
    by_byte : (c : Bool) → is_colon b ≡ c → (position_or_len is_colon s ≡ length s → slice_split is_colon s ≡ s ∷ [])
        → slice_split is_colon (b ∷ s) ≡ (b ∷ s) ∷ []
    by_byte true f more = let here : 0 ≡ length (b ∷ s) = rw f at e in absurd (omega (arith, here))
    by_byte false f more = rw f (rw (more (search (rules, tests, arith))) refl)

pub qname-one : (s : List ℕ) → position_or_len is_colon s ≡ length s → is_qname s ≡ is_ncname (chars s)
unfolding is_qname
qname-one s e = ap are_name_parts (one_part s e)

-- no NCName has a colon
ncname_colon : (v w : List ℕ) → is_ncname (v ++ 58 ∷ w) ≡ false
ncname_colon [] w = refl
ncname_colon (c ∷ v) w =
    and_right _ _ (list_all-append (λ d. is_name_char d && not (is_colon d)) v (58 ∷ w)
    ∙ and_right (list_all (λ d. is_name_char d && not (is_colon d)) v) _ refl)

chars_colon : (w : List ℕ) → chars (58 ∷ w) ≡ 58 ∷ chars w
unfolding chars
chars_colon [] = refl
chars_colon (b ∷ w) = refl

colon_at : (s : List ℕ) → position_or_len is_colon s < length s → get_or s (position_or_len is_colon s) 0 ≡ 58
colon_at s inside = by_test _ (passes_at_first is_colon s 0 inside)
  where
    by_test : (b : ℕ) → is_colon b ≡ true → b ≡ 58
    by_test b e = search (rules, tests, arith)

at_colon : (s : List ℕ) → position_or_len is_colon s < length s → s ≡ before_first is_colon s ++ 58 ∷ after_first is_colon s
at_colon s inside = split_at_first is_colon s 0 inside ∙ ap (λ b. before_first is_colon s ++ b ∷ after_first is_colon s) (colon_at s inside)

ncname_spelled : (s : List ℕ) → IsUtf8 s → position_or_len is_colon s < length s → is_ncname (chars s) ≡ false
ncname_spelled s utf8 inside =
    let front : IsUtf8 (before_first is_colon s) =
    IsUtf8-take s (position_or_len is_colon s) utf8 (IsCharBoundary-before_ascii s (position_or_len is_colon s) inside (omega (arith, colon_at s inside))) in
    ap (λ t. is_ncname (chars t)) (at_colon s inside)
    ∙ ap is_ncname (chars-append (before_first is_colon s) (58 ∷ after_first is_colon s) front
    ∙ ap (λ t. chars (before_first is_colon s) ++ t) (chars_colon (after_first is_colon s)))
    ∙ ncname_colon (chars (before_first is_colon s)) (chars (after_first is_colon s))

-- three parts or more are no name
three : (p q : List ℕ) (rest : List (List ℕ)) → rest ≢ [] → are_name_parts (p ∷ q ∷ rest) ≡ false
three p q [] some = absurd (some refl)
three p q (x ∷ xs) some = refl

never_empty : (s : List ℕ) → slice_split is_colon s ≢ []
never_empty s e = absurd (omega (arith, ap length e, length-slice_split is_colon s))

two_parts : (p n : List ℕ) → IsUtf8 n → are_name_parts (p ∷ slice_split is_colon n) ≡ (is_ncname (chars p) && is_ncname (chars n))
two_parts p n utf8 = by_place (nat_lt (position_or_len is_colon n) (length n)) refl
  where
    by_place : (b : Bool) → nat_lt (position_or_len is_colon n) (length n) ≡ b
        → are_name_parts (p ∷ slice_split is_colon n) ≡ (is_ncname (chars p) && is_ncname (chars n))
    by_place true e =
        let inside : position_or_len is_colon n < length n = search (rules, tests, arith) in
        ap (λ ns. are_name_parts (p ∷ ns)) (slice_split_first is_colon n 0 inside)
        ∙ three p (before_first is_colon n) (slice_split is_colon (after_first is_colon n)) (never_empty (after_first is_colon n))
        ∙ sym (and_right (is_ncname (chars p)) (is_ncname (chars n)) (ncname_spelled n utf8 inside))
    by_place false e =
        let beyond : length n ≤ position_or_len is_colon n = search (rules, tests, arith) in
        ap (λ ns. are_name_parts (p ∷ ns)) (one_part n (omega (arith, beyond, prefix_len-le-length (λ b. not (is_colon b)) n)))

-- a text with a space inside has a part with one
bad_first : (p : List ℕ) (ns : List (List ℕ)) → is_ncname (chars p) ≡ false → are_name_parts (p ∷ ns) ≡ false
bad_first p [] e = e
bad_first p (n ∷ []) e = and_left (is_ncname (chars p)) (is_ncname (chars n)) e
bad_first p (n ∷ m ∷ ms) e = refl

-- the first part of a text that begins with bytes that are no colons
first_part : (v u : List ℕ) (x : List ℕ) (ns : List (List ℕ)) → list_all (λ b. not (is_colon b)) v ≡ true → slice_split is_colon u ≡ x ∷ ns
    → slice_split is_colon (v ++ u) ≡ (v ++ x) ∷ ns
first_part [] u x ns all e = e
first_part (b ∷ v) u x ns all e =
    let both = and_parts (not (is_colon b)) (list_all (λ c. not (is_colon c)) v) all in
    slice_split-cons_no is_colon b (v ++ u) (plain (is_colon b) both.0) ∙ ap (onto_first b) (first_part v u x ns both.1 e)
  where
    plain : (c : Bool) → not c ≡ true → c ≡ false
    plain false e = refl
    plain true e = sym e

spaced_ncname : (v w : List ℕ) → IsUtf8 v → is_ncname (chars (v ++ 32 ∷ w)) ≡ false
spaced_ncname v w utf8 = ap is_ncname (chars-spaced v w utf8) ∙ ncname_space (chars v) (chars w)

utf8_after : (s : List ℕ) → IsUtf8 s → position_or_len is_colon s < length s → IsUtf8 (after_first is_colon s)
utf8_after s utf8 inside =
    IsUtf8-drop s (position_or_len is_colon s + 1) utf8 (IsCharBoundary-after_ascii s (position_or_len is_colon s) utf8 inside (omega (arith, colon_at s inside)))

pub qname-two : (s : List ℕ) → position_or_len is_colon s < length s → IsUtf8 s
    → is_qname s ≡ (is_ncname (chars (before_first is_colon s)) && is_ncname (chars (after_first is_colon s)))
unfolding is_qname
qname-two s inside utf8 = ap are_name_parts (slice_split_first is_colon s 0 inside)
    ∙ two_parts (before_first is_colon s) (after_first is_colon s) (utf8_after s utf8 inside)

-- ---- a text with a space inside is no qualified name, wherever its colons are

record HasFirst (s : List ℕ) : Type 0 where
  first : List ℕ
  more : List (List ℕ)
  is : slice_split is_colon s ≡ first ∷ more

first_of : (s : List ℕ) → HasFirst s
first_of s = by_parts (slice_split is_colon s) refl
  where
    by_parts : (parts : List (List ℕ)) → slice_split is_colon s ≡ parts → HasFirst s
    by_parts [] e = absurd (never_empty s e)
    by_parts (p ∷ ps) e = record { first = p; more = ps; is = e }

no_colons : (s : List ℕ) → position_or_len is_colon s ≡ length s → list_all (λ b. not (is_colon b)) s ≡ true
no_colons [] e = refl
no_colons (b ∷ s) e = by_byte (is_colon b) refl (no_colons s)
  where
    by_byte : (c : Bool) → is_colon b ≡ c → (position_or_len is_colon s ≡ length s → list_all (λ b. not (is_colon b)) s ≡ true)
        → list_all (λ b. not (is_colon b)) (b ∷ s) ≡ true
    by_byte true f more = let here : 0 ≡ length (b ∷ s) = rw f at e in absurd (omega (arith, here))
    by_byte false f more = rw f (more (search (rules, tests, arith)))

-- the space is in the first part if no colon is before it
spaced_part : (v w : List ℕ) → position_or_len is_colon v ≡ length v → slice_split is_colon (v ++ 32 ∷ w) ≡ (v ++ 32 ∷ (first_of w).first) ∷ (first_of w).more
spaced_part v w e =
    first_part v (32 ∷ w) (32 ∷ (first_of w).first) (first_of w).more (no_colons v e) (slice_split-cons_no is_colon 32 w refl
    ∙ ap (onto_first 32) (first_of w).is)

-- a colon ends the first part
colon_part : (v u : List ℕ) → position_or_len is_colon v < length v
    → slice_split is_colon (v ++ u) ≡ (before_first is_colon v ++ []) ∷ slice_split is_colon (after_first is_colon v ++ u)
colon_part v u inside =
    let p = before_first is_colon v in
    let n = after_first is_colon v in
    ap (λ t. slice_split is_colon (t ++ u)) (at_colon v inside) ∙ ap (slice_split is_colon) (append_assoc p (58 ∷ n) u)
    ∙ first_part p (58 ∷ (n ++ u)) [] (slice_split is_colon (n ++ u)) (run_passes (λ b. not (is_colon b)) v) (slice_split-cons_yes is_colon 58 (n ++ u) refl)

-- whether there is a colon
module _ (v : List ℕ) {P : Type 0} (inside : position_or_len is_colon v < length v → P) (none : position_or_len is_colon v ≡ length v → P) where
  by_colon : P
  by_colon = by_place (nat_lt (position_or_len is_colon v) (length v)) refl
    where
      by_place : (b : Bool) → nat_lt (position_or_len is_colon v) (length v) ≡ b → P
      by_place true e = inside (search (rules, tests, arith))
      by_place false e =
          let beyond : length v ≤ position_or_len is_colon v = search (rules, tests, arith) in
          none (omega (arith, beyond, prefix_len-le-length (λ b. not (is_colon b)) v))

bad_second : (p q : List ℕ) (ns : List (List ℕ)) → is_ncname (chars q) ≡ false → are_name_parts (p ∷ q ∷ ns) ≡ false
bad_second p q [] e = and_right (is_ncname (chars p)) (is_ncname (chars q)) e
bad_second p q (n ∷ ns) e = refl

spaced_second : (p n w : List ℕ) → IsUtf8 n → are_name_parts (p ∷ slice_split is_colon (n ++ 32 ∷ w)) ≡ false
spaced_second p n w utf8 =
    by_colon n
    (λ inside. ap (λ ns. are_name_parts (p ∷ ns)) (colon_part n (32 ∷ w) inside)
    ∙ three p (before_first is_colon n ++ []) (slice_split is_colon (after_first is_colon n ++ 32 ∷ w)) (never_empty (after_first is_colon n ++ 32 ∷ w)))
    (λ none. ap (λ ns. are_name_parts (p ∷ ns)) (spaced_part n w none)
    ∙ bad_second p (n ++ 32 ∷ (first_of w).first) (first_of w).more (spaced_ncname n (first_of w).first utf8))

pub qname_space : (v w : List ℕ) → IsUtf8 v → is_qname (v ++ 32 ∷ w) ≡ false
unfolding is_qname
qname_space v w utf8 =
    by_colon v
    (λ inside. ap are_name_parts (colon_part v (32 ∷ w) inside)
    ∙ spaced_second (before_first is_colon v ++ []) (after_first is_colon v) w (utf8_after v utf8 inside))
    (λ none. ap are_name_parts (spaced_part v w none) ∙ bad_first (v ++ 32 ∷ (first_of w).first) (first_of w).more (spaced_ncname v (first_of w).first utf8))
