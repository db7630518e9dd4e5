-- Groups of up to four hexadecimal digits, numbers of up to three digits, and four numbers.
use Rattle.std.proofs.Common.{◌≡◌, ℕ, suc, List, [], ◌∷◌, ◌++◌, length, Bool, true, false, not, ◌&&◌, Some}
use Rattle.std.proofs.Common.{refl, sym, ap, subst, arith, ◌∙◌, inl, inr, leb-true, le-leb}
use Rattle.std.specs.Prelude.{nat_le}
use Rattle.std.specs.List.{list_all, slice_split, All, join_with_byte}
use Rattle.std.proofs.lemmas.Bool.{and_from, and_parts, or_cases, not-true, not_from_false, false≢true, agree_below}
use Rattle.std.proofs.lemmas.List.Elements.{All-nil, All-cons}
use Rattle.std.proofs.lemmas.List.Splits.{slice_split_none, slice_split_at, join_with_byte-slice_split}
use Rattle.rng_model.specs.regexes.Expressions.{Class, holds, Regex, one_of, both, times, Denotes, one_is, both_are, so_often, AreCopies, no_copy, copy_and}
use Rattle.rng_model.specs.xsd.UriCharacters.{the}
use Rattle.rng_model.specs.xsd.Uris.{up_to_three_digits, embedded_address}
use Rattle.xsd_uris.specs.plain.UriShapes.{is, none, is_digit, is_hex, is_of_digits, is_group, is_number, is_dotted, are_four}
use Rattle.xsd_uris.proofs.Notation.{last_is, last_from, Behind, the_before, before_the}
use Rattle.xsd_uris.proofs.Pieces.{hex_not}

-- ---- up to so many digits

copies_all : (k : Class) {n : ℕ} {s : List ℕ} → AreCopies (one_of k) n s → (list_all (holds k) s ≡ true) × (length s ≡ n)
copies_all k no_copy = (refl, refl)
copies_all k (copy_and {s = u} {t} (one_is {c} h) others e) =
    let r = copies_all k others in
    (ap (list_all (holds k)) e ∙ and_from _ _ h r.0, ap length e ∙ ap suc r.1)

copies_of : (k : Class) (s : List ℕ) → list_all (holds k) s ≡ true → AreCopies (one_of k) (length s) s
copies_of k [] h = no_copy
copies_of k (c ∷ s) h = let f = and_parts (holds k c) (list_all (holds k) s) h in copy_and (one_is f.0) (copies_of k s f.1) refl

pub digits_if : (k : Class) (most : ℕ) (s : List ℕ) → Denotes (times 1 (Some most) (one_of k)) s → is_of_digits (holds k) most s ≡ true
digits_if k most s (so_often n copies low high) =
    let r = copies_all k copies in
    and_from _ _ r.0 (and_from _ _ (le-leb 1 (length s) (omega (arith, r.1))) (le-leb (length s) most (omega (arith, r.1))))

pub digits_then : (k : Class) (most : ℕ) (s : List ℕ) → is_of_digits (holds k) most s ≡ true → Denotes (times 1 (Some most) (one_of k)) s
digits_then k most s h =
    let f = and_parts (list_all (holds k) s) (nat_le 1 (length s) && nat_le (length s) most) h in
    let g = and_parts (nat_le 1 (length s)) (nat_le (length s) most) f.1 in
    so_often (length s) (copies_of k s f.0) (leb-true 1 (length s) g.0) (leb-true (length s) most g.1)

-- ---- what digits are not

none_of : (k q : ℕ → Bool) → ((c : ℕ) → k c ≡ true → q c ≡ false) → (s : List ℕ) → list_all k s ≡ true → none q s ≡ true
none_of k q f [] h = refl
none_of k q f (c ∷ s) h = let g = and_parts (k c) (list_all k s) h in and_from _ _ (not_from_false _ (f c g.0)) (none_of k q f s g.1)

pub group_none : (q : ℕ → Bool) → agree_below (λ a. is_hex a && q a) (λ a. false) 128 ≡ true → (s : List ℕ) → is_group s ≡ true → none q s ≡ true
group_none q all s h =
    none_of is_hex q (hex_not q all) s (and_parts (list_all is_hex s) (nat_le 1 (length s) && nat_le (length s) 4) h).0

digit_hex : (c : ℕ) → is_digit c ≡ true → is_hex c ≡ true
digit_hex c h = elim (or_cases (nat_le 0x30 c && nat_le c 0x39) false h) [ inl a ↦ first a | inr e ↦ absurd (false≢true e) ] where
  first : (nat_le 0x30 c && nat_le c 0x39) ≡ true → is_hex c ≡ true
  first a = rw a refl

number_none : (q : ℕ → Bool) → agree_below (λ a. is_hex a && q a) (λ a. false) 128 ≡ true → (s : List ℕ) → is_number s ≡ true → none q s ≡ true
number_none q all s h =
    none_of is_digit q (λ c d. hex_not q all c (digit_hex c d)) s (and_parts (list_all is_digit s) (nat_le 1 (length s) && nat_le (length s) 3) h).0

pub none_all : (q : ℕ → Bool) (s : List ℕ) → none q s ≡ true → All (λ c. q c ≡ false) s
none_all q [] h = All-nil (λ c. q c ≡ false)
none_all q (c ∷ s) h = let f = and_parts (not (q c)) (none q s) h in All-cons (λ c. q c ≡ false) c s (not-true _ f.0) (none_all q s f.1)

-- ---- four numbers

pub record Four (s : List ℕ) : Type 0 where
  pub a : List ℕ
  pub b : List ℕ
  pub c : List ℕ
  pub d : List ℕ
  pub first : is_number a ≡ true
  pub second : is_number b ≡ true
  pub third : is_number c ≡ true
  pub fourth : is_number d ≡ true
  pub whole : s ≡ a ++ 0x2E ∷ (b ++ 0x2E ∷ (c ++ 0x2E ∷ d))

-- a number, a full stop, and what is behind it
record NumberThen (r : Regex) (s : List ℕ) : Type 0 where
  front : List ℕ
  rest : List ℕ
  number : is_number front ≡ true
  then : Denotes r rest
  parts : s ≡ front ++ 0x2E ∷ rest

number_then : (r : Regex) (s : List ℕ) → Denotes (both up_to_three_digits (both (the 0x2E) r)) s → NumberThen r s
number_then r s (both_are {s = u} {t} p q e) =
    let b : Behind 0x2E r t = the_before 0x2E r t q in
    record { front = u; rest = b.rest; number = digits_if _ 3 u p; then = b.matched; parts = e ∙ ap (λ x. u ++ x) b.whole }

then_number : (r : Regex) (u s : List ℕ) → is_number u ≡ true → Denotes r s → Denotes (both up_to_three_digits (both (the 0x2E) r)) (u ++ 0x2E ∷ s)
then_number r u s h m = both_are (digits_then _ 3 u h) (before_the 0x2E r s m) refl

four_if : (s : List ℕ) → Denotes embedded_address s → Four s
four_if s m =
    let f = number_then _ s m in
    let g = number_then _ f.rest f.then in
    let h = number_then _ g.rest g.then in
    record {
      a = f.front;
      b = g.front;
      c = h.front;
      d = h.rest;
      first = f.number;
      second = g.number;
      third = h.number;
      fourth = digits_if _ 3 h.rest (last_is up_to_three_digits h.rest h.then);
      whole = f.parts ∙ ap (λ x. f.front ++ 0x2E ∷ x) (g.parts ∙ ap (λ x. g.front ++ 0x2E ∷ x) h.parts);
    }

four_then : (s : List ℕ) → Four s → Denotes embedded_address s
four_then s f = subst (Denotes embedded_address) (sym f.whole)
    (then_number _ f.a _ f.first (then_number _ f.b _ f.second (then_number _ f.c _ f.third (last_from up_to_three_digits f.d (digits_then _ 3 f.d f.fourth)))))

at_stop : (u s : List ℕ) → is_number u ≡ true → slice_split (is 0x2E) (u ++ 0x2E ∷ s) ≡ u ∷ slice_split (is 0x2E) s
at_stop u s h = slice_split_at (is 0x2E) u 0x2E s (none_all (is 0x2E) u (number_none (is 0x2E) refl u h)) refl

four_dotted : (s : List ℕ) → Four s → is_dotted s ≡ true
four_dotted s f = ap are_four split ∙ and_from _ _ (and_from _ _ f.first f.second) (and_from _ _ f.third f.fourth) where
  split : slice_split (is 0x2E) s ≡ f.a ∷ f.b ∷ f.c ∷ f.d ∷ []
  split = ap (slice_split (is 0x2E)) f.whole ∙ at_stop f.a _ f.first ∙ ap (λ x. f.a ∷ x) (at_stop f.b _ f.second)
      ∙ ap (λ x. f.a ∷ f.b ∷ x) (at_stop f.c f.d f.third)
      ∙ ap (λ x. f.a ∷ f.b ∷ f.c ∷ x) (slice_split_none (is 0x2E) f.d (none_all (is 0x2E) f.d (number_none (is 0x2E) refl f.d f.fourth)))

dotted_four : (s : List ℕ) → is_dotted s ≡ true → Four s
dotted_four s h = by (slice_split (is 0x2E) s) refl h where
  by : (ls : List (List ℕ)) → slice_split (is 0x2E) s ≡ ls → are_four ls ≡ true → Four s
  by [] e k = absurd (false≢true k)
  by (a ∷ []) e k = absurd (false≢true k)
  by (a ∷ b ∷ []) e k = absurd (false≢true k)
  by (a ∷ b ∷ c ∷ []) e k = absurd (false≢true k)
  by (a ∷ b ∷ c ∷ d ∷ []) e k =
      let f = and_parts (is_number a && is_number b) (is_number c && is_number d) k in
      let g = and_parts (is_number a) (is_number b) f.0 in
      let i = and_parts (is_number c) (is_number d) f.1 in
      record {
        a = a;
        b = b;
        c = c;
        d = d;
        first = g.0;
        second = g.1;
        third = i.0;
        fourth = i.1;
        whole = sym (join_with_byte-slice_split 0x2E s) ∙ ap (join_with_byte 0x2E) e;
      }
  by (a ∷ b ∷ c ∷ d ∷ x ∷ ls) e k = absurd (false≢true k)

pub dotted_if : (s : List ℕ) → Denotes embedded_address s → is_dotted s ≡ true
dotted_if s m = four_dotted s (four_if s m)

pub dotted_then : (s : List ℕ) → is_dotted s ≡ true → Denotes embedded_address s
dotted_then s h = four_then s (dotted_four s h)
