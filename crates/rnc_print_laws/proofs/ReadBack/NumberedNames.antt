-- Names made of a letter and a number: they are NCNames, not keywords, and different for different numbers.
use Rattle.std.proofs.Common.{◌≡◌, ◌≢◌, ◌∙◌, ℕ, suc, ◌+◌, ◌≤◌, ◌<◌, ◌^◌, ◌%◌, Bool, true, false, cond, List, [], ◌∷◌, ◌++◌, length, refl, sym, ap, subst}
use Rattle.std.proofs.Common.{Option, Some, None, arith}
use Rattle.std.specs.Prelude.{◌&&◌, ◌||◌, ◌==◌, not, nat_le, decimal, encode_utf8_all}
use Rattle.std.specs.List.{list_all, filter_map, cons_option}
use Rattle.std.specs.Str.{bytes_eq}
use Rattle.std.proofs.lemmas.Bool.{ne_eqb, le-leb, and_parts, and_from, or_left, or_right}
use Rattle.std.proofs.lemmas.Str.{encode_ascii, encodes-IsAscii}
use Rattle.std.proofs.lemmas.List.Sums.{prefix_len-le-length}
use Rattle.std.proofs.lemmas.Fmt.{decimal_by_steps, IsAscii-decimal, decimal_injective}
use Rattle.rng_model.specs.names.Names.{is_ncname, is_name_char, is_name_start, is_colon}
use Rattle.rnc_model.specs.tokens.Tokens.{keyword_of}
use Rattle.rncv_model.specs.printed.Items.{has, place_in, same_tree, PrintedItem, element, pattern}
use Rattle.rncv_model.specs.printed.PrintedText.{element_in, pattern_in, item_name}
use Rattle.rncv_model.specs.printed.Words.{prefix_of}
use Rattle.std.proofs.lemmas.Bool.{false≢true}
use Rattle.rng_model.proofs.Members.{same_rest}
use Rattle.rng_model.proofs.Texts.{bytes_same, bytes_differ}

abbrev is_digit : ℕ → Bool
is_digit d = nat_le 0x30 d && nat_le d 0x39

record Digits (ds : List ℕ) : Type 0 where
  first : ℕ
  more : List ℕ
  is : ds ≡ first ∷ more
  low : 0x30 ≤ first
  high : first ≤ 0x39
  all : list_all is_digit ds ≡ true

digit_is : (d : ℕ) → 0x30 ≤ d → d ≤ 0x39 → is_digit d ≡ true
digit_is d low high = and_from (nat_le 0x30 d) (nat_le d 0x39) (le-leb 0x30 d low) (le-leb d 0x39 high)

one_digit : (n : ℕ) → n < 10 → Digits ((48 + n) ∷ [])
one_digit n lt =
    record {
      first = 48 + n;
      more = [];
      is = refl;
      low = omega (arith, lt);
      high = omega (arith, lt);
      all = rw
          (digit_is (48 + n) (omega (arith, lt)) (omega (arith, lt))) refl;
    }

all_and_last : (ds : List ℕ) (d : ℕ) → list_all is_digit ds ≡ true → is_digit d ≡ true → list_all is_digit (ds ++ d ∷ []) ≡ true
all_and_last [] d h e = rw e refl
all_and_last (x ∷ ds) d h e =
    let p = and_parts (is_digit x) (list_all is_digit ds) h in
    and_from (is_digit x) (list_all is_digit (ds ++ d ∷ [])) p.0 (all_and_last ds d p.1 e)

more_digits : (n : ℕ) (ds : List ℕ) → Digits ds → Digits (ds ++ ((48 + n % 10) ∷ []))
more_digits n ds h = record {
  first = h.first;
  more = h.more ++ ((48 + n % 10) ∷ []);
  is = ap (λ (x : List ℕ). x ++ ((48 + n % 10) ∷ [])) h.is;
  low = h.low;
  high = h.high;
  all = all_and_last ds (48 + n % 10) h.all (digit_is (48 + n % 10) (omega arith) (omega arith));
}

digits : (n : ℕ) → n < 2 ^ 64 → Digits (decimal n)
digits n lt = decimal_by_steps (λ n ds. Digits ds) (λ n lt. one_digit n lt) (λ n ds le h. more_digits n ds h) n lt

-- ---- NCNames

digit_in_name : (d : ℕ) → is_digit d ≡ true → (is_name_char d && not (is_colon d)) ≡ true
digit_in_name d h =
    and_from (is_name_char d) (not (is_colon d)) (or_right (is_name_start d) _ (or_right (nat_le 0x2D d && nat_le d 0x2E) _ (or_left (is_digit d) _ h)))
    (rw (ne_eqb d 0x3A (λ e. false≢true (subst (λ (x : ℕ). is_digit x ≡ true) e h))) refl)

digits_in_name : (ds : List ℕ) → list_all is_digit ds ≡ true → list_all (λ d. is_name_char d && not (is_colon d)) ds ≡ true
digits_in_name [] h = refl
digits_in_name (d ∷ ds) h =
    let p = and_parts (is_digit d) (list_all is_digit ds) h in
    and_from (is_name_char d && not (is_colon d)) _ (digit_in_name d p.0) (digits_in_name ds p.1)

pub letter_number_name : (c n : ℕ) → (is_name_start c && not (is_colon c)) ≡ true → n < 2 ^ 64 → is_ncname (c ∷ decimal n) ≡ true
letter_number_name c n s lt = and_from (is_name_start c && not (is_colon c)) _ s (digits_in_name (decimal n) (digits n lt).all)

-- ---- they are not keywords

-- a digit is not a letter
no_letter : (d c : ℕ) → d ≤ 0x39 → 0x3A ≤ c → (d == c) ≡ false
no_letter d c h i = ne_eqb d c (λ e. absurd (omega (arith, h, i, e)))

e_no_keyword : (d : ℕ) (ds : List ℕ) → d ≤ 0x39 → keyword_of (0x65 ∷ d ∷ ds) ≡ None
unfolding keyword_of
e_no_keyword d ds h = rw (no_letter d 0x6C h (omega arith), no_letter d 0x6D h (omega arith), no_letter d 0x78 h (omega arith)) refl

p_no_keyword : (d : ℕ) (ds : List ℕ) → d ≤ 0x39 → keyword_of (0x70 ∷ d ∷ ds) ≡ None
unfolding keyword_of
p_no_keyword d ds h = rw (no_letter d 0x61 h (omega arith)) refl

e_number : (n : ℕ) → n < 2 ^ 64 → keyword_of (0x65 ∷ decimal n) ≡ None
e_number n lt = let d = digits n lt in subst (λ (x : List ℕ). keyword_of (0x65 ∷ x) ≡ None) (sym d.is) (e_no_keyword d.first d.more d.high)

p_number : (n : ℕ) → n < 2 ^ 64 → keyword_of (0x70 ∷ decimal n) ≡ None
p_number n lt = let d = digits n lt in subst (λ (x : List ℕ). keyword_of (0x70 ∷ x) ≡ None) (sym d.is) (p_no_keyword d.first d.more d.high)

-- ---- places

pub place_le : {A : Type 0} (same : A → A → Bool) (xs : List A) (a : A) → place_in same xs a ≤ length xs
place_le same xs a = prefix_len-le-length (λ x. not (same a x)) xs

pub kept_le : {A B : Type 0} (f : A → Option B) (xs : List A) → length (filter_map f xs) ≤ length xs
kept_le f [] = omega arith
kept_le f (x ∷ xs) = at_option (f x) (kept_le f xs)
  where
    at_option : (o : Option _) → length (filter_map f xs) ≤ length xs → length (cons_option o (filter_map f xs)) ≤ suc (length xs)
    at_option None le = omega (arith, le)
    at_option (Some y) le = omega (arith, le)

pub one_place : {A : Type 0} (same : A → A → Bool) → ((a b : A) → same a b ≡ true → a ≡ b) → (xs : List A) (a b : A) → has same xs a ≡ true
    → has same xs b ≡ true → place_in same xs a ≡ place_in same xs b → a ≡ b
one_place same exact [] a b h i e = absurd (false≢true h)
one_place same exact (x ∷ xs) a b h i e = at_tests (same a x) (same b x) refl refl h i e (one_place same exact xs a b)
  where
    at_tests : (s t : Bool) → same a x ≡ s → same b x ≡ t → (s || has same xs a) ≡ true → (t || has same xs b) ≡ true
        → cond (not s) (1 + place_in same xs a) 0 ≡ cond (not t) (1 + place_in same xs b) 0
        → (has same xs a ≡ true → has same xs b ≡ true → place_in same xs a ≡ place_in same xs b → a ≡ b) → a ≡ b
    at_tests true true p q h i e again = exact a x p ∙ sym (exact b x q)
    at_tests true false p q h i e again = absurd (omega (arith, e))
    at_tests false true p q h i e again = absurd (omega (arith, e))
    at_tests false false p q h i e again = again h i (omega (arith, e))

-- ---- the names of items and namespaces

pub item_no_keyword : (items : List PrintedItem) → length items < 2 ^ 64 → (i : PrintedItem) → keyword_of (item_name items i) ≡ None
item_no_keyword items lt (element k) =
    e_number _ (let a = place_le (λ k l. k == l) (filter_map element_in items) k in let b = kept_le element_in items in omega (arith, a, b, lt))
item_no_keyword items lt (pattern s) =
    p_number _ (let a = place_le same_tree (filter_map pattern_in items) s in let b = kept_le pattern_in items in omega (arith, a, b, lt))

pub item_ncname : (items : List PrintedItem) → length items < 2 ^ 64 → (i : PrintedItem) → is_ncname (item_name items i) ≡ true
item_ncname items lt (element k) =
    letter_number_name 0x65 _ refl
    (let a = place_le (λ k l. k == l) (filter_map element_in items) k in let b = kept_le element_in items in omega (arith, a, b, lt))
item_ncname items lt (pattern s) =
    letter_number_name 0x70 _ refl (let a = place_le same_tree (filter_map pattern_in items) s in let b = kept_le pattern_in items in omega (arith, a, b, lt))

pub prefix_ncname : (ns : List (List ℕ)) → length ns < 2 ^ 64 → (u : List ℕ) → is_ncname (prefix_of ns u) ≡ true
prefix_ncname ns lt u = letter_number_name 0x6E _ refl (let a = place_le bytes_eq ns u in omega (arith, a, lt))

pub prefix_apart : (ns : List (List ℕ)) → length ns < 2 ^ 64 → (u v : List ℕ) → has bytes_eq ns u ≡ true → has bytes_eq ns v ≡ true → u ≢ v
    → bytes_eq (prefix_of ns u) (prefix_of ns v) ≡ false
prefix_apart ns lt u v h i n =
    bytes_differ (prefix_of ns u) (prefix_of ns v)
    (λ e. n (one_place bytes_eq bytes_same ns u v h i
    (decimal_injective _ _ (let a = place_le bytes_eq ns u in omega (arith, a, lt)) (let a = place_le bytes_eq ns v in omega (arith, a, lt)) (same_rest e))))

-- ---- they are ASCII

letter_number_bytes : (c n : ℕ) → c < 128 → n < 2 ^ 64 → encode_utf8_all (c ∷ decimal n) ≡ c ∷ decimal n
letter_number_bytes c n l lt =
    ap (λ (x : List ℕ). x ++ encode_utf8_all (decimal n)) (encode_ascii c l) ∙ ap (λ (x : List ℕ). c ∷ x) (encodes-IsAscii (decimal n) (IsAscii-decimal n lt))

pub item_bytes : (items : List PrintedItem) → length items < 2 ^ 64 → (i : PrintedItem) → encode_utf8_all (item_name items i) ≡ item_name items i
item_bytes items lt (element k) =
    letter_number_bytes 0x65 _ (omega arith)
    (let a = place_le (λ k l. k == l) (filter_map element_in items) k in let b = kept_le element_in items in omega (arith, a, b, lt))
item_bytes items lt (pattern s) =
    letter_number_bytes 0x70 _ (omega arith)
    (let a = place_le same_tree (filter_map pattern_in items) s in let b = kept_le pattern_in items in omega (arith, a, b, lt))

pub prefix_bytes : (ns : List (List ℕ)) → length ns < 2 ^ 64 → (u : List ℕ) → encode_utf8_all (prefix_of ns u) ≡ prefix_of ns u
prefix_bytes ns lt u = letter_number_bytes 0x6E _ (omega arith) (let a = place_le bytes_eq ns u in omega (arith, a, lt))
