-- The property of a name, by the bytes of the name, and in a part of the names.
use Rattle.std.proofs.Common.{◌≡◌, ◌∙◌, ℕ, List, [], ◌∷◌, ◌++◌, Bool, true, false, cond, nat_lt, Option, Some, None, refl, sym, ap, ltb-true}
use Rattle.std.specs.Option.{option_map, option_or}
use Rattle.std.specs.List.{list_all}
use Rattle.std.specs.Str.{chars, IsUtf8, IsAscii, bytes_eq, encode_utf8_all}
use Rattle.std.proofs.lemmas.Bool.{and_parts, false_from_ne_true}
use Rattle.std.proofs.lemmas.Str.{chars-IsAscii, encodes-IsAscii, encodes-chars}
use Rattle.std.proofs.lemmas.Str.Ascii.{IsAscii-nil, IsAscii-cons}
use Rattle.rng_model.specs.datatypes.Facets.{named}
use Rattle.rng_model.proofs.Texts.{bytes_same, bytes_itself}
use Rattle.rng_model.specs.regexes.Properties.{category_names, block_names}

-- ---- names of ASCII characters, by characters and by bytes

abbrev is_ascii : List ℕ → Bool
is_ascii s = list_all (λ b. nat_lt b 128) s

ascii_is : (s : List ℕ) → is_ascii s ≡ true → IsAscii s
ascii_is [] e = IsAscii-nil
ascii_is (b ∷ s) e = let both = and_parts _ _ e in IsAscii-cons b s (ltb-true b 128 both.0) (ascii_is s both.1)

same_test : (text key : List ℕ) → IsUtf8 text → IsAscii key → bytes_eq (chars text) key ≡ bytes_eq text key
same_test text key u a = by (bytes_eq text key) refl
  where
    same : bytes_eq (chars text) key ≡ true → text ≡ key
    same e = sym (encodes-chars text u) ∙ ap encode_utf8_all (bytes_same _ _ e) ∙ encodes-IsAscii key a

    by : (b : Bool) → bytes_eq text key ≡ b → bytes_eq (chars text) key ≡ b
    by true e =
        let is = bytes_same text key e in
        rw is (rw (chars-IsAscii key a) (bytes_itself key))
    by false e = false_from_ne_true _ (λ t. let both : true ≡ false = sym (bytes_itself key) ∙ ap (λ s. bytes_eq s key) (sym (same t)) ∙ e in cc)

module _ {A : Type 0} where
  pub named_by_bytes : (text : List ℕ) (rows : List (List ℕ × A)) → IsUtf8 text → list_all (λ r. is_ascii r.0) rows ≡ true
      → named (chars text) rows ≡ named text rows
  named_by_bytes text [] u all = refl
  named_by_bytes text (r ∷ rows) u all =
      let both = and_parts _ _ all in
      rw (same_test text r.0 u (ascii_is r.0 both.0), named_by_bytes text rows u both.1) refl

  -- ---- parts

  pub found_first : (name : List ℕ) (xs ys : List (List ℕ × A)) (v : A) → Some v ≡ named name xs → Some v ≡ named name (xs ++ ys)
  found_first name [] ys v e = cc
  found_first name (x ∷ xs) ys v e = by (bytes_eq name x.0) (found_first name xs ys v) e
    where
      by : (b : Bool) → (Some v ≡ named name xs → Some v ≡ named name (xs ++ ys)) → Some v ≡ cond b (Some x.1) (named name xs)
          → Some v ≡ cond b (Some x.1) (named name (xs ++ ys))
      by true more f = f
      by false more f = more f

  pub found_second : (name : List ℕ) (xs ys : List (List ℕ × A)) (o : Option A) → None ≡ named name xs → o ≡ named name ys → o ≡ named name (xs ++ ys)
  found_second name [] ys o e f = f
  found_second name (x ∷ xs) ys o e f = by (bytes_eq name x.0) (λ h. found_second name xs ys o h f) e
    where
      by : (b : Bool) → (None ≡ named name xs → o ≡ named name (xs ++ ys)) → None ≡ cond b (Some x.1) (named name xs)
          → o ≡ cond b (Some x.1) (named name (xs ++ ys))
      by true more g = cc
      by false more g = more g

  -- what is found in the first names, or else in the others
  pub found_either : {X : Type 0} (view : X → A) (name : List ℕ) (xs ys : List (List ℕ × A)) (a b r : Option X) → option_map view a ≡ named name xs
      → option_map view b ≡ named name ys → r ≡ option_or a b → option_map view r ≡ named name (xs ++ ys)
  found_either view name xs ys None b r e f m = rw m (found_second name xs ys _ e f)
  found_either view name xs ys (Some x) b r e f m = rw m (found_first name xs ys _ e)

pub ascii_names : list_all (λ r. is_ascii r.0) (category_names ++ block_names) ≡ true
ascii_names = refl
