-- Datatypes whose values are collapsed texts that pass a test.
use Rattle.std.proofs.Common.{length, ◌==◌, ◌≡◌, ℕ, List, [], ◌∷◌, ◌++◌, Bool, true, false, not, ◌&&◌, Option, Some, None, is_some, refl, ap, sym, ◌∙◌, rules}
use Rattle.std.specs.List.{list_all}
use Rattle.std.specs.Str.{IsUtf8, chars, bytes_eq}
use Rattle.std.specs.Str.{encode_utf8_all}
use Rattle.std.proofs.lemmas.Str.{encodes-chars}
use Rattle.std.proofs.lemmas.Bool.{and_left, and_right, true≢false}
use Rattle.std.proofs.lemmas.Slice.Eq.{bytes_eq-Decides}
use Rattle.rng_model.proofs.Texts.{no_bytes}
use Rattle.rng_model.specs.datatypes.Texts.{pieces, collapse, Value, text_if, are_equal}
use Rattle.rng_model.specs.names.Names.{is_name_char, is_colon, is_ncname}
use Rattle.rng_model.specs.datatypes.Facets.{Lengths, fits}
use Rattle.rng_model.specs.datatypes.Datatypes.{is_nmtoken}
use Rattle.rng_types.specs.plain.Pieces.{only}
use Rattle.rng_types.proofs.OnePiece.{collapse-only, collapse-other, all_fails, chars-spaced}

pub is_some-text_if : (passes : Bool) (s : List ℕ) → is_some (text_if passes s) ≡ passes
is_some-text_if true s = refl
is_some-text_if false s = refl

-- with exactly one piece
pub allows-only : (good : List ℕ → Bool) (s w : List ℕ) → Some w ≡ only (pieces s) → good w ≡ is_some (text_if (good (collapse s)) (collapse s))
allows-only good s w e = ap good (sym (collapse-only s w e)) ∙ sym (is_some-text_if (good (collapse s)) (collapse s))

-- otherwise the test takes nothing
pub allows-other : (good : List ℕ → Bool) (s : List ℕ) → good [] ≡ false → ((v w : List ℕ) → IsUtf8 v → good (v ++ 32 ∷ w) ≡ false) → IsUtf8 s
    → None ≡ only (pieces s) → false ≡ is_some (text_if (good (collapse s)) (collapse s))
allows-other good s nil spaced utf8 e = sym (collapse-other good false s nil spaced utf8 e) ∙ sym (is_some-text_if (good (collapse s)) (collapse s))

pub fails_and : (b x y : Bool) → b ≡ x → b ≡ false → b ≡ (x && y)
fails_and b x y is f = f ∙ sym (and_left x y (sym is ∙ f))

pub passes_and : (b x y r : Bool) → b ≡ x → b ≡ true → r ≡ y → r ≡ (x && y)
passes_and b x y r is t e = e ∙ ap (λ z. z && y) (sym t ∙ is)

chars_none : chars [] ≡ []
unfolding chars
chars_none = refl

-- a text whose characters pass a test, and whose number of characters is allowed
abbrev pub passes : (List ℕ → Bool) → Lengths → List ℕ → Bool
passes is_word l w = is_word (chars w) && fits l w

-- what is allowed of the texts that collapse to such a text, with exactly one piece
module _ (is_word : List ℕ → Bool) (l : Lengths) (s : List ℕ) where
  abbrev IsAllowed : Bool → Type 0
  IsAllowed b = b ≡ is_some (text_if (passes is_word l (collapse s)) (collapse s))

  pub word_passes : (w : List ℕ) (b r : Bool) → Some w ≡ only (pieces s) → b ≡ is_word (chars w) → b ≡ true → r ≡ fits l w → IsAllowed r
  word_passes w b r piece is t e = passes_and b (is_word (chars w)) (fits l w) r is t e ∙ allows-only (passes is_word l) s w piece

  pub word_fails : (w : List ℕ) (b : Bool) → Some w ≡ only (pieces s) → b ≡ is_word (chars w) → b ≡ false → IsAllowed b
  word_fails w b piece is f = fails_and b (is_word (chars w)) (fits l w) is f ∙ allows-only (passes is_word l) s w piece

  pub no_word : is_word [] ≡ false → ((v w : List ℕ) → is_word (v ++ 32 ∷ w) ≡ false) → IsUtf8 s → None ≡ only (pieces s) → IsAllowed false
  no_word nil spaced utf8 none =
      allows-other (passes is_word l) s
      (and_left (is_word (chars [])) (fits l []) (ap is_word chars_none ∙ nil))
      (λ v w u. and_left (is_word (chars (v ++ 32 ∷ w))) (fits l (v ++ 32 ∷ w)) (ap is_word (chars-spaced v w u) ∙ spaced (chars v) (chars w)))
      utf8 none

-- no NCName and no NMTOKEN has a space
pub ncname_space : (v w : List ℕ) → is_ncname (v ++ 32 ∷ w) ≡ false
ncname_space [] w = refl
ncname_space (c ∷ v) w = and_right _ _ (all_fails (λ d. is_name_char d && not (is_colon d)) v w refl)

pub nmtoken_space : (v w : List ℕ) → is_nmtoken (v ++ 32 ∷ w) ≡ false
nmtoken_space [] w = refl
nmtoken_space (c ∷ v) w = all_fails is_name_char (c ∷ v) w refl

-- if the first text is allowed, the two are equal in the datatype if they are the same
texts_equal_by : (x y : List ℕ) (gx gy same : Bool) → gx ≡ true → bytes_eq x y ≡ same → (same ≡ true → gy ≡ true)
    → bytes_eq x y ≡ are_equal (text_if gx x) (text_if gy y)
texts_equal_by x y false gy same e is more = search rules
texts_equal_by x y true true same e is more = refl
texts_equal_by x y true false true e is more = absurd (true≢false (sym (more refl)))
texts_equal_by x y true false false e is more = is

pub texts_equal : (good : List ℕ → Bool) (x y : List ℕ) → is_some (text_if (good x) x) ≡ true
    → bytes_eq x y ≡ are_equal (text_if (good x) x) (text_if (good y) y)
texts_equal good x y allowed =
    let passes : good x ≡ true = sym (is_some-text_if (good x) x) ∙ allowed in
    texts_equal_by x y (good x) (good y) (bytes_eq x y) passes refl (λ e. ap good (sym ((bytes_eq-Decides x y).0 e)) ∙ passes)

-- if it is not allowed, they are not equal
pub never_equal : (a b : Option Value) → is_some a ≡ false → are_equal a b ≡ false
never_equal None b e = refl
never_equal (Some a) b e = search rules

nmtoken_by : (t cs : List ℕ) → IsUtf8 t → (length t == 0) ≡ false → cs ≡ chars t → is_nmtoken cs ≡ list_all is_name_char cs
nmtoken_by t [] utf8 e is = absurd (true≢false (ap (λ u. length u == 0) (ap encode_utf8_all is ∙ encodes-chars t utf8) ∙ e))
nmtoken_by t (c ∷ cs) utf8 e is = refl

-- a text that is not empty has a character
pub nmtoken-some : (t : List ℕ) → IsUtf8 t → (length t == 0) ≡ false → is_nmtoken (chars t) ≡ list_all is_name_char (chars t)
nmtoken-some t utf8 e = nmtoken_by t (chars t) utf8 e refl

pub nmtoken-none : (t : List ℕ) → (length t == 0) ≡ true → is_nmtoken (chars t) ≡ false
unfolding chars
nmtoken-none t e = rw (no_bytes t e) refl
