-- No word is empty or has a space inside.
use Rattle.std.proofs.Common.{◌≡◌, ℕ, ◌+◌, List, [], ◌∷◌, ◌++◌, Bool, true, false, cond, ◌&&◌, nat_le, nat_lt, refl, sym, ap, ◌∙◌}
use Rattle.std.specs.Str.{chars, IsUtf8}
use Rattle.std.proofs.lemmas.Bool.{and_right}
use Rattle.rng_model.specs.names.Names.{is_name_char}
use Rattle.rng_model.specs.datatypes.Facets.{Lengths, fits}
use Rattle.rng_types.proofs.OnePiece.{all_fails, chars-spaced}
use Rattle.rng_model.specs.xsd.Names.{is_hyphen, is_name, is_language, is_qname}
use Rattle.xsd_types.specs.plain.Tags.{is_in_tag, rest_of_tags}
use Rattle.xsd_types.specs.views.View.{word_test}
use Rattle.xsd_types.specs.declared.words.WordKind.{WordKind}
use Rattle.xsd_types.specs.declared.words.WordKind.TheVariants as words
use Rattle.xsd_types.proofs.Tags.{language-tags}
use Rattle.xsd_types.proofs.NameParts.{qname_space}

space_in_tag : (first : Bool) → is_in_tag first 32 ≡ false
space_in_tag true = refl
space_in_tag false = refl

no_tags : (first : Bool) (n : ℕ) (v w : List ℕ) → rest_of_tags first n (v ++ 32 ∷ w) ≡ false
no_tags first n [] w =
    ap (λ b. cond b (rest_of_tags first (n + 1) w) false) (and_right (nat_lt n 8) (is_in_tag first 32) (space_in_tag first))
no_tags first n (b ∷ v) w = by_byte (is_hyphen b) (nat_lt n 8 && is_in_tag first b) refl refl (no_tags false 0 v w) (no_tags first (n + 1) v w)
  where
    by_byte : (hyphen good : Bool) → is_hyphen b ≡ hyphen → (nat_lt n 8 && is_in_tag first b) ≡ good → rest_of_tags false 0 (v ++ 32 ∷ w) ≡ false
        → rest_of_tags first (n + 1) (v ++ 32 ∷ w) ≡ false → rest_of_tags first n ((b ∷ v) ++ 32 ∷ w) ≡ false
    by_byte true good e f new more = rw e (and_right (nat_le 1 n) _ new)
    by_byte false true e f new more = rw (e, f) more
    by_byte false false e f new more = rw (e, f) refl

name_space : (v w : List ℕ) → is_name (v ++ 32 ∷ w) ≡ false
name_space [] w = refl
name_space (c ∷ v) w = and_right _ _ (all_fails is_name_char v w refl)

pub word_empty : (k : WordKind) → word_test k [] ≡ false
unfolding is_language is_qname chars
word_empty words.Language = refl
word_empty words.Name = refl
word_empty words.QName = refl

pub word_space : (k : WordKind) (v w : List ℕ) → IsUtf8 v → word_test k (v ++ 32 ∷ w) ≡ false
word_space words.Language v w utf8 = sym (language-tags (v ++ 32 ∷ w)) ∙ no_tags true 0 v w
word_space words.Name v w utf8 = ap is_name (chars-spaced v w utf8) ∙ name_space (chars v) (chars w)
word_space words.QName v w utf8 = qname_space v w utf8

-- the test of a word, with a number of characters
abbrev pub is_good : WordKind → Lengths → List ℕ → Bool
is_good k l w = word_test k w && fits l w
