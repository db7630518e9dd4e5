-- How clap sees a word: as `--`, as an option, or as neither.
use Rattle.std.proofs.Common.{◌≡◌, ◌∙◌, ◌<◌, ◌++◌, ℕ, Bool, true, false, List, [], ◌∷◌, Option, Some, None, codes, ap, refl, sym, arith, eqb-true}
use Rattle.std.specs.Prelude.{◌==◌, encode_utf8}
use Rattle.std.specs.Str.{IsUtf8, bytes_eq, chars, encode_utf8_all}
use Rattle.std.proofs.lemmas.Bool.{eqb-false}
use Rattle.std.proofs.lemmas.Str.{IsUtf8-nil, IsUtf8-past_char, chars-nil, encode_ascii, encodes-chars}
use Rattle.clap.specs.Lexer.{long_of, name_and_value, short_of}
use Rattle.rncv_cli.specs.plain.CommandLine.{Text, IsOption}

-- clap sees neither `--` nor an option
pub record IsPlain (word : Text) : Type 0 where
  pub no_dashes : bytes_eq word (codes "--") ≡ false
  pub no_long : long_of word ≡ None
  pub no_short : short_of word ≡ None

-- clap sees `--name`
pub record IsLong (word : Text) : Type 0 where
  pub option : IsOption word
  pub no_dashes : bytes_eq word (codes "--") ≡ false
  pub found : Text × Option Text
  pub is : long_of word ≡ Some found

-- clap sees `-c`
pub record IsShort (word : Text) : Type 0 where
  pub option : IsOption word
  pub no_dashes : bytes_eq word (codes "--") ≡ false
  pub no_long : long_of word ≡ None
  pub first : ℕ
  pub rest : Text
  pub parts : word ≡ 45 ∷ first ∷ rest
  pub is : short_of word ≡ Some (first ∷ rest)

pub data Kind (word : Text) : Type 0 where
  is_dashes : word ≡ codes "--" → Kind word
  is_long : IsLong word → Kind word
  is_short : IsShort word → Kind word
  is_plain : IsPlain word → (IsOption word → ⊥) → Kind word

-- a word that begins with `--`
behind_two : (word rest : Text) → word ≡ 45 ∷ 45 ∷ rest → Kind word
behind_two word [] e = is_dashes e
behind_two word (b ∷ rest) e = is_long (record {
  option = (45, b ∷ rest, e);
  no_dashes = ap (λ w. bytes_eq w (codes "--")) e;
  found = name_and_value (b ∷ rest);
  is = ap long_of e;
})

-- a word that begins with `-` and b
behind_one : (word : Text) (b : ℕ) (rest : Text) (test : Bool) → (b == 45) ≡ test → word ≡ 45 ∷ b ∷ rest → Kind word
behind_one word b rest true is e = behind_two word rest (e ∙ ap (λ n. 45 ∷ n ∷ rest) (eqb-true b 45 is))
behind_one word b rest false is e = is_short (record {
  option = (b, rest, e);
  no_dashes = rw (e, is) refl;
  no_long = rw (e, is) refl;
  first = b;
  rest = rest;
  parts = e;
  is = rw (e, is) refl;
})

no_option : (word : Text) (b : ℕ) (rest : Text) → (b == 45) ≡ false → word ≡ b ∷ rest → IsOption word → ⊥
no_option word b rest is e option =
    let same : b ≡ 45 = cc (e, option.2) in
    eqb-false b 45 is same

-- a word that begins with b
from_first : (word : Text) (b : ℕ) (rest : Text) (test : Bool) → (b == 45) ≡ test → word ≡ b ∷ rest → Kind word
from_first word b rest false is e = is_plain (record { no_dashes = rw (e, is) refl; no_long = rw (e, is) refl; no_short = rw (e, is) refl })
    (no_option word b rest is e)
from_first word b [] true is e =
    let alone : word ≡ 45 ∷ [] = e ∙ ap (λ n. n ∷ []) (eqb-true b 45 is) in
    is_plain (record { no_dashes = rw alone refl; no_long = rw alone refl; no_short = rw alone refl }) (λ option. cc (alone, option.2))
from_first word b (next ∷ rest) true is e = behind_one word next rest (next == 45) refl (e ∙ ap (λ n. n ∷ next ∷ rest) (eqb-true b 45 is))

pub kind_of : (word : Text) → Kind word
kind_of [] = is_plain (record { no_dashes = refl; no_long = refl; no_short = refl }) (λ option. cc (option.2))
kind_of (b ∷ rest) = from_first (b ∷ rest) b rest (b == 45) refl refl

plain_by : (word : Text) → Kind word → (IsOption word → ⊥) → IsPlain word
plain_by word (is_dashes e) never = absurd (never (45, [], e))
plain_by word (is_long long) never = absurd (never long.option)
plain_by word (is_short short) never = absurd (never short.option)
plain_by word (is_plain seen alike) never = seen

pub plain_of : (word : Text) → (IsOption word → ⊥) → IsPlain word
plain_of word never = plain_by word (kind_of word) never

-- a text with a byte has a first character, and more
pub record HasFirst (text : Text) : Type 0 where
  pub first : ℕ
  pub more : List ℕ
  pub is : chars text ≡ first ∷ more

has_first : (b : ℕ) (rest : Text) (all : List ℕ) → chars (b ∷ rest) ≡ all → IsUtf8 (b ∷ rest) → HasFirst (b ∷ rest)
has_first b rest [] e utf8 =
    let none : b ∷ rest ≡ [] = sym (encodes-chars (b ∷ rest) utf8) ∙ ap encode_utf8_all (e ∙ sym chars-nil) ∙ encodes-chars [] IsUtf8-nil in
    cc
has_first b rest (c ∷ more) e utf8 = record { first = c; more = more; is = e }

-- what follows the hyphen of `-c` has a character
pub short_has_first : (word : Text) (short : IsShort word) → IsUtf8 word → HasFirst (short.first ∷ short.rest)
short_has_first word short utf8 =
    let text : Text = short.first ∷ short.rest in
    let ascii : 45 < 128 = omega arith in
    let parts : word ≡ encode_utf8 45 ++ text = short.parts ∙ ap (λ hyphen. hyphen ++ text) (sym (encode_ascii 45 ascii)) in
    has_first short.first short.rest _ refl (IsUtf8-past_char word text 45 utf8 parts)
