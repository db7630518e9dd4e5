-- The characters of a text, one by one.
use Rattle.std.proofs.Common.{◌≡◌, ℕ, List, [], ◌++◌, Option, Some, None, refl}
use Rattle.std.specs.Str.{chars, IsUtf8}
use Rattle.std.specs.Char.{encode_utf8}
use Rattle.std.proofs.lemmas.Str.{chars_past_char, chars-nil}
use Rattle.rnc_text.specs.plain.DecodingSteps.{first_and_rest}

pub first_of_none : (bs : List ℕ) → bs ≡ [] → None ≡ first_and_rest (chars bs)
first_of_none bs e = rw (e, chars-nil) refl

pub first_of_some : (bs rest : List ℕ) (c : ℕ) → IsUtf8 bs → bs ≡ encode_utf8 c ++ rest
    → ◌≡◌ {A = Option (ℕ × List ℕ)} (Some (c, chars rest)) (first_and_rest (chars bs))
first_of_some bs rest c u e = rw (chars_past_char bs rest c u e) refl
