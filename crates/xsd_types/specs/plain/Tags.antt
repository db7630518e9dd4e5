-- The spelling of languages, read byte by byte.
use Rattle.std.specs.Prelude.{ℕ, ◌+◌, List, [], ◌∷◌, Bool, true, false, ◌&&◌, nat_le, nat_lt, if◌then◌else◌}
use Rattle.rng_model.specs.xsd.Names.{is_letter, is_letter_or_digit, is_hyphen}

-- the bytes that the first tag may have, or a further one
abbrev pub is_in_tag : Bool → ℕ → Bool
is_in_tag true = is_letter
is_in_tag false = is_letter_or_digit

-- the rest of a text, behind so many bytes of a tag, which is the first one or a further one
abbrev pub rest_of_tags : Bool → ℕ → List ℕ → Bool
rest_of_tags first n [] = nat_le 1 n
rest_of_tags first n (b ∷ s) =
    if is_hyphen b then nat_le 1 n && rest_of_tags false 0 s else
    if nat_lt n 8 && is_in_tag first b then rest_of_tags first (n + 1) s else false
