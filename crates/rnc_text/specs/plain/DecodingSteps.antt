-- Decoding step by step: what each function of `src/decoding.rt` and `src/hexadecimal.rt` returns.
use Rattle.std.specs.Prelude.{ℕ, zero, suc, ◌+◌, ◌*◌, Bool, true, false, ◌&&◌, nat_lt, ◌==◌, if◌then◌else◌, List, [], ◌∷◌, Option, Some, None}
use Rattle.std.specs.Char.{is_digit, digit_value}
use Rattle.rng_model.specs.names.Names.{is_in_ranges, is_xml_char}
use Rattle.rnc_model.specs.declared.character.Character.{Character}
use Rattle.rnc_model.specs.declared.character.Character.TheVariants.{LineEnd, Ordinary}

-- an LF, a tab, or another ASCII character from the space to `~` that is no backslash
abbrev pub is_plain_byte : ℕ → Bool
is_plain_byte b = is_in_ranges ((0x9, 0xA) ∷ (0x20, 0x5B) ∷ (0x5D, 0x7E) ∷ []) b

abbrev pub first_and_rest : List ℕ → Option (ℕ × List ℕ)
first_and_rest [] = None
first_and_rest (c ∷ cs) = Some (c, cs)

abbrev pub line_feed_or : List ℕ → Option (ℕ × List ℕ) → List ℕ
line_feed_or cs None = cs
line_feed_or cs (Some x) = if x.0 == 0xA then x.1 else cs

-- the characters without an LF at the front
unfoldable pub without_line_feed : List ℕ → List ℕ
without_line_feed cs = line_feed_or cs (first_and_rest cs)

-- `x`s and an opening brace are at the front, with at least one `x` here or before
unfoldable pub opens_from : Bool → List ℕ → Bool
opens_from any [] = false
opens_from any (c ∷ cs) = if c == 0x78 then opens_from true cs else (if c == 0x7B then any else false)

abbrev pub hexadecimal_step : (ℕ → List ℕ → Option (ℕ × List ℕ)) → ℕ → ℕ → Option (ℕ × List ℕ) → Option (ℕ × List ℕ)
hexadecimal_step next k n None = None
hexadecimal_step next k n (Some x) =
    if (x.0 == 0x7D) && nat_lt k 6 then Some (n, x.1) else (if is_digit x.0 16 then next (n * 16 + digit_value x.0) x.1 else None)

-- Digits before a closing brace, after others with the number n: the number of all digits, and what follows the brace.
-- Looks at k characters at most, out of the seven that digits and brace can be.
unfoldable pub hexadecimal_end : ℕ → ℕ → List ℕ → Option (ℕ × List ℕ)
hexadecimal_end zero n cs = None
hexadecimal_end (suc k) n cs = hexadecimal_step (hexadecimal_end k) k n (first_and_rest cs)

abbrev pub ordinary_if_char : Option (ℕ × List ℕ) → Option (Character × List ℕ)
ordinary_if_char None = None
ordinary_if_char (Some x) = if is_xml_char x.0 then Some (Ordinary x.0, x.1) else None

abbrev pub after_brace : Option (ℕ × List ℕ) → Option (Character × List ℕ)
after_brace None = None
after_brace (Some x) = if x.0 == 0x7B then ordinary_if_char (hexadecimal_end 7 0 x.1) else None

abbrev pub after_x : Option (ℕ × List ℕ) → Option (Character × List ℕ)
after_x None = None
after_x (Some x) = if x.0 == 0x78 then after_brace (first_and_rest x.1) else None

-- the character of an escape after its backslash
unfoldable pub escape_front : List ℕ → Option (Character × List ℕ)
escape_front cs = after_x (first_and_rest cs)

abbrev pub plain_front : ℕ → List ℕ → Option (Character × List ℕ)
plain_front c cs = if is_xml_char c then Some (Ordinary c, cs) else None

abbrev pub front_by : ℕ → List ℕ → Option (Character × List ℕ)
front_by c cs =
    if c == 0xD then Some (LineEnd, without_line_feed cs) else
    (if c == 0xA then Some (LineEnd, cs) else (if (c == 0x5C) && opens_from false cs then escape_front cs else plain_front c cs))

abbrev pub front_at : Option (ℕ × List ℕ) → Option (Character × List ℕ)
front_at None = None
front_at (Some x) = front_by x.0 x.1

-- the first character, and what follows it
unfoldable pub front_of : List ℕ → Option (Character × List ℕ)
front_of cs = front_at (first_and_rest cs)
