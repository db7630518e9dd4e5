-- The cut step by step: what each function of `src/scanning.rt` returns.
use Rattle.std.specs.Prelude.{ℕ, Bool, false, not, ◌&&◌, ◌||◌, ◌==◌, if◌then◌else◌, List, [], ◌∷◌, ◌++◌, Option, Some, None}
use Rattle.rng_model.specs.names.Names.{is_in_ranges, is_name_start, is_name_char, is_colon}
use Rattle.rnc_model.specs.declared.character.Character.{Character}
use Rattle.rnc_model.specs.declared.character.Character.TheVariants.{LineEnd, Ordinary}
use Rattle.rnc_model.specs.declared.token.Sign.{Sign}
use Rattle.rnc_model.specs.declared.token.TokenKind.TheVariants as kinds
use Rattle.rnc_text.specs.declared.scanning.Class.{Class}
use Rattle.rnc_text.specs.declared.scanning.Class.TheVariants as classes
use Rattle.rnc_model.specs.characters.Decoding.{numbers_of}
use Rattle.rnc_model.specs.tokens.Tokens.{Piece, gap, token, is_blank_character, is_in_line, is_in_segment, is_quote, word_kind, sign_of, three}

-- the characters that begin an NCName, and those that may follow in it
abbrev pub starts_ncname : ℕ → Bool
starts_ncname c = is_name_start c && not (is_colon c)

abbrev pub is_ncname_number : ℕ → Bool
is_ncname_number c = is_name_char c && not (is_colon c)

abbrev pub is_in_ncname : Character → Bool
is_in_ncname LineEnd = false
is_in_ncname (Ordinary c) = is_ncname_number c

-- the characters of a class
abbrev pub is_in : Class → Character → Bool
is_in classes.Ncname c = is_in_ncname c
is_in classes.Line c = is_in_line c
is_in (classes.Segment quote) c = is_in_segment quote c

abbrev pub ascii_name_start_ranges : List (ℕ × ℕ)
ascii_name_start_ranges = (0x41, 0x5A) ∷ (0x5F, 0x5F) ∷ (0x61, 0x7A) ∷ []

abbrev pub more_ascii_name_ranges : List (ℕ × ℕ)
more_ascii_name_ranges = (0x2D, 0x2E) ∷ (0x30, 0x39) ∷ []

-- an ASCII character of the class, other than a control character
abbrev pub is_ascii_in : Class → ℕ → Bool
is_ascii_in classes.Ncname b = is_in_ranges ascii_name_start_ranges b || is_in_ranges more_ascii_name_ranges b
is_ascii_in classes.Line b = is_in_ranges ((0x20, 0x7E) ∷ []) b
is_ascii_in (classes.Segment quote) b = is_in_ranges ((0x20, 0x7E) ∷ []) b && not (b == quote)

-- the longest front of a class, and what follows it
unfoldable pub front : Class → List Character → List Character
front class [] = []
front class (c ∷ cs) = if is_in class c then c ∷ front class cs else []

unfoldable pub after : Class → List Character → List Character
after class [] = []
after class (c ∷ cs) = if is_in class c then after class cs else c ∷ cs

abbrev pub first_of : List Character → Option (Character × List Character)
first_of [] = None
first_of (c ∷ cs) = Some (c, cs)

-- the characters after this one, if it is first
abbrev pub behind_at : ℕ → Option (Character × List Character) → Option (List Character)
behind_at n None = None
behind_at n (Some (LineEnd, cs)) = None
behind_at n (Some (Ordinary c, cs)) = if c == n then Some cs else None

abbrev pub behind : ℕ → List Character → Option (List Character)
behind n cs = behind_at n (first_of cs)

-- an NCName begins here
abbrev pub begins_at : Option (Character × List Character) → Bool
begins_at None = false
begins_at (Some (LineEnd, cs)) = false
begins_at (Some (Ordinary c, cs)) = starts_ncname c

abbrev pub begins_ncname : List Character → Bool
begins_ncname cs = begins_at (first_of cs)

abbrev pub Found : Type 0
Found = Option (Piece × List Character)

-- a word, a CName or an nsName, by its first NCName and what follows it
abbrev pub local_at : List Character → List Character → List Character → Found
local_at name rest local = if begins_ncname local
    then Some (
      token kinds.CName (name ++ Ordinary 0x3A ∷ front classes.Ncname local) (name ++ Ordinary 0x3A ∷ front classes.Ncname local),
      after classes.Ncname local,
    )
    else Some (token (word_kind name) name name, rest)

abbrev pub star_at : List Character → List Character → List Character → Option (List Character) → Found
star_at name rest local None = local_at name rest local
star_at name rest local (Some end) = Some (token kinds.NsName (name ++ Ordinary 0x3A ∷ Ordinary 0x2A ∷ []) (name ++ Ordinary 0x3A ∷ Ordinary 0x2A ∷ []), end)

abbrev pub colon_at : List Character → List Character → Option (List Character) → Found
colon_at name rest None = Some (token (word_kind name) name name, rest)
colon_at name rest (Some local) = star_at name rest local (behind 0x2A local)

unfoldable pub name_at : List Character → Found
name_at cs = colon_at (front classes.Ncname cs) (after classes.Ncname cs) (behind 0x3A (after classes.Ncname cs))

-- a quoted identifier after its backslash
unfoldable pub quoted_at : List Character → Found
quoted_at cs =
    if begins_ncname cs then Some
    (token kinds.QuotedIdentifier (front classes.Ncname cs) (Ordinary 0x5C ∷ front classes.Ncname cs), after classes.Ncname cs) else None

-- a segment after its first quote
abbrev pub segment_with : ℕ → List Character → Option (List Character) → Found
segment_with quote content None = None
segment_with quote content (Some end) = Some (token kinds.Segment content (Ordinary quote ∷ (content ++ Ordinary quote ∷ [])), end)

unfoldable pub segment_at : ℕ → List Character → Found
segment_at quote cs = segment_with quote (front (classes.Segment quote) cs) (behind quote (after (classes.Segment quote) cs))

-- what follows three quotes at the front
abbrev pub then_behind : ℕ → Option (List Character) → Option (List Character)
then_behind quote None = None
then_behind quote (Some cs) = behind quote cs

abbrev pub behind_two : ℕ → List Character → Option (List Character)
behind_two quote cs = then_behind quote (behind quote cs)

abbrev pub behind_three : ℕ → List Character → Option (List Character)
behind_three quote cs = then_behind quote (behind_two quote cs)

-- the characters before the first three quotes, and those after them
abbrev pub with_first : Character → Option (List Character × List Character) → Option (List Character × List Character)
with_first c None = None
with_first c (Some x) = Some (c ∷ x.0, x.1)

abbrev pub here_or : Option (List Character) → Option (List Character × List Character) → Option (List Character × List Character)
here_or None more = more
here_or (Some end) more = Some ([], end)

unfoldable pub until_three : ℕ → List Character → Option (List Character × List Character)
until_three quote [] = None
until_three quote (c ∷ cs) = here_or (behind_three quote (c ∷ cs)) (with_first c (until_three quote cs))

abbrev pub triple_with : ℕ → Option (List Character × List Character) → Found
triple_with quote None = None
triple_with quote (Some x) = Some (token kinds.TripleSegment x.0 (three quote (x.0 ++ three quote [])), x.1)

-- a triple segment after its first quote
abbrev pub triple_in : ℕ → Option (List Character) → Found
triple_in quote None = None
triple_in quote (Some cs) = triple_with quote (until_three quote cs)

unfoldable pub triple_at : ℕ → List Character → Found
triple_at quote cs = triple_in quote (behind_two quote cs)

-- the first of the two that is found
abbrev pub or_else : Found → Found → Found
or_else None more = more
or_else (Some x) more = Some x

-- a sign of two characters, or otherwise of one
abbrev pub signed : Option Sign → List Character → List Character → Found
signed None all rest = None
signed (Some s) all rest = Some (token (kinds.Sign s) all all, rest)

abbrev pub long_sign : Character → Option (Character × List Character) → Found
long_sign c None = None
long_sign c (Some x) = signed (sign_of (numbers_of (c ∷ x.0 ∷ []))) (c ∷ x.0 ∷ []) x.1

abbrev pub sign_at : Character → List Character → Found
sign_at c cs = or_else (long_sign c (first_of cs)) (signed (sign_of (numbers_of (c ∷ []))) (c ∷ []) cs)

-- the piece at the front, and what follows it
abbrev pub piece_by : ℕ → List Character → Found
piece_by c cs =
    if starts_ncname c then name_at (Ordinary c ∷ cs) else (
    if is_blank_character (Ordinary c) then Some (gap (Ordinary c ∷ []), cs) else (
    if c == 0x23 then Some (gap (Ordinary c ∷ front classes.Line cs), after classes.Line cs) else (
    if c == 0x5C then quoted_at cs else (
    if is_quote c then or_else (triple_at c cs) (segment_at c cs) else sign_at (Ordinary c) cs))))

abbrev pub piece_at : Option (Character × List Character) → Found
piece_at None = None
piece_at (Some (LineEnd, cs)) = Some (gap (LineEnd ∷ []), cs)
piece_at (Some (Ordinary c, cs)) = piece_by c cs

unfoldable pub piece_of : List Character → Found
piece_of cs = piece_at (first_of cs)
