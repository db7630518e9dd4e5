-- The characters of a schema file (RELAX NG Compact Syntax, "Lexical structure"): escapes and line ends.
use Rattle.std.proofs.Common.{◌≡◌, ℕ, List, [], ◌∷◌, ◌++◌, refl, sym, ap, arith, true, false, true≢false}
use Rattle.std.specs.List.{list_all}
use Rattle.std.specs.Char.{is_digit}
use Rattle.rnc_model.specs.declared.character.Character.{Character}
use Rattle.rnc_model.specs.declared.character.Character.TheVariants.{LineEnd, Ordinary}
use Rattle.rnc_model.specs.characters.Decoding.{Begins, carriage_return_line_feed, carriage_return, line_feed, escape, other, OpensEscape, AreDigits, Decodes}
use Rattle.rnc_model.specs.characters.Decoding.{here, next_is, IsDecoded, BreaksCharactersAt}

abbrev first_of : List ℕ → ℕ
first_of [] = 0
first_of (c ∷ cs) = c

-- `a\x{62}` and a CR LF
abbrev with_escape : List ℕ
with_escape = 97 ∷ 92 ∷ 120 ∷ 123 ∷ 54 ∷ 50 ∷ 125 ∷ 13 ∷ 10 ∷ []

-- what begins with another byte than a backslash opens no escape
no_escape : (c : ℕ) (cs : List ℕ) → ¬ (c ≡ 92) → ¬ (OpensEscape (c ∷ cs))
no_escape c cs differs o = differs (ap first_of o.is)

digits_62 : AreDigits (54 ∷ 50 ∷ [])
digits_62 = record { some = omega arith; most = omega arith; are_hexadecimal = refl }

-- they are an `a`, a `b` and one line end ("Lexical structure")
three_characters : IsDecoded with_escape (Ordinary 97 ∷ Ordinary 98 ∷ LineEnd ∷ [])
unfolding lib.Utf8.encode
three_characters = record {
  numbers = with_escape;
  spelling = record { scalars = refl; spelled = refl };
  decoded = next_is (other {rest = 92 ∷ 120 ∷ 123 ∷ 54 ∷ 50 ∷ 125 ∷ 13 ∷ 10 ∷ []} (λ e. omega (arith, e)) (λ e. omega (arith, e)) refl
      (no_escape 97 (92 ∷ 120 ∷ 123 ∷ 54 ∷ 50 ∷ 125 ∷ 13 ∷ 10 ∷ []) (λ e. omega (arith, e))) refl)
      (next_is (escape {rest = 13 ∷ 10 ∷ []} {digits = 54 ∷ 50 ∷ []} digits_62 refl refl refl)
      (next_is (carriage_return_line_feed {rest = []} refl) (here refl) refl) refl) refl;
}

-- `\x{A}`
abbrev escaped_line_feed : List ℕ
escaped_line_feed = 92 ∷ 120 ∷ 123 ∷ 65 ∷ 125 ∷ []

digit_A : AreDigits (65 ∷ [])
digit_A = record { some = omega arith; most = omega arith; are_hexadecimal = refl }

-- it is the character LF ("Lexical structure")
is_the_character : IsDecoded escaped_line_feed (Ordinary 10 ∷ [])
unfolding lib.Utf8.encode
is_the_character = record {
  numbers = escaped_line_feed;
  spelling = record { scalars = refl; spelled = refl };
  decoded = next_is (escape {rest = []} {digits = 65 ∷ []} digit_A refl refl refl) (here refl) refl;
}

-- it is no line end (docs/use/LANGUAGE.md, "Characters")
begins_no_line_end : (c : Character) (after : List ℕ) → Begins escaped_line_feed c after → ¬ (c ≡ LineEnd)
begins_no_line_end c after (carriage_return_line_feed e) same =
    let heads : ◌≡◌ {A = ℕ} 92 13 = ap first_of e in
    omega (arith, heads)
begins_no_line_end c after (carriage_return e n) same =
    let heads : ◌≡◌ {A = ℕ} 92 13 = ap first_of e in
    omega (arith, heads)
begins_no_line_end c after (line_feed e) same =
    let heads : ◌≡◌ {A = ℕ} 92 10 = ap first_of e in
    omega (arith, heads)
begins_no_line_end c after (escape d k x e) same = cc
begins_no_line_end c after (other m n x o e) same = cc

is_no_line_end : (rest : List ℕ) → ¬ (Decodes escaped_line_feed (LineEnd ∷ []) rest)
is_no_line_end rest (next_is {c = c} {after = after} b more e) =
    let same : c ≡ LineEnd = cc in
    begins_no_line_end c after b same

-- `\x{}`
abbrev without_digits : List ℕ
without_digits = 92 ∷ 120 ∷ 123 ∷ 125 ∷ []

no_digits : (digits rest : List ℕ) → AreDigits digits → ¬ (without_digits ≡ 92 ∷ 120 ∷ 123 ∷ (digits ++ 125 ∷ rest))
no_digits [] rest d e = let n = d.some in omega (arith, n)
no_digits (c ∷ cs) rest d e =
    let head : ◌≡◌ {A = ℕ} 125 c = ap (λ l. first_of (fourth l)) e in
    true≢false (sym (not_hexadecimal c cs (sym head) d.are_hexadecimal)) where
      fourth : List ℕ → List ℕ
      fourth (a ∷ b ∷ c ∷ cs) = cs
      fourth cs = cs

      not_hexadecimal : (c : ℕ) (cs : List ℕ) → c ≡ 125 → list_all (λ c. is_digit c 16) (c ∷ cs) ≡ true → false ≡ true
      not_hexadecimal c cs e h = rw e at h

-- no character begins at it, so it breaks S4 (docs/use/LANGUAGE.md, "Characters")
bad_escape : BreaksCharactersAt without_digits 0
unfolding lib.Utf8.encode
bad_escape = record {
  numbers = without_digits;
  spelling = record { scalars = refl; spelled = refl };
  front = [];
  rest = without_digits;
  decoded = here refl;
  some = omega arith;
  nothing = nothing_begins;
  offset_is = refl;
} where
  nothing_begins : (c : Character) (after : List ℕ) → ¬ (Begins without_digits c after)
  nothing_begins c after (carriage_return_line_feed e) =
      let heads : ◌≡◌ {A = ℕ} 92 13 = ap first_of e in
      omega (arith, heads)
  nothing_begins c after (carriage_return e n) =
      let heads : ◌≡◌ {A = ℕ} 92 13 = ap first_of e in
      omega (arith, heads)
  nothing_begins c after (line_feed e) =
      let heads : ◌≡◌ {A = ℕ} 92 10 = ap first_of e in
      omega (arith, heads)
  nothing_begins c after (escape {rest = rest} {digits = digits} d k x e) = no_digits digits rest d e
  nothing_begins c after (other m n x o e) = o (record { more = []; rest = 125 ∷ []; are_x = refl; is = refl })
