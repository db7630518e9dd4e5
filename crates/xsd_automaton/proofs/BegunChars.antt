-- The characters that bytes of UTF-8 begin.
use Rattle.std.proofs.Common.{◌≡◌, ◌≤◌, ◌<◌, ◌+◌, ℕ, List, [], ◌∷◌, ◌++◌, true, length, take, get_or, refl, sym, ap, subst, inl, inr, arith}
use Rattle.std.proofs.lemmas.Bool.{and_parts, cases_lt}
use Rattle.std.proofs.lemmas.List.{take_more}
use Rattle.std.proofs.lemmas.Str.{chars_from_encodes, encode_ascii}
use Rattle.std.specs.Str.{IsUtf8, chars, all_scalars, encode_utf8_all}
use Rattle.std.specs.Char.{encode_utf8, IsScalar}
use Rattle.std.proofs.str.Laws.{Shape, of1, of2, of3, of4, shape}
use lib.Utf8.{scalar_cases}
use Rattle.xsd_automaton.specs.plain.BegunChars.{AreBegun, no_bytes, of_ascii, of_past, of_further}

pub nothing_begun : (cs : List ℕ) → AreBegun [] cs → cs ≡ []
nothing_begun _ no_bytes = refl

-- ---- texts

begun_append : (xs cs ys ds : List ℕ) → AreBegun xs cs → AreBegun ys ds → AreBegun (xs ++ ys) (cs ++ ds)
begun_append _ _ ys ds no_bytes more = more
begun_append _ _ ys ds (of_ascii {b} {bs} {cs} lt rest) more = of_ascii lt (begun_append bs cs ys ds rest more)
begun_append _ _ ys ds (of_past {b} {c} {bs} {cs} from past rest) more = of_past from past (begun_append bs cs ys ds rest more)
begun_append _ _ ys ds (of_further {b} {bs} {cs} from below rest) more = of_further from below (begun_append bs cs ys ds rest more)

module _ (c : ℕ) (past : 128 ≤ c) where
  by_shape : Shape c → AreBegun (encode_utf8 c) (c ∷ [])
  by_shape (of1 lt e) = absurd (omega (arith, lt, past))
  by_shape (of2 a b from below f s e) =
      subst (λ l. AreBegun l (c ∷ [])) (sym e) (of_past from past (of_further f.0 f.1 no_bytes))
  by_shape (of3 a b d from below f g s e) =
      subst (λ l. AreBegun l (c ∷ [])) (sym e) (of_past (omega (arith, from)) past (of_further f.0 f.1 (of_further g.0 g.1 no_bytes)))
  by_shape (of4 a b d x from below f g k s e) =
      subst (λ l. AreBegun l (c ∷ [])) (sym e)
      (of_past (omega (arith, from)) past (of_further f.0 f.1 (of_further g.0 g.1 (of_further k.0 k.1 no_bytes))))

-- its bytes begin a character
char_begun : (c : ℕ) → IsScalar c → AreBegun (encode_utf8 c) (c ∷ [])
char_begun c is =
    elim (cases_lt c 128) [
      | inl lt ↦ subst (λ l. AreBegun l (c ∷ [])) (sym (encode_ascii c lt)) (of_ascii lt no_bytes)
      | inr past ↦ by_shape c past (shape c (scalar_cases c is))
    ]

chars_begun : (cs : List ℕ) → all_scalars cs ≡ true → AreBegun (encode_utf8_all cs) cs
chars_begun [] e = no_bytes
chars_begun (c ∷ cs) e =
    let both = and_parts _ _ e in begun_append (encode_utf8 c) (c ∷ []) (encode_utf8_all cs) cs (char_begun c both.0) (chars_begun cs both.1)

pub text_begun : (text : List ℕ) → IsUtf8 text → AreBegun text (chars text)
text_begun text is =
    subst (λ cs. AreBegun text cs) (chars_from_encodes is.0 text is is.1.1)
    (subst (λ l. AreBegun l is.0) is.1.1 (chars_begun is.0 is.1.0))

-- ---- one more byte

pub record HasLast (xs : List ℕ) (b : ℕ) (es : List ℕ) : Type 0 where
  pub front : List ℕ
  pub last : List ℕ
  pub parts : es ≡ front ++ last
  pub begun : AreBegun xs front
  pub ends : AreBegun (b ∷ []) last

with_front : (xs : List ℕ) (a b c : ℕ) (es : List ℕ) → ((cs : List ℕ) → AreBegun xs cs → AreBegun (a ∷ xs) (c ∷ cs)) → HasLast xs b es
    → HasLast (a ∷ xs) b (c ∷ es)
with_front xs a b c es step h = record {
  front = c ∷ h.front;
  last = h.last;
  parts = ap (λ l. c ∷ l) h.parts;
  begun = step h.front h.begun;
  ends = h.ends;
}

last_begun : (xs : List ℕ) (b : ℕ) (es : List ℕ) → AreBegun (xs ++ b ∷ []) es → HasLast xs b es
last_begun [] b es h = record { front = []; last = es; parts = refl; begun = no_bytes; ends = h }
last_begun (a ∷ xs) b _ (of_ascii {cs} lt rest) = with_front xs a b a cs (λ ds h. of_ascii lt h) (last_begun xs b cs rest)
last_begun (a ∷ xs) b _ (of_past {c} {cs} from past rest) =
    with_front xs a b c cs (λ ds h. of_past from past h) (last_begun xs b cs rest)
last_begun (a ∷ xs) b es (of_further from below rest) =
    let h = last_begun xs b es rest in
    record { front = h.front; last = h.last; parts = h.parts; begun = of_further from below h.begun; ends = h.ends }

-- the first bytes of a text, and one more
pub begun_more : (bytes : List ℕ) (n : ℕ) (es : List ℕ) → n < length bytes → AreBegun (take (n + 1) bytes) es
    → HasLast (take n bytes) (get_or bytes n 0) es
begun_more bytes n es lt h =
    last_begun (take n bytes) (get_or bytes n 0) es (subst (λ l. AreBegun l es) (take_more bytes n 0 lt) h)
