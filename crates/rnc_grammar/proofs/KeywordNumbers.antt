-- The numbers of keywords among tokens, in order. They increase for the tokens of a file.
use Rattle.std.proofs.Common.{◌≡◌, ℕ, ◌+◌, ◌<◌, ◌≤◌, zero, suc, List, [], ◌∷◌, ◌++◌, slice_index, Option, Some, None, arith, add-one}
use Rattle.std.specs.List.Sorted.{IsStrictlyIncreasing}
use Rattle.rnc_model.specs.tokens.Cut.{Lexeme, keyword, identifier, cname, ns_name, segment, sign, lexeme_at, numbered, Token}
use Rattle.rnc_model.specs.declared.token.TokenKind.{TokenKind}
use Rattle.rnc_model.specs.declared.token.TokenKind.TheVariants as kinds

-- the number that a token has
abbrev pub number_of : Lexeme → Option ℕ
number_of (keyword k s) = Some s.number
number_of (identifier w) = None
number_of (cname p l) = None
number_of (ns_name p) = None
number_of (segment w) = None
number_of (sign s) = None

-- these are the numbers of some of the tokens, in order
pub data AreNumbersIn : List ℕ → List Lexeme → Type 0 where
  no_numbers : {ts : List Lexeme} → AreNumbersIn [] ts
  number_here : {n : ℕ} {ns : List ℕ} {x : Lexeme} {ts : List Lexeme} → number_of x ≡ Some n → AreNumbersIn ns ts → AreNumbersIn (n ∷ ns) (x ∷ ts)
  numbers_later : {ns : List ℕ} {x : Lexeme} {ts : List Lexeme} → AreNumbersIn ns ts → AreNumbersIn ns (x ∷ ts)

-- ---- concatenated tokens

-- after these tokens
pub numbers_after : {ns : List ℕ} {ts : List Lexeme} (front : List Lexeme) → AreNumbersIn ns ts → AreNumbersIn ns (front ++ ts)
numbers_after [] are = are
numbers_after (x ∷ front) are = numbers_later (numbers_after front are)

-- the numbers of both lists of tokens
pub numbers_of_both : {ns ms : List ℕ} {ts us : List Lexeme} → AreNumbersIn ns ts → AreNumbersIn ms us → AreNumbersIn (ns ++ ms) (ts ++ us)
numbers_of_both (no_numbers {ts}) more = numbers_after ts more
numbers_of_both (number_here is are) more = number_here is (numbers_of_both are more)
numbers_of_both (numbers_later are) more = numbers_later (numbers_of_both are more)

-- before these tokens
pub numbers_before : {ns : List ℕ} {ts : List Lexeme} (rest : List Lexeme) → AreNumbersIn ns ts → AreNumbersIn ns (ts ++ rest)
numbers_before rest no_numbers = no_numbers
numbers_before rest (number_here is are) = number_here is (numbers_before rest are)
numbers_before rest (numbers_later are) = numbers_later (numbers_before rest are)

-- ---- in order

-- each is at least this, and greater than the one before
abbrev AreFrom : ℕ → List ℕ → Type 0
AreFrom n [] = Unit {0}
AreFrom n (m ∷ ms) = (n ≤ m) × AreFrom (m + 1) ms

from_before : (n k : ℕ) (ms : List ℕ) → n ≤ k → AreFrom k ms → AreFrom n ms
from_before n k [] le from = tt
from_before n k (m ∷ ms) le from = let first : k ≤ m = from.0 in (omega arith, from.1)

number_at : (kind : TokenKind) (w : List ℕ) (n m : ℕ) → number_of (lexeme_at kind w n) ≡ Some m → n ≡ m
number_at kinds.Identifier w n m is = cc
number_at (kinds.Keyword k) w n m is = cc
number_at kinds.QuotedIdentifier w n m is = cc
number_at kinds.CName w n m is = cc
number_at kinds.NsName w n m is = cc
number_at kinds.Segment w n m is = cc
number_at kinds.TripleSegment w n m is = cc
number_at (kinds.Sign s) w n m is = cc

-- numbers of tokens that are numbered from n on
numbers_from : (ts : List Token) (n : ℕ) (ns : List ℕ) → AreNumbersIn ns (numbered n ts) → AreFrom n ns
numbers_from ts n [] are = tt
numbers_from [] n (m ∷ ms) are = elim are [ ]
numbers_from (t ∷ ts) n (m ∷ ms) (number_here is are) =
    let same : n ≡ m = number_at t.kind t.text n m is in
    (omega arith, from_before (m + 1) (n + 1) ms (omega arith) (numbers_from ts (n + 1) ms are))
numbers_from (t ∷ ts) n (m ∷ ms) (numbers_later are) = from_before n (n + 1) (m ∷ ms) (omega arith) (numbers_from ts (n + 1) (m ∷ ms) are)

increasing : (n : ℕ) (ns : List ℕ) → AreFrom n ns → IsStrictlyIncreasing ns
increasing n [] from k within = absurd (omega arith)
increasing n (m ∷ []) from k within = absurd (omega arith)
increasing n (m ∷ (l ∷ ls)) from zero within = let next : m + 1 ≤ l = from.1.0 in omega arith
increasing n (m ∷ (l ∷ ls)) from (suc k) within =
    let later : slice_index (l ∷ ls) k < slice_index (l ∷ ls) (k + 1) = increasing (m + 1) (l ∷ ls) from.1 k (omega arith) in
    rw (add-one (suc k)) (rw (add-one k) at later)

pub numbers_increase : (ts : List Token) (ns : List ℕ) → AreNumbersIn ns (numbered 1 ts) → IsStrictlyIncreasing ns
numbers_increase ts ns are = increasing 1 ns (numbers_from ts 1 ns are)
