-- How expressions are written, production by production (XML Schema Part 2, Second Edition, appendix F), as lists of
-- symbols. A repetition in a production is read from the left.
use Rattle.std.specs.Prelude.{codes, ℕ, ◌≡◌, ◌≤◌, List, [], ◌∷◌, ◌++◌, map, Bool, false, Option, Some, None, ◌==◌}
use Rattle.std.specs.List.{list_any}
use Rattle.std.specs.Str.Parse.{IsNumeral, digits_value}
use Rattle.rng_model.specs.regexes.Expressions.{Class, ranges, no_char, only_char, char_from_to, either_class, complement, minus}
use Rattle.rng_model.specs.regexes.Expressions.{Regex, nothing_more, one_of, both, either, times}
use Rattle.rng_model.specs.regexes.Symbols.{Symbol, char, escaped, class, AreSymbols}

-- characters that are written as themselves
abbrev pub chars_of : List ℕ → List Symbol
chars_of s = map char s

-- ---- quantifiers (productions 4 to 8)

-- the greatest count that may be written; the appendix has no greatest one
abbrev pub most_count : ℕ
most_count = 0xFFFFFFFF

-- QuantExact (production 8)
pub data IsCount : List Symbol → ℕ → Type 0 where
  count : {us : List Symbol} {n : ℕ} (ds : List ℕ) → IsNumeral 10 ds → us ≡ chars_of ds → n ≡ digits_value 10 ds → n ≤ most_count → IsCount us n

-- how often at least, and at most, if there is a limit
pub data IsQuantifier : List Symbol → ℕ → Option ℕ → Type 0 where
  optional : IsQuantifier (chars_of (codes "?")) 0 (Some 1)
  any_number : IsQuantifier (chars_of (codes "*")) 0 None
  one_or_more : IsQuantifier (chars_of (codes "+")) 1 None
  exactly : {us all : List Symbol} {n : ℕ} → IsCount us n → all ≡ char 0x7B ∷ (us ++ chars_of (codes "}")) → IsQuantifier all n (Some n)
  at_least : {us all : List Symbol} {n : ℕ} → IsCount us n → all ≡ char 0x7B ∷ (us ++ chars_of (codes ",}")) → IsQuantifier all n None
  between : {us vs all : List Symbol} {n m : ℕ} → IsCount us n → IsCount vs m → n ≤ m
      → all ≡ char 0x7B ∷ (us ++ (char 0x2C ∷ (vs ++ chars_of (codes "}")))) → IsQuantifier all n (Some m)

-- ---- classes of characters (productions 12 to 22)

-- one end of a range: XmlChar or SingleCharEsc (productions 20, 21 and 24)
pub data IsEnd : Symbol → ℕ → Type 0 where
  plain_end : {c : ℕ} → list_any (λ m. c == m) (codes "\\-[]") ≡ false → IsEnd (char c) c
  escaped_end : {c : ℕ} → IsEnd (escaped c) c

-- a range, a character that is not `-`, or an escape of a class (productions 17, 18 and 23)
pub data IsMember : List Symbol → Class → Type 0 where
  range : {u v : Symbol} {low high : ℕ} → IsEnd u low → IsEnd v high → low ≤ high → IsMember (u ∷ char 0x2D ∷ v ∷ []) (char_from_to low high)
  one_char : {u : Symbol} {c : ℕ} → IsEnd u c → IsMember (u ∷ []) (only_char c)
  class_escape : {k : Class} → IsMember (class k ∷ []) k

-- members one after the other, with a `-` before them or not
pub data AreMembers : List Symbol → Class → Type 0 where
  first_member : {us : List Symbol} {k : Class} → IsMember us k → AreMembers us (either_class no_char k)
  first_dash : AreMembers (chars_of (codes "-")) (either_class no_char (only_char 0x2D))
  member_and : {us vs all : List Symbol} {k l : Class} → AreMembers us k → IsMember vs l → all ≡ us ++ vs → AreMembers all (either_class k l)

-- posCharGroup (production 14). A `-` alone is a character of the group only at its beginning and at its end.
pub data IsPositive : List Symbol → Class → Type 0 where
  members : {us : List Symbol} {k : Class} → AreMembers us k → IsPositive us k
  last_dash : {us all : List Symbol} {k : Class} → AreMembers us k → all ≡ us ++ chars_of (codes "-") → IsPositive all (either_class k (only_char 0x2D))

-- the first symbol is `^`
abbrev pub begins_with_caret : List Symbol → Bool
begins_with_caret [] = false
begins_with_caret (char c ∷ us) = c == 0x5E
begins_with_caret (escaped c ∷ us) = false
begins_with_caret (class k ∷ us) = false

-- posCharGroup or negCharGroup (productions 14 and 15). A `^` begins a positive group only in a negative one.
pub data IsPlainGroup : List Symbol → Class → Type 0 where
  positive : {us : List Symbol} {k : Class} → IsPositive us k → begins_with_caret us ≡ false → IsPlainGroup us k
  negative : {us : List Symbol} {k : Class} → IsPositive us k → IsPlainGroup (char 0x5E ∷ us) (complement k)

mutual
  -- charGroup (productions 13 and 16)
  pub data IsGroup : List Symbol → Class → Type 0 where
    plain : {us : List Symbol} {k : Class} → IsPlainGroup us k → IsGroup us k
    without : {us vs all : List Symbol} {k l : Class} → IsPlainGroup us k → IsClassExpression vs l → all ≡ us ++ (char 0x2D ∷ vs) → IsGroup all (minus k l)

  -- charClassExpr (production 12)
  pub data IsClassExpression : List Symbol → Class → Type 0 where
    bracketed : {us all : List Symbol} {k : Class} → IsGroup us k → all ≡ char 0x5B ∷ (us ++ chars_of (codes "]")) → IsClassExpression all k

-- ---- expressions (productions 1 to 3, 9 to 11, and 37a)

-- the characters that have a meaning of their own, and so are no normal characters (production 10)
abbrev pub is_meta : ℕ → Bool
is_meta c = list_any (λ m. c == m) (codes ".\\?*+{}()|[]")

-- WildcardEsc (production 37a): any character but a line feed and a carriage return
abbrev pub wildcard : Class
wildcard = complement (ranges ((0xA, 0xA) ∷ (0xD, 0xD) ∷ []))

mutual
  -- regExp (production 1)
  pub data IsExpression : List Symbol → Regex → Type 0 where
    branch : {us : List Symbol} {a : Regex} → IsBranch us a → IsExpression us a
    or_branch : {us vs all : List Symbol} {a b : Regex} → IsExpression us a → IsBranch vs b → all ≡ us ++ (char 0x7C ∷ vs) → IsExpression all (either a b)

  -- branch (production 2)
  pub data IsBranch : List Symbol → Regex → Type 0 where
    no_piece : IsBranch [] nothing_more
    piece_and : {us vs all : List Symbol} {a b : Regex} → IsBranch us a → IsPiece vs b → all ≡ us ++ vs → IsBranch all (both a b)

  -- piece (production 3)
  pub data IsPiece : List Symbol → Regex → Type 0 where
    once : {us : List Symbol} {a : Regex} → IsAtom us a → IsPiece us a
    quantified : {us vs all : List Symbol} {a : Regex} {least : ℕ} {most : Option ℕ} → IsAtom us a → IsQuantifier vs least most → all ≡ us ++ vs
        → IsPiece all (times least most a)

  -- atom and charClass (productions 9 and 11)
  pub data IsAtom : List Symbol → Regex → Type 0 where
    normal : {c : ℕ} → is_meta c ≡ false → IsAtom (char c ∷ []) (one_of (only_char c))
    anything : IsAtom (chars_of (codes ".")) (one_of wildcard)
    single_escape : {c : ℕ} → IsAtom (escaped c ∷ []) (one_of (only_char c))
    class_escape : {k : Class} → IsAtom (class k ∷ []) (one_of k)
    class_group : {us : List Symbol} {k : Class} → IsClassExpression us k → IsAtom us (one_of k)
    grouped : {us all : List Symbol} {a : Regex} → IsExpression us a → all ≡ char 0x28 ∷ (us ++ chars_of (codes ")")) → IsAtom all a

-- the text is that expression
pub record IsRegex (text : List ℕ) (r : Regex) : Type 0 where
  pub symbols : List Symbol
  pub written : AreSymbols text symbols
  pub read : IsExpression symbols r
