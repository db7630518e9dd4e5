-- Combinators of readers, which take tokens from left to right.
use Rattle.std.specs.Prelude.{[], zero, suc, ◌++◌, ℕ, Bool, true, false, List, ◌∷◌, length, Option, Some, None, Result, Ok, Err, if◌then◌else◌}
use Rattle.rnc_model.specs.declared.token.Keyword.{Keyword}
use Rattle.rnc_model.specs.declared.token.Keyword.TheVariants as keywords
use Rattle.rnc_model.specs.declared.token.Sign.{Sign}
use Rattle.rnc_model.specs.declared.token.Sign.TheVariants.{Equal, BarEqual, AndEqual, Comma, Bar, And, Question, Star, Plus, Minus, OpenBrace, CloseBrace}
use Rattle.rnc_model.specs.declared.token.Sign.TheVariants.{OpenParenthesis, CloseParenthesis, OpenBracket, CloseBracket, Tilde}
use Rattle.rnc_syntax.specs.declared.fault.Stop.{Stop}
use Rattle.rnc_syntax.specs.declared.fault.Stop.TheVariants.{Unexpected}
use Rattle.rnc_model.specs.tokens.Cut.{Lexeme, keyword, identifier, segment, sign}

-- what a reader returns: a value and the tokens after it, or why it stopped
abbrev pub Outcome : Type 0 → Type 0
Outcome A = Result (A × List Lexeme) Stop

infixl 10 ◌>>=◌
-- one step, and then the next with its value
abbrev pub ◌>>=◌ : {A B : Type 0} → Result A Stop → (A → Result B Stop) → Result B Stop
(Ok x) >>= f = f x
(Err e) >>= f = Err e

-- no production allows the first of these tokens here, or their end
abbrev pub unexpected : {A : Type 0} → List Lexeme → Result A Stop
unexpected ts = Err (Unexpected (length ts))

-- whether two signs are equal
abbrev pub same_sign : Sign → Sign → Bool
same_sign Equal Equal = true
same_sign BarEqual BarEqual = true
same_sign AndEqual AndEqual = true
same_sign Comma Comma = true
same_sign Bar Bar = true
same_sign And And = true
same_sign Question Question = true
same_sign Star Star = true
same_sign Plus Plus = true
same_sign Minus Minus = true
same_sign OpenBrace OpenBrace = true
same_sign CloseBrace CloseBrace = true
same_sign OpenParenthesis OpenParenthesis = true
same_sign CloseParenthesis CloseParenthesis = true
same_sign OpenBracket OpenBracket = true
same_sign CloseBracket CloseBracket = true
same_sign Tilde Tilde = true
same_sign _ _ = false

-- the tokens after this sign, if it is first
abbrev pub follow : Sign → List Lexeme → Option (List Lexeme)
follow s (sign r ∷ ts) = if same_sign r s then Some ts else None
follow s _ = None

-- this sign, which must be first
abbrev pub sign_read : List Lexeme → Option (List Lexeme) → Outcome (Unit {0})
sign_read ts None = unexpected ts
sign_read ts (Some us) = Ok (tt, us)

unfoldable pub after : Sign → List Lexeme → Outcome (Unit {0})
after s ts = sign_read ts (follow s ts)

-- a word
unfoldable pub word_at : List Lexeme → Outcome (List ℕ)
word_at (identifier w ∷ ts) = Ok (w, ts)
word_at (keyword k s ∷ ts) = Ok (s.text, ts)
word_at ts = unexpected ts

-- an identifier
unfoldable pub identifier_at : List Lexeme → Outcome (List ℕ)
identifier_at (identifier w ∷ ts) = Ok (w, ts)
identifier_at ts = unexpected ts

-- a segment
unfoldable pub segment_at : List Lexeme → Outcome (List ℕ)
segment_at (segment w ∷ ts) = Ok (w, ts)
segment_at ts = unexpected ts

-- the value if there is none, or the function of the one that there is
abbrev pub either_way : {A B : Type 0} → Option A → B → (A → B) → B
either_way None b f = b
either_way (Some a) b f = f a

-- items one after another, at most k of them, as long as the next one begins
unfoldable pub many_with : {A : Type 0} → (List Lexeme → Option (List Lexeme)) → (List Lexeme → Outcome A) → ℕ → List Lexeme → Outcome (List A)
many_with next item zero ts = Ok ([], ts)
many_with next item (suc k) ts = either_way (next ts) (Ok ([], ts)) (λ us. item us >>= λ x. many_with next item k x.1 >>= λ rest. Ok (x.0 ∷ rest.0, rest.1))

-- items one after another, as long as the next one begins
abbrev pub many : {A : Type 0} → (List Lexeme → Option (List Lexeme)) → (List Lexeme → Outcome A) → List Lexeme → Outcome (List A)
many next item ts = many_with next item (length ts) ts

-- what was read before, followed by what is read next
abbrev pub with_front : {A : Type 0} → List A → Outcome (List A) → Outcome (List A)
with_front front read = read >>= λ x. Ok (front ++ x.0, x.1)

-- whether two keywords are equal
abbrev pub same_keyword : Keyword → Keyword → Bool
same_keyword keywords.Attribute keywords.Attribute = true
same_keyword keywords.Default keywords.Default = true
same_keyword keywords.Datatypes keywords.Datatypes = true
same_keyword keywords.Div keywords.Div = true
same_keyword keywords.Element keywords.Element = true
same_keyword keywords.Empty keywords.Empty = true
same_keyword keywords.External keywords.External = true
same_keyword keywords.Grammar keywords.Grammar = true
same_keyword keywords.Include keywords.Include = true
same_keyword keywords.Inherit keywords.Inherit = true
same_keyword keywords.List keywords.List = true
same_keyword keywords.Mixed keywords.Mixed = true
same_keyword keywords.Namespace keywords.Namespace = true
same_keyword keywords.NotAllowed keywords.NotAllowed = true
same_keyword keywords.Parent keywords.Parent = true
same_keyword keywords.Start keywords.Start = true
same_keyword keywords.String keywords.String = true
same_keyword keywords.Text keywords.Text = true
same_keyword keywords.Token keywords.Token = true
same_keyword _ _ = false

-- the tokens after this keyword, if it is first
abbrev pub follow_keyword : Keyword → List Lexeme → Option (List Lexeme)
follow_keyword k (keyword j s ∷ ts) = if same_keyword j k then Some ts else None
follow_keyword k _ = None

-- this keyword, which must be first
unfoldable pub after_keyword : Keyword → List Lexeme → Outcome (Unit {0})
after_keyword k ts = sign_read ts (follow_keyword k ts)
