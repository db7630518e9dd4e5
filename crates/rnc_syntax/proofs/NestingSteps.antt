-- Brackets counted token by token.
use mir.Val.{bool_byte}
use Rattle.std.proofs.Common.{◌≡◌, ◌∙◌, ℕ, zero, suc, ◌+◌, ◌≤◌, ◌<◌, ◌-◌, cond, Bool, true, false, List, [], ◌∷◌, length, take, drop, get_or, arith, refl, sym}
use Rattle.std.proofs.Common.{ap, subst, add-one}
use Rattle.std.proofs.Math.Seq.{drop-cons}
use Rattle.rnc_model.specs.declared.token.Token.{Token}
use Rattle.rnc_model.specs.declared.token.TokenKind.{TokenKind}
use Rattle.rnc_model.specs.declared.token.TokenKind.TheVariants as kinds
use Rattle.rnc_model.specs.tokens.Cut.{Lexeme, lexeme_at}
use Rattle.rnc_syntax.specs.plain.Reading.{lexemes_in}
use Rattle.rnc_model.specs.grammar.Sentence.{is_opening, is_closing, openings, closings, nesting_limit, NestsWithin, BreaksNesting}
use Rattle.rnc_syntax.proofs.Balance.{counts, discounts, openings-cons, closings-cons}

-- these tokens keep the limit, after o opening brackets and c closing ones
abbrev pub Within : ℕ → ℕ → List Lexeme → Type 0
Within opened closed ts = (k : ℕ) → opened + openings (take k ts) ≤ closed + closings (take k ts) + nesting_limit

-- these tokens break the limit, after o opening brackets and c closing ones
abbrev pub Exceeds : ℕ → ℕ → List Lexeme → Type 0
Exceeds opened closed ts = (k : ℕ) × (closed + closings (take k ts) + nesting_limit < opened + openings (take k ts))

pub began : (ts : List Lexeme) → Within 0 0 ts → NestsWithin nesting_limit ts
began ts h k = omega (arith, h k)

pub broken : (ts : List Lexeme) → Exceeds 0 0 ts → BreaksNesting ts
broken ts h = (h.0, omega (arith, h.1))

went_on : (o c : ℕ) (x : Lexeme) (ts : List Lexeme) → o ≤ c + nesting_limit → Within (o + counts x) (c + discounts x) ts → Within o c (x ∷ ts)
went_on o c x ts small h zero = let q : o + 0 ≤ c + 0 + nesting_limit = omega (arith, small) in q
went_on o c x ts small h (suc k) = let q : o + openings (x ∷ take k ts) ≤ c + closings (x ∷ take k ts) + nesting_limit =
    omega (arith, h k, openings-cons x (take k ts), closings-cons x (take k ts)) in q

broke : (o c : ℕ) (x : Lexeme) (ts : List Lexeme) → Exceeds (o + counts x) (c + discounts x) ts → Exceeds o c (x ∷ ts)
broke o c x ts h =
    let q : c + closings (x ∷ take h.0 ts) + nesting_limit < o + openings (x ∷ take h.0 ts) =
    omega (arith, h.1, openings-cons x (take h.0 ts), closings-cons x (take h.0 ts)) in
    (suc h.0, q)

pub ends : (o c : ℕ) → o ≤ c + nesting_limit → Within o c []
ends o c small zero = let q : o + 0 ≤ c + 0 + nesting_limit = omega (arith, small) in q
ends o c small (suc k) = let q : o + 0 ≤ c + 0 + nesting_limit = omega (arith, small) in q

pub exceeds_now : (o c : ℕ) (ts : List Lexeme) → c + nesting_limit < o → Exceeds o c ts
exceeds_now o c ts large = let q : c + 0 + nesting_limit < o + 0 = omega (arith, large) in (zero, q)

-- after these opening and closing brackets, the first `count` tokens exceed the limit, and no fewer do
pub record IsFirst (opened closed : ℕ) (ts : List Lexeme) (count : ℕ) : Type 0 where
  pub exceeds : closed + closings (take count ts) + nesting_limit < opened + openings (take count ts)
  pub first : (k : ℕ) → k < count → opened + openings (take k ts) ≤ closed + closings (take k ts) + nesting_limit

first_behind : (o c : ℕ) (x : Lexeme) (ts : List Lexeme) (count : ℕ) → o ≤ c + nesting_limit → IsFirst (o + counts x) (c + discounts x) ts count
    → IsFirst o c (x ∷ ts) (suc count)
first_behind o c x ts count small h =
    let e : c + closings (x ∷ take count ts) + nesting_limit < o + openings (x ∷ take count ts) =
    omega (arith, h.exceeds, openings-cons x (take count ts), closings-cons x (take count ts)) in
    record { exceeds = e; first = first }
  where
    first : (k : ℕ) → k < suc count → o + openings (take k (x ∷ ts)) ≤ c + closings (take k (x ∷ ts)) + nesting_limit
    first zero less = let q : o + 0 ≤ c + 0 + nesting_limit = omega (arith, small) in q
    first (suc k) less =
        let q : o + openings (x ∷ take k ts) ≤ c + closings (x ∷ take k ts) + nesting_limit =
        omega (arith, h.first k (omega (arith, less)), openings-cons x (take k ts), closings-cons x (take k ts)) in q

-- whether a token opens or closes a bracket depends only on its kind
opens_alike : (k : TokenKind) (w : List ℕ) (n : ℕ) → is_opening (lexeme_at k w n) ≡ is_opening (lexeme_at k [] 0)
opens_alike kinds.Identifier w n = refl
opens_alike (kinds.Keyword k) w n = refl
opens_alike kinds.QuotedIdentifier w n = refl
opens_alike kinds.CName w n = refl
opens_alike kinds.NsName w n = refl
opens_alike kinds.Segment w n = refl
opens_alike kinds.TripleSegment w n = refl
opens_alike (kinds.Sign s) w n = refl

closes_alike : (k : TokenKind) (w : List ℕ) (n : ℕ) → is_closing (lexeme_at k w n) ≡ is_closing (lexeme_at k [] 0)
closes_alike kinds.Identifier w n = refl
closes_alike (kinds.Keyword k) w n = refl
closes_alike kinds.QuotedIdentifier w n = refl
closes_alike kinds.CName w n = refl
closes_alike kinds.NsName w n = refl
closes_alike kinds.Segment w n = refl
closes_alike kinds.TripleSegment w n = refl
closes_alike (kinds.Sign s) w n = refl

weighs : (b : Bool) → bool_byte b ≡ cond b 1 0
weighs true = refl
weighs false = refl

abbrev weight : Bool → ℕ
weight b = cond b 1 0

opening_weighs : (b : Bool) (k : TokenKind) (w : List ℕ) (n : ℕ) → b ≡ is_opening (lexeme_at k [] 0) → bool_byte b ≡ counts (lexeme_at k w n)
opening_weighs b k w n e = weighs b ∙ ap weight (e ∙ sym (opens_alike k w n))

closing_weighs : (b : Bool) (k : TokenKind) (w : List ℕ) (n : ℕ) → b ≡ is_closing (lexeme_at k [] 0) → bool_byte b ≡ discounts (lexeme_at k w n)
closing_weighs b k w n e = weighs b ∙ ap weight (e ∙ sym (closes_alike k w n))

weighs_one : (b : Bool) → bool_byte b ≤ 1
weighs_one true = omega arith
weighs_one false = omega arith

-- there are no more brackets than tokens
pub stays_few : (b : Bool) (o i m : ℕ) → m ≡ bool_byte b → o ≤ i → o + m ≤ i + 1
stays_few b o i m e few = let one = weighs_one b in omega (arith, e, few, one)

-- a token at its index, the opening and closing brackets before it, and what the token adds to each
module _ (ts : List Token) (i : ℕ) (d : Token) (inside : i < length ts) (o c : ℕ) (opens closes : Bool) (m n : ℕ)
    (e : opens ≡ is_opening (lexeme_at (get_or ts i d).kind [] 0)) (f : closes ≡ is_closing (lexeme_at (get_or ts i d).kind [] 0)) (g : m ≡ bool_byte opens)
    (h : n ≡ bool_byte closes) where
  abbrev rest : List Lexeme
  rest = lexemes_in (length ts) (drop (i + 1) ts)

  abbrev here : Lexeme
  here = lexeme_at (get_or ts i d).kind (get_or ts i d).text.now (length ts - length (drop (i + 1) ts))

  rest_is : lexemes_in (length ts) (drop i ts) ≡ here ∷ rest
  rest_is = rw add-one (ap (lexemes_in (length ts)) (drop-cons ts i d inside))

  opened_is : m ≡ counts here
  opened_is = g ∙ opening_weighs opens (get_or ts i d).kind (get_or ts i d).text.now (length ts - length (drop (i + 1) ts)) e

  closed_is : n ≡ discounts here
  closed_is = h ∙ closing_weighs closes (get_or ts i d).kind (get_or ts i d).text.now (length ts - length (drop (i + 1) ts)) f

  pub keeps_back : o ≤ c + nesting_limit → Within (o + m) (c + n) rest → Within o c (lexemes_in (length ts) (drop i ts))
  keeps_back small w = subst (Within o c) (sym rest_is) (went_on o c here rest small (λ k. omega (arith, w k, opened_is, closed_is)))

  pub breaks_back : Exceeds (o + m) (c + n) rest → Exceeds o c (lexemes_in (length ts) (drop i ts))
  breaks_back w = subst (Exceeds o c) (sym rest_is) (broke o c here rest (w.0, omega (arith, w.1, opened_is, closed_is)))

  pub first_back : (k : ℕ) → o ≤ c + nesting_limit → IsFirst (o + m) (c + n) rest k → IsFirst o c (lexemes_in (length ts) (drop i ts)) (suc k)
  first_back k small w = subst (λ (x : List Lexeme). IsFirst o c x (suc k)) (sym rest_is) (first_behind o c here rest k small
      (record { exceeds = omega (arith, w.exceeds, opened_is, closed_is); first = λ j less. omega (arith, w.first j less, opened_is, closed_is) }))

  pub first_here : o ≤ c + nesting_limit → c + n + nesting_limit < o + m → IsFirst o c (lexemes_in (length ts) (drop i ts)) 1
  first_here small large = subst (λ (x : List Lexeme). IsFirst o c x 1) (sym rest_is) (first_behind o c here rest 0 small
      (let q : c + discounts here + 0 + nesting_limit < o + counts here + 0 = omega (arith, large, opened_is, closed_is) in
      record { exceeds = q; first = λ j less. absurd (omega (arith, less)) }))
