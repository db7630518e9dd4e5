-- The tokens read before reading stops can be completed: words, literals, parameters, and what mentions inherit.
use Rattle.std.proofs.Common.{◌≡◌, ℕ, List, [], ◌∷◌, ◌++◌, Option, Some, None, Ok, Err, refl, sym, ap, subst, ◌∙◌}
use Rattle.rnc_model.specs.declared.token.Keyword.TheVariants as keywords
use Rattle.rnc_model.specs.declared.token.Sign.TheVariants.{Equal, OpenBrace, CloseBrace, Tilde}
use Rattle.rnc_syntax.specs.declared.fault.Stop.TheVariants.{Unexpected}
use Rattle.rnc_model.specs.tokens.Cut.{Lexeme, Spelling, keyword, identifier, segment, sign}
use Rattle.rnc_model.specs.grammar.NameClasses as grammar
use Rattle.rnc_model.specs.grammar.NameClasses.{IsLiteral, MayBeParameters, MayInherit}
use Rattle.rnc_syntax.specs.plain.Combinators.{Outcome, ◌>>=◌, follow, follow_keyword, after, word_at, identifier_at, segment_at, either_way, many}
use Rattle.rnc_syntax.specs.plain.Productions.{literal_at, parameter_at, parameter_front, annotated_parameter_at, in_braces_at, parameters_at, word_after_equal}
use Rattle.rnc_syntax.specs.plain.Productions.{inherit_at, mention_at}
use Rattle.rnc_model.specs.grammar.SyntaxTrees.{joined_text}
use Rattle.rnc_syntax.proofs.Soundness.{same_inherit, keyword_follows, IsWord, word_sound, IsSegment, segment_sound, Closed, Preceded, Each, many_sound}
use Rattle.rnc_syntax.proofs.Soundness.{preceded_sound, Behind, bracketed, IsSetting}
use Rattle.rnc_syntax.proofs.Soundness.Literals.{literal_is, literal_sound, IsParameter, parameter_is, parameters_are, parameter_front_is, parameter_item}
use Rattle.rnc_syntax.proofs.Soundness.Literals.{IsMention}
use Rattle.rnc_syntax.proofs.Viability.{Begins, Viable, IsViable, Completes, Behinds, exactly, nothing_taken, moved, behind_token, completed, made_viable}
use Rattle.rnc_syntax.proofs.Viability.{then_viable, both_viable, left_is, in_braces_viable, open_viable, preceded_item, many_viable}
use Rattle.rnc_syntax.proofs.Viability.Annotations.{annotated_viable, bare_begins, bare_viable}

-- ---- single tokens

word_some : Begins IsWord []
word_some = record { behind = identifier [] ∷ []; value = []; is = record { token = identifier []; word = refl; parts = refl } }

word_viable : IsViable word_at IsWord
unfolding word_at
word_viable (identifier w ∷ ts) left e = absurd cc
word_viable (keyword k s ∷ ts) left e = absurd cc
word_viable ts left e = nothing_taken IsWord ts left (left_is ts left e) word_some

abbrev pub IsIdentifier : List Lexeme → List ℕ → Type 0
IsIdentifier ts n = ts ≡ identifier n ∷ []

pub identifier_viable : IsViable identifier_at IsIdentifier
unfolding identifier_at
identifier_viable (identifier w ∷ ts) left e = absurd cc
identifier_viable ts left e = nothing_taken IsIdentifier ts left (left_is ts left e) (record { behind = identifier [] ∷ []; value = []; is = refl })

segment_viable : IsViable segment_at IsSegment
unfolding segment_at
segment_viable (segment w ∷ ts) left e = absurd cc
segment_viable ts left e = nothing_taken IsSegment ts left (left_is ts left e) (record { behind = segment [] ∷ []; value = []; is = refl })

-- ---- literals

segments_viable : IsViable (many (follow Tilde) segment_at) (Each (Preceded IsSegment Tilde))
segments_viable = many_viable (Preceded IsSegment Tilde) (follow Tilde) segment_at (preceded_sound IsSegment Tilde segment_at segment_sound)
    (preceded_item IsSegment Tilde segment_at segment_viable)

pub literal_some : Begins IsLiteral []
literal_some = record { behind = segment [] ∷ []; value = []; is = grammar.one_segment refl }

segments_begin : (front : List Lexeme) (w : List ℕ) → IsSegment front w → Completes (Each (Preceded IsSegment Tilde)) (Behinds front IsLiteral)
segments_begin front w p ts ws q = exactly (Behinds front IsLiteral) ts (joined_text (w ∷ ws))
    (subst (λ (r : List Lexeme). IsLiteral (r ++ ts) (joined_text (w ∷ ws))) (sym p) (literal_is w q))

pub literal_viable : IsViable literal_at IsLiteral
unfolding literal_at
literal_viable =
    then_viable IsSegment IsLiteral segment_at (λ first. many (follow Tilde) segment_at first.1 >>= λ others. Ok (joined_text (first.0 ∷ others.0), others.1))
    segment_sound segment_viable (λ ts w p. exactly IsLiteral ts w (grammar.one_segment p))
    (λ front x left p e. made_viable (Each (Preceded IsSegment Tilde)) (Behinds front IsLiteral) (many (follow Tilde) segment_at)
    (λ others. joined_text (x.0 ∷ others)) segments_viable (segments_begin front x.0 p) x.1 left e)

-- ---- a word, `=` and a value

module _ {A : Type 0} (P : List Lexeme → A → Type 0) (read : List Lexeme → Outcome A) (viable : IsViable read P) (some : Begins P []) where
  -- the value, with what is known before
  abbrev IsBeside : List Lexeme → List ℕ × A → Type 0
  IsBeside ts x = P ts x.1

  beside_viable : (w : List ℕ) → IsViable {A = List ℕ × A} (λ us. read us >>= λ value. Ok ((w, value.0), value.1)) IsBeside
  beside_viable w = made_viable P IsBeside read (λ value. (w, value)) viable (λ ts a p. exactly IsBeside ts (w, a) p)

  equal_begins : (front : List Lexeme) (w : List ℕ) → IsWord front w → Completes (Preceded IsBeside Equal) (Behinds front (IsSetting P))
  equal_begins front w p ts x q =
      exactly (Behinds front (IsSetting P)) ts (w, x.1)
      (record {
        token = p.token;
        word = p.word;
        value = q.rest;
        is = q.is;
        parts = ap (λ (r : List Lexeme). r ++ ts) p.parts
            ∙ ap (λ (r : List Lexeme). p.token ∷ r) q.parts;
      })

  word_begins : Completes IsWord (IsSetting P)
  word_begins ts w p = record {
    behind = sign Equal ∷ some.behind;
    value = (w, some.value);
    is = record {
      token = p.token;
      word = p.word;
      value = some.behind;
      is = some.is;
      parts = ap (λ (r : List Lexeme). r ++ sign Equal ∷ some.behind) p.parts;
    };
  }

  pub setting_viable : IsViable {A = List ℕ × A} (λ ts. word_at ts >>= λ name. after Equal name.1 >>= λ equal. read equal.1
      >>= λ value. Ok ((name.0, value.0), value.1)) (IsSetting P)
  setting_viable =
      then_viable IsWord (IsSetting P) word_at (λ name. after Equal name.1 >>= λ equal. read equal.1 >>= λ value. Ok ((name.0, value.0), value.1)) word_sound
      word_viable word_begins
      (λ front x left p e. completed (Preceded IsBeside Equal) (Behinds front (IsSetting P)) x.1 left (equal_begins front x.0 p)
      (open_viable IsBeside Equal (λ us. read us >>= λ value. Ok ((x.0, value.0), value.1)) (beside_viable x.0)
      (record { behind = some.behind; value = (x.0, some.value); is = some.is }) x.1 left e))

-- ---- parameters

pub parameter_viable : IsViable parameter_at (IsSetting IsLiteral)
unfolding parameter_at
parameter_viable = setting_viable IsLiteral literal_at literal_viable literal_some

setting_some : Begins (IsSetting IsLiteral) []
setting_some = record {
  behind = identifier [] ∷ sign Equal ∷ literal_some.behind;
  value = ([], literal_some.value);
  is = record { token = identifier []; word = refl; value = literal_some.behind; is = literal_some.is; parts = refl };
}

annotated_parameter_viable : IsViable annotated_parameter_at IsParameter
unfolding annotated_parameter_at
annotated_parameter_viable =
    annotated_viable IsParameter parameter_at (bare_begins IsParameter (IsSetting IsLiteral) parameter_is setting_some)
    (bare_viable IsParameter (IsSetting IsLiteral) parameter_is parameter_at parameter_viable)

parameter_stuck : (ts us : List Lexeme) (left : ℕ) → parameter_front ts ≡ Some us → annotated_parameter_at us ≡ Err (Unexpected left)
    → Viable IsParameter ts left
parameter_stuck ts us left is e = annotated_parameter_viable ts left (ap annotated_parameter_at (parameter_front_is ts us is) ∙ e)

abbrev AreSettings : List Lexeme → List (List ℕ × List ℕ) → Type 0
AreSettings = Each IsParameter

-- parameters in braces
braces_viable : IsViable (in_braces_at (many parameter_front annotated_parameter_at)) (Closed AreSettings CloseBrace)
braces_viable =
    in_braces_viable AreSettings (many parameter_front annotated_parameter_at) (many_sound IsParameter parameter_front annotated_parameter_at parameter_item)
    (many_viable IsParameter parameter_front annotated_parameter_at parameter_item parameter_stuck)

braces_begin : Completes (Preceded (Closed AreSettings CloseBrace) OpenBrace) MayBeParameters
braces_begin ts ps p =
    let q = bracketed AreSettings OpenBrace CloseBrace ts ps p in
    exactly MayBeParameters ts ps (grammar.with_parameters (parameters_are q.is) q.parts)

parameters_step : (ts : List Lexeme) (left : ℕ) (o : Option (List Lexeme)) → follow OpenBrace ts ≡ o → either_way {B = Outcome (List (List ℕ × List ℕ))} o
    (Ok ([], ts)) (in_braces_at (many parameter_front annotated_parameter_at)) ≡ Err (Unexpected left) → Viable MayBeParameters ts left
parameters_step ts left None is e = absurd cc
parameters_step ts left (Some us) is e =
    completed (Preceded (Closed AreSettings CloseBrace) OpenBrace) MayBeParameters ts left braces_begin
    (preceded_item (Closed AreSettings CloseBrace) OpenBrace (in_braces_at (many parameter_front annotated_parameter_at)) braces_viable ts us left is e)

pub parameters_viable : IsViable parameters_at MayBeParameters
unfolding parameters_at
parameters_viable ts left e = parameters_step ts left (follow OpenBrace ts) refl e

-- ---- what mentions inherit

-- a word that is inherited
record IsHandedOn (ts : List Lexeme) (o : Option (List ℕ)) : Type 0 where
  pub word : List ℕ
  pub is : IsWord ts word

word_after_viable : IsViable word_after_equal (Preceded IsHandedOn Equal)
unfolding word_after_equal
word_after_viable =
    open_viable IsHandedOn Equal (λ us. word_at us >>= λ word. Ok (Some word.0, word.1)) (made_viable IsWord IsHandedOn word_at (λ w. Some w) word_viable
    (λ ts w p. exactly IsHandedOn ts (Some w) (record { word = w; is = p })))
    (record { behind = word_some.behind; value = None; is = record { word = word_some.value; is = word_some.is } })

handed_on : (s : Spelling) → Completes (Preceded IsHandedOn Equal) (Behind (keyword keywords.Inherit s) MayInherit)
handed_on s ts o p =
    exactly (Behind (keyword keywords.Inherit s) MayInherit) ts (Some p.is.word)
    (grammar.with_inherit p.is.is.word (ap (λ (r : List Lexeme). keyword keywords.Inherit s ∷ r)
    (p.parts ∙ ap (λ (r : List Lexeme). sign Equal ∷ r) p.is.is.parts)))

inherit_step : (ts : List Lexeme) (left : ℕ) (o : Option (List Lexeme)) → follow_keyword keywords.Inherit ts ≡ o → either_way {B = Outcome (Option (List ℕ))} o
    (Ok (None, ts)) word_after_equal ≡ Err (Unexpected left) → Viable MayInherit ts left
inherit_step ts left None is e = absurd cc
inherit_step ts left (Some us) is e =
    let k = keyword_follows keywords.Inherit same_inherit ts us is in
    let t = keyword keywords.Inherit k.0 in
    moved MayInherit ts (t ∷ us) left k.1 (behind_token MayInherit t us left (completed (Preceded IsHandedOn Equal) (Behind t MayInherit) us left
    (handed_on k.0) (word_after_viable us left e)))

inherit_viable : IsViable inherit_at MayInherit
unfolding inherit_at
inherit_viable ts left e = inherit_step ts left (follow_keyword keywords.Inherit ts) refl e

pub mention_viable : (number : ℕ) → IsViable (mention_at number) (IsMention number)
unfolding mention_at
mention_viable number =
    both_viable IsLiteral MayInherit (IsMention number) (λ href prefix. record { href = href; inherit = prefix; token = number }) literal_at inherit_at
    literal_sound literal_viable inherit_viable
    (record { behind = []; value = None; is = grammar.without_inherit refl })
    (λ first second a b p q. record { first = first; second = second; literal = p; inherits = q; standing = refl; parts = refl })
