-- The tokens read before reading stops can be completed: name classes.
use Rattle.std.proofs.Common.{◌≡◌, ℕ, List, [], ◌∷◌, ◌++◌, Option, Some, None, Ok, Err, refl, sym, ap, subst, ◌∙◌, inl, inr}
use Rattle.std.proofs.lemmas.List.{append-nil}
use Rattle.rnc_model.specs.declared.token.Sign.TheVariants.{Bar, Star, Minus, OpenParenthesis, CloseParenthesis}
use Rattle.rnc_syntax.specs.declared.fault.Stop.TheVariants.{Unexpected}
use Rattle.rnc_model.specs.tokens.Cut.{Lexeme, keyword, identifier, cname, ns_name, sign}
use Rattle.rnc_model.specs.grammar.Syntax as syntax
use Rattle.rnc_model.specs.grammar.Syntax.{written, NameClassAt}
use Rattle.rnc_model.specs.grammar.NameClasses as grammar
use Rattle.rnc_model.specs.grammar.NameClasses.{MayBeAnnotation, IsClass, IsBasic, IsBareBasic}
use Rattle.rnc_syntax.specs.plain.Combinators.{Outcome, ◌>>=◌, follow, either_way, many}
use Rattle.rnc_syntax.specs.plain.Productions.{class_in_parens, bare_basic_with, basic_with, choice_with, except_front, excepted, bare_class_with, class_with}
use Rattle.rnc_syntax.proofs.Soundness.{Sound, Closed, Preceded, Each, preceded_sound, nothing_left, Behind}
use Rattle.rnc_syntax.proofs.Soundness.Classes.{more_classes_are, except_tokens, except_is, basic_is, bare_basic_behind, basic_sound}
use Rattle.rnc_syntax.proofs.Viability.{Begins, Viable, IsViable, Completes, Behinds, exactly, nothing_taken, first_stopped, moved, behind_token, completed}
use Rattle.rnc_syntax.proofs.Viability.{made_viable, bind_err, behind_tokens, left_is, closes_viable, preceded_item, many_viable}
use Rattle.rnc_syntax.proofs.Viability.Annotations.{ViableBehind, annotated_viable, bare_begins, bare_viable}

basic_some : Begins IsBareBasic []
basic_some = record { behind = identifier [] ∷ []; value = syntax.name_is (syntax.unprefixed []); is = grammar.word_class {x = identifier []} refl refl }

class_is : (n ts : List Lexeme) (c : NameClassAt written) → MayBeAnnotation n → IsBareBasic ts c → IsClass (n ++ ts) c
class_is n ts c may is = grammar.basic_class (basic_is n ts c may is)

module _ (class : List Lexeme → Outcome (NameClassAt written)) (sound : Sound class IsClass) (viable : IsViable class IsClass) where
  in_parens : Completes (Closed IsClass CloseParenthesis) (Behind (sign OpenParenthesis) IsBareBasic)
  in_parens ts c p = exactly (Behind (sign OpenParenthesis) IsBareBasic) ts c
      (grammar.class_in_parens p.is (ap (λ (r : List Lexeme). sign OpenParenthesis ∷ r) p.parts))

  bare_basic_viable : IsViable (bare_basic_with class) IsBareBasic
  unfolding bare_basic_with class_in_parens
  bare_basic_viable (identifier w ∷ ts) left e = absurd cc
  bare_basic_viable (keyword k s ∷ ts) left e = absurd cc
  bare_basic_viable (cname p l ∷ ts) left e = absurd cc
  bare_basic_viable (ns_name p ∷ ts) left e = absurd cc
  bare_basic_viable (sign Star ∷ ts) left e = absurd cc
  bare_basic_viable (sign OpenParenthesis ∷ ts) left e =
      behind_token IsBareBasic (sign OpenParenthesis) ts left (completed (Closed IsClass CloseParenthesis) (Behind (sign OpenParenthesis) IsBareBasic) ts left
      in_parens (closes_viable IsClass CloseParenthesis class sound viable ts left e))
  bare_basic_viable ts left e = nothing_taken IsBareBasic ts left (left_is ts left e) basic_some

  pub bare_basic_stuck : ViableBehind (bare_basic_with class) IsBasic
  bare_basic_stuck = bare_viable IsBasic IsBareBasic basic_is (bare_basic_with class) bare_basic_viable

  pub basic_viable : IsViable (basic_with class) IsBasic
  unfolding basic_with
  basic_viable = annotated_viable IsBasic (bare_basic_with class) (bare_begins IsBasic IsBareBasic basic_is basic_some) bare_basic_stuck

one_class : Completes IsBasic IsClass
one_class ts c p = exactly IsClass ts c (grammar.basic_class p)

-- classes with a `|` before each, after the first one
classes_begin : (front : List Lexeme) (c : NameClassAt written) → IsBasic front c → Completes (Each (Preceded IsBasic Bar)) (Behinds front IsClass)
classes_begin front c p ts [] q = exactly (Behinds front IsClass) ts c
    (grammar.basic_class (subst (λ (r : List Lexeme). IsBasic r c) (sym (append-nil front) ∙ ap (λ (r : List Lexeme). front ++ r) (sym (nothing_left q))) p))
classes_begin front c p ts (d ∷ ds) q = exactly (Behinds front IsClass) ts (syntax.choice_of (c ∷ d ∷ ds))
    (grammar.choice_class p (more_classes_are q d ds refl) refl refl)

-- after an annotation, `*` or `p:*`, and `-`
excepted_viable : (n : List Lexeme) (o : Option (List ℕ)) (ts : List Lexeme) (left : ℕ) → MayBeAnnotation n → Viable IsBasic ts left
    → Viable (Behinds n IsClass) (except_tokens o ts) left
excepted_viable n None ts left may v =
    let P = Behinds n IsClass in
    behind_token P (sign Star) (sign Minus ∷ ts) left (behind_token (Behind (sign Star) P) (sign Minus) ts left
    (completed IsBasic (Behind (sign Minus) (Behind (sign Star) P)) ts left (λ us c p. exactly (Behind (sign Minus) (Behind (sign Star) P)) us
    (syntax.any_except c) (grammar.any_except may p refl)) v))
excepted_viable n (Some w) ts left may v =
    let P = Behinds n IsClass in
    behind_token P (ns_name w) (sign Minus ∷ ts) left (behind_token (Behind (ns_name w) P) (sign Minus) ts left
    (completed IsBasic (Behind (sign Minus) (Behind (ns_name w) P)) ts left (λ us c p. exactly (Behind (sign Minus) (Behind (ns_name w) P)) us
    (syntax.ns_except w c) (grammar.ns_except may p refl)) v))

module _ (basic : List Lexeme → Outcome (NameClassAt written)) (sound : Sound basic IsBasic) (viable : IsViable basic IsBasic) where
  others_viable : IsViable (many (follow Bar) basic) (Each (Preceded IsBasic Bar))
  others_viable = many_viable (Preceded IsBasic Bar) (follow Bar) basic (preceded_sound IsBasic Bar basic sound) (preceded_item IsBasic Bar basic viable)

  choice_step : (front : List Lexeme) (c : NameClassAt written) (ts : List Lexeme) (left : ℕ) (o : Option (List Lexeme)) → IsBasic front c
      → either_way {B = Outcome (NameClassAt written)} o (Ok (c, ts))
      (λ us. many (follow Bar) basic ts >>= λ others. Ok (syntax.choice_of (c ∷ others.0), others.1)) ≡ Err
      (Unexpected left) → Viable (Behinds front IsClass) ts left
  choice_step front c ts left None p e = absurd cc
  choice_step front c ts left (Some us) p e = made_viable (Each (Preceded IsBasic Bar)) (Behinds front IsClass) (many (follow Bar) basic)
      (λ others. syntax.choice_of (c ∷ others)) others_viable (classes_begin front c p) ts left e

  choice_viable : (front : List Lexeme) (c : NameClassAt written × List Lexeme) (left : ℕ) → IsBasic front c.0 → choice_with basic c.0 c.1 ≡ Err (Unexpected left)
      → Viable (Behinds front IsClass) c.1 left
  unfolding choice_with
  choice_viable front c left p e = choice_step front c.0 c.1 left (follow Bar c.1) p e

module _ (class : List Lexeme → Outcome (NameClassAt written)) (sound : Sound class IsClass) (viable : IsViable class IsClass) where
  class_step : (n ts : List Lexeme) (left : ℕ) (o : Option (Option (List ℕ) × List Lexeme)) → MayBeAnnotation n → except_front ts ≡ o
      → either_way {B = Outcome (NameClassAt written)} o (bare_basic_with class ts >>= λ c. choice_with (basic_with class) c.0 c.1) (λ x. basic_with class x.1
      >>= λ c. Ok (excepted x.0 c.0, c.1)) ≡ Err (Unexpected left) → Viable IsClass (n ++ ts) left
  class_step n ts left None may is e =
      elim (bind_err (bare_basic_with class ts) (λ c. choice_with (basic_with class) c.0 c.1) (Unexpected left) e) [
        | inl h ↦ completed IsBasic IsClass (n ++ ts) left one_class (bare_basic_stuck class sound viable n may ts left h)
        | inr h ↦
            let p = bare_basic_behind class sound n may ts h.0 h.1 in
            behind_tokens IsClass p.front (n ++ ts) h.0.1 left p.parts
            (choice_viable (basic_with class) (basic_sound class sound) (basic_viable class sound viable) p.front h.0 left p.is h.2)
      ]
  class_step n ts left (Some y) may is e =
      let stopped = first_stopped {B = NameClassAt written × List Lexeme} (basic_with class y.1) (λ c. (excepted y.0 c.0, c.1)) (Unexpected left) e in
      behind_tokens IsClass n (n ++ ts) ts left refl (moved (Behinds n IsClass) ts (except_tokens y.0 y.1) left (except_is ts y is)
      (excepted_viable n y.0 y.1 left may (basic_viable class sound viable y.1 left stopped)))

  bare_class_stuck : ViableBehind (bare_class_with class) IsClass
  unfolding bare_class_with
  bare_class_stuck n may ts left e = class_step n ts left (except_front ts) may refl e

  pub class_viable : IsViable (class_with class) IsClass
  unfolding class_with
  class_viable = annotated_viable IsClass (bare_class_with class) (bare_begins IsClass IsBareBasic class_is basic_some) bare_class_stuck
