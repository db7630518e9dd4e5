-- First tokens of components and of declarations, and after patterns.
use Rattle.std.proofs.Common.{◌≡◌, Bool, true, false, List, [], ◌∷◌, Some, None, Ok, refl, sym, ◌∙◌}
use Rattle.rnc_model.specs.declared.token.Keyword.TheVariants as keywords
use Rattle.rnc_model.specs.declared.token.Sign.TheVariants.{Question, Star, Plus}
use Rattle.rnc_model.specs.grammar.Grammar.{Setting}
use Rattle.rnc_model.specs.grammar.Syntax as syntax
use Rattle.rnc_model.specs.grammar.Syntax.{written, Declaration, PatternAt}
use Rattle.rnc_model.specs.tokens.Cut.{Lexeme, keyword, sign}
use Rattle.rnc_syntax.specs.plain.Combinators.{Outcome, ◌>>=◌, after_keyword, either_way, follow_keyword, unexpected}
use Rattle.rnc_syntax.specs.plain.Productions.{begins_component, component_front, begins_declaration, declaration_at, declaration_front}
use Rattle.rnc_syntax.specs.plain.Productions.{default_at, parameter_at, prefix_at, repeated, repeated_by, repetition_front}

pub component_starts : (w : Setting) (ts : List Lexeme) (b : Bool) → b ≡ begins_component w ts → b ≡ true → component_front w ts ≡ Some ts
component_starts w ts b is e = rw (sym is ∙ e) refl

pub component_stops : (w : Setting) (ts : List Lexeme) (b : Bool) → b ≡ begins_component w ts → b ≡ false → component_front w ts ≡ None
component_stops w ts b is e = rw (sym is ∙ e) refl

pub declaration_starts : (ts : List Lexeme) (b : Bool) → b ≡ begins_declaration ts → b ≡ true → declaration_front ts ≡ Some ts
declaration_starts ts b is e = rw (sym is ∙ e) refl

pub declaration_stops : (ts : List Lexeme) (b : Bool) → b ≡ begins_declaration ts → b ≡ false → declaration_front ts ≡ None
declaration_stops ts b is e = rw (sym is ∙ e) refl

-- what is read after `default`, and after `datatypes`
abbrev default_read : List Lexeme → Outcome Declaration
default_read us = after_keyword keywords.Namespace us >>= λ x. default_at x.1

abbrev datatypes_read : List Lexeme → Outcome Declaration
datatypes_read us = parameter_at us >>= λ p. Ok (syntax.datatypes p.0.0 p.0.1, p.1)

-- what is read by the keyword at the front
pub declaration_is : (ts : List Lexeme) → declaration_at ts
    ≡ either_way (follow_keyword keywords.Namespace ts) (either_way (follow_keyword keywords.Default ts)
    (either_way (follow_keyword keywords.Datatypes ts) (unexpected ts) datatypes_read) default_read)
    (λ us. prefix_at us >>= λ x. Ok (syntax.namespace x.0.0 x.0.1, x.1))
unfolding declaration_at
declaration_is [] = refl
declaration_is (keyword keywords.Namespace s ∷ ts) = refl
declaration_is (keyword keywords.Default s ∷ ts) = refl
declaration_is (keyword keywords.Datatypes s ∷ ts) = refl
declaration_is (_ ∷ ts) = refl

-- what is read by the sign of repetition at the front
pub repeated_is : (t : PatternAt written) (ts : List Lexeme) → repeated t ts ≡ either_way (repetition_front ts) (t, ts) (λ x. (repeated_by x.0 t, x.1))
repeated_is t [] = refl
repeated_is t (sign Question ∷ ts) = refl
repeated_is t (sign Star ∷ ts) = refl
repeated_is t (sign Plus ∷ ts) = refl
repeated_is t (_ ∷ ts) = refl
