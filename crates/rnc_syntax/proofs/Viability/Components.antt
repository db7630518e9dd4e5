-- The tokens read before reading stops can be completed: components, and the inside of brackets at any depth.
use Rattle.std.proofs.Common.{◌≡◌, ℕ, zero, suc, List, [], ◌∷◌, ◌++◌, Option, Some, None, Ok, Err, refl, ap, ◌∙◌}
use Rattle.rnc_model.specs.declared.token.Keyword.TheVariants as keywords
use Rattle.rnc_model.specs.declared.token.Sign.TheVariants.{Equal, BarEqual, AndEqual, OpenBrace, CloseBrace}
use Rattle.rnc_syntax.specs.declared.fault.Stop.TheVariants.{Unexpected}
use Rattle.rng_model.specs.declared.method.Method.{Method}
use Rattle.rng_model.specs.declared.method.Method.TheVariants as methods
use Rattle.rnc_model.specs.tokens.Cut.{Lexeme, Spelling, keyword, identifier, sign}
use Rattle.rnc_model.specs.grammar.Syntax as syntax
use Rattle.rnc_model.specs.grammar.Syntax.{written, PatternAt, ComponentAt}
use Rattle.rnc_model.specs.grammar.Grammar as grammar
use Rattle.rnc_model.specs.grammar.Grammar.{Setting, content, override, IsPattern, AreComponents, IsComponent, IsBareComponent, MayOverride}
use Rattle.rnc_syntax.specs.plain.Combinators.{Outcome, ◌>>=◌, follow, either_way}
use Rattle.rnc_syntax.specs.plain.Productions.{mention_at, Inside, contents_with, pattern_with, method_at, overrides_with, component_front, assigned_at}
use Rattle.rnc_syntax.specs.plain.Productions.{assigned, bare_component_with, component_with, components_with, inside_at}
use Rattle.rnc_syntax.proofs.Soundness.{Each, Behind, Bracketed}
use Rattle.rnc_syntax.proofs.Soundness.Literals.{IsMention, mention_sound}
use Rattle.rnc_syntax.proofs.Soundness.Patterns.{InsideSound, IsMethod, method_sound, assignment_with, assignment_is, include_is, start_is, define_is}
use Rattle.rnc_syntax.proofs.Soundness.Patterns.{component_is, component_front_is, component_item, components_are, inside_sound}
use Rattle.rnc_syntax.proofs.Viability.{Begins, Viable, IsViable, Completes, exactly, nothing_taken, behind_token, completed, made_viable, both_viable, left_is}
use Rattle.rnc_syntax.proofs.Viability.{many_viable}
use Rattle.rnc_syntax.proofs.Viability.Annotations.{ViableBehind, annotated_viable, bare_begins, bare_viable}
use Rattle.rnc_syntax.proofs.Viability.Literals.{mention_viable}
use Rattle.rnc_syntax.proofs.Viability.Classes.{class_viable}
use Rattle.rnc_syntax.proofs.Viability.Primaries.{InsideViable, pattern_some, contents_viable}
use Rattle.rnc_syntax.proofs.Viability.Patterns.{pattern_viable}

method_viable : IsViable method_at IsMethod
unfolding method_at
method_viable (sign Equal ∷ ts) left e = absurd cc
method_viable (sign BarEqual ∷ ts) left e = absurd cc
method_viable (sign AndEqual ∷ ts) left e = absurd cc
method_viable ts left e = nothing_taken IsMethod ts left (left_is ts left e)
    (record { behind = sign Equal ∷ []; value = methods.Plain; is = record { token = sign Equal; method = refl; parts = refl } })

overrides_begin : Completes (Bracketed (AreComponents override) OpenBrace CloseBrace) MayOverride
overrides_begin ts cs p = exactly MayOverride ts cs (grammar.with_overrides p.is p.parts)

-- a spelling
abbrev plain : Spelling
plain = record { text = []; number = 0 }

component_some : (w : Setting) → Begins (IsBareComponent w) []
component_some w = record {
  behind = keyword keywords.Start plain ∷ sign Equal ∷ pattern_some.behind;
  value = syntax.start methods.Plain pattern_some.value;
  is = grammar.start {x = sign Equal} refl pattern_some.is refl;
}

-- after a token, what is made of a value
module _ {A : Type 0} (P : List Lexeme → A → Type 0) (w : Setting) (t : Lexeme) (f : A → ComponentAt written) (read : List Lexeme → Outcome A)
    (viable : IsViable read P)
    (maps : (ts : List Lexeme) (a : A) → P ts a → IsBareComponent w (t ∷ ts) (f a)) where
  component_behind : (ts : List Lexeme) (left : ℕ) → ◌≡◌ {A = Outcome (ComponentAt written)} (read ts >>= λ x. Ok (f x.0, x.1)) (Err (Unexpected left))
      → Viable (IsBareComponent w) (t ∷ ts) left
  component_behind ts left e = behind_token (IsBareComponent w) t ts left
      (made_viable P (Behind t (IsBareComponent w)) read f viable (λ us a p. exactly (Behind t (IsBareComponent w)) us (f a) (maps us a p)) ts left e)

module _ (inside : Inside) (sound : InsideSound inside) (viable : InsideViable inside) where
  -- a method and a pattern, after the name or `start`
  assigned_viable : (w : Setting) (o : Option (List ℕ)) (t : Lexeme) → ((first second : List Lexeme) (m : Method) (u : PatternAt written) → IsMethod first m
      → IsPattern second u → IsBareComponent w (t ∷ (first ++ second)) (assigned o m u))
      → (ts : List Lexeme) (left : ℕ) → assignment_with inside o ts ≡ Err (Unexpected left) → Viable (IsBareComponent w) (t ∷ ts) left
  assigned_viable w o t makes ts left e =
      behind_token (IsBareComponent w) t ts left
      (both_viable IsMethod IsPattern (Behind t (IsBareComponent w)) (assigned o) method_at (pattern_with inside) method_sound method_viable
      (pattern_viable inside sound viable) pattern_some makes ts left (assignment_is inside o ts ∙ e))

  overrides_step : (ts : List Lexeme) (left : ℕ) (o : Option (List Lexeme)) → either_way {B = Outcome (List (ComponentAt written))} o (Ok ([], ts))
      (λ us. contents_with inside override ts) ≡ Err (Unexpected left) → Viable MayOverride ts left
  overrides_step ts left None e = absurd cc
  overrides_step ts left (Some us) e = completed (Bracketed (AreComponents override) OpenBrace CloseBrace) MayOverride ts left overrides_begin
      (contents_viable inside sound viable override ts left e)

  overrides_viable : IsViable (overrides_with inside) MayOverride
  unfolding overrides_with
  overrides_viable ts left e = overrides_step ts left (follow OpenBrace ts) e

  bare_component_viable : (w : Setting) → IsViable (bare_component_with inside w) (IsBareComponent w)
  unfolding bare_component_with assigned_at
  bare_component_viable w (identifier n ∷ ts) left e = assigned_viable w (Some n) (identifier n) (define_is w n) ts left e
  bare_component_viable w (keyword keywords.Start s ∷ ts) left e = assigned_viable w None (keyword keywords.Start s) (start_is w s) ts left e
  bare_component_viable w (keyword keywords.Div s ∷ ts) left e =
      component_behind (Bracketed (AreComponents w) OpenBrace CloseBrace) w (keyword keywords.Div s)
      (λ (cs : List (ComponentAt written)). syntax.div (syntax.components_of cs)) (contents_with inside w) (contents_viable inside sound viable w)
      (λ vs a p. grammar.div p.is (ap (λ (r : List Lexeme). keyword keywords.Div s ∷ r) p.parts) refl) ts left e
  bare_component_viable content (keyword keywords.Include s ∷ ts) left e =
      let t = keyword keywords.Include s in
      behind_token (IsBareComponent content) t ts left
      (both_viable (IsMention s.number) MayOverride (Behind t (IsBareComponent content)) (λ m cs. syntax.include m (syntax.components_of cs))
      (mention_at s.number) (overrides_with inside) (mention_sound s.number) (mention_viable s.number) overrides_viable
      (record { behind = []; value = []; is = grammar.without_overrides refl }) (include_is s) ts left e)
  bare_component_viable w ts left e = nothing_taken (IsBareComponent w) ts left (left_is ts left e) (component_some w)

  pub bare_component_stuck : (w : Setting) → ViableBehind (bare_component_with inside w) (IsComponent w)
  bare_component_stuck w = bare_viable (IsComponent w) (IsBareComponent w) (component_is w) (bare_component_with inside w) (bare_component_viable w)

  component_viable : (w : Setting) → IsViable (component_with inside w) (IsComponent w)
  unfolding component_with
  component_viable w = annotated_viable (IsComponent w) (bare_component_with inside w)
      (bare_begins (IsComponent w) (IsBareComponent w) (component_is w) (component_some w)) (bare_component_stuck w)

  component_stuck : (w : Setting) (ts us : List Lexeme) (left : ℕ) → component_front w ts ≡ Some us → component_with inside w us ≡ Err (Unexpected left)
      → Viable (IsComponent w) ts left
  component_stuck w ts us left is e = component_viable w ts left (ap (component_with inside w) (component_front_is w ts us is) ∙ e)

  pub components_viable : (w : Setting) → IsViable (components_with inside w) (AreComponents w)
  unfolding components_with
  components_viable w ts left e =
      completed (Each (IsComponent w)) (AreComponents w) ts left (λ us cs p. exactly (AreComponents w) us cs (components_are w p))
      (many_viable (IsComponent w) (component_front w) (component_with inside w) (component_item inside sound w) (component_stuck w) ts left e)

pub inside_viable : (n : ℕ) → InsideViable (inside_at n)
unfolding inside_at
inside_viable zero = record { class = λ ts left e. absurd cc; pattern = λ ts left e. absurd cc; components = λ w ts left e. absurd cc }
inside_viable (suc n) =
    let s = inside_sound n in
    let v = inside_viable n in
    record {
      class = class_viable (inside_at n).class s.class v.class;
      pattern = pattern_viable (inside_at n) s v;
      components = components_viable (inside_at n) s v;
    }
