-- The tokens read before reading stops can be completed: primaries and particles.
use Rattle.std.proofs.Common.{◌≡◌, ℕ, List, [], ◌∷◌, ◌++◌, Some, Ok, Err, refl, ap, inl, inr}
use Rattle.rng_model.proofs.Truths.{chosen}
use Rattle.rnc_model.specs.declared.token.Keyword.TheVariants as keywords
use Rattle.rnc_model.specs.declared.token.Sign.TheVariants.{OpenBrace, CloseBrace, OpenParenthesis, CloseParenthesis}
use Rattle.rnc_syntax.specs.declared.fault.Stop.TheVariants.{Unexpected}
use Rattle.rnc_model.specs.tokens.Cut.{Lexeme, keyword, identifier, cname, segment, sign}
use Rattle.rnc_model.specs.grammar.Syntax as syntax
use Rattle.rnc_model.specs.grammar.Syntax.{written, NameClassAt, DatatypeName, PatternAt, ComponentAt}
use Rattle.rnc_model.specs.grammar.Grammar as grammar
use Rattle.rnc_model.specs.grammar.NameClasses as name_classes
use Rattle.rnc_model.specs.grammar.Grammar.{Setting, content, IsPattern, IsParticle, IsPrimary}
use Rattle.rnc_model.specs.grammar.NameClasses.{type_of, MayBeAnnotation, IsLiteral, MayBeParameters, IsClass}
use Rattle.rnc_model.specs.grammar.Grammar.{IsBarePrimary, IsBraced, AreComponents}
use Rattle.rnc_syntax.specs.plain.Combinators.{Outcome, ◌>>=◌, identifier_at}
use Rattle.rnc_syntax.specs.plain.Productions.{in_braces_at, literal_at, parameters_at, mention_at, class_with, Inside, braced_with, contents_with}
use Rattle.rnc_syntax.specs.plain.Productions.{named_with, begins_segment, typed_at, other_at, atom_at, parens_with, opened_with, bare_primary_with}
use Rattle.rnc_syntax.specs.plain.Productions.{primary_with}
use Rattle.rnc_syntax.specs.plain.Productions.{repeated, particle_with}
use Rattle.rnc_syntax.proofs.Soundness.{Closed, Preceded, Behind, Bracketed, bracketed}
use Rattle.rnc_syntax.proofs.Soundness.Literals.{IsMention}
use Rattle.rnc_syntax.proofs.Soundness.Classes.{class_sound}
use Rattle.rnc_syntax.proofs.Soundness.Patterns.{InsideSound, primary_is}
use Rattle.rnc_syntax.proofs.Viability.{Begins, Viable, IsViable, Completes, exactly, first_stopped, nothing_taken, behind_token, completed, made_viable}
use Rattle.rnc_syntax.proofs.Viability.{both_viable, left_is, closes_viable, in_braces_viable, open_viable}
use Rattle.rnc_syntax.proofs.Viability.Annotations.{ViableBehind, annotated_viable, bare_begins, bare_viable}
use Rattle.rnc_syntax.proofs.Viability.Literals.{IsIdentifier, identifier_viable, literal_viable, parameters_viable, mention_viable}
use Rattle.rnc_syntax.proofs.Viability.Classes.{class_viable}

-- the tokens read inside brackets before reading stops can be completed
pub record InsideViable (inside : Inside) : Type 0 where
  pub class : IsViable inside.class IsClass
  pub pattern : IsViable inside.pattern IsPattern
  pub components : (w : Setting) → IsViable (inside.components w) (AreComponents w)

pub primary_some : Begins IsBarePrimary []
primary_some = record { behind = identifier [] ∷ []; value = syntax.ref []; is = grammar.ref refl }

pub pattern_is : (n ts : List Lexeme) (t : PatternAt written) → MayBeAnnotation n → IsBarePrimary ts t → IsPattern (n ++ ts) t
pattern_is n ts t may is = grammar.one_particle (grammar.once (grammar.annotated_primary may is refl))

pub pattern_some : Begins IsPattern []
pattern_some = record {
  behind = primary_some.behind;
  value = primary_some.value;
  is = pattern_is [] primary_some.behind primary_some.value (name_classes.without_annotation refl) primary_some.is;
}

-- after a token, what is made of a value
module _ {A : Type 0} (P : List Lexeme → A → Type 0) (t : Lexeme) (f : A → PatternAt written) (read : List Lexeme → Outcome A) (viable : IsViable read P)
    (maps : (ts : List Lexeme) (a : A) → P ts a → IsBarePrimary (t ∷ ts) (f a)) where
  primary_behind : (ts : List Lexeme) (left : ℕ) → ◌≡◌ {A = Outcome (PatternAt written)} (read ts >>= λ x. Ok (f x.0, x.1)) (Err (Unexpected left))
      → Viable IsBarePrimary (t ∷ ts) left
  primary_behind ts left e = behind_token IsBarePrimary t ts left
      (made_viable P (Behind t IsBarePrimary) read f viable (λ us a p. exactly (Behind t IsBarePrimary) us (f a) (maps us a p)) ts left e)

typed_viable : (d : DatatypeName written) (t : Lexeme) (ts : List Lexeme) (left : ℕ) → type_of t ≡ Some d → typed_at d ts ≡ Err (Unexpected left)
    → Viable IsBarePrimary (t ∷ ts) left
unfolding typed_at
typed_viable d t ts left is e =
    elim (chosen {A = Outcome (PatternAt written)} (begins_segment ts) (literal_at ts >>= λ v. Ok (syntax.value d v.0, v.1))
    (parameters_at ts >>= λ ps. Ok (syntax.data_of d ps.0, ps.1)) (Err (Unexpected left)) e) [
      | inl h ↦ primary_behind IsLiteral t (syntax.value d) literal_at literal_viable (λ us v p. grammar.value is p refl) ts left h.1
      | inr h ↦ primary_behind MayBeParameters t (syntax.data_of d) parameters_at parameters_viable (λ us ps p. grammar.data_of is p refl) ts left h.1
    ]

module _ (inside : Inside) (sound : InsideSound inside) (viable : InsideViable inside) where
  braced_begins : Completes (Preceded (Closed IsPattern CloseBrace) OpenBrace) IsBraced
  braced_begins ts t p =
      let q = bracketed IsPattern OpenBrace CloseBrace ts t p in
      exactly IsBraced ts t (grammar.in_braces q.is q.parts)

  closed_pattern : Begins (Closed IsPattern CloseBrace) []
  closed_pattern = record {
    behind = pattern_some.behind ++ sign CloseBrace ∷ [];
    value = pattern_some.value;
    is = record { front = pattern_some.behind; is = pattern_some.is; parts = refl };
  }

  braced_some : Begins IsBraced []
  braced_some = record {
    behind = sign OpenBrace ∷ (pattern_some.behind ++ sign CloseBrace ∷ []);
    value = pattern_some.value;
    is = grammar.in_braces pattern_some.is refl;
  }

  braced_viable : IsViable (braced_with inside) IsBraced
  unfolding braced_with
  braced_viable ts left e =
      completed (Preceded (Closed IsPattern CloseBrace) OpenBrace) IsBraced ts left braced_begins
      (open_viable (Closed IsPattern CloseBrace) OpenBrace (in_braces_at inside.pattern)
      (in_braces_viable IsPattern inside.pattern sound.pattern viable.pattern) closed_pattern ts left e)

  contents_begin : (w : Setting) → Completes (Preceded (Closed (AreComponents w) CloseBrace) OpenBrace) (Bracketed (AreComponents w) OpenBrace CloseBrace)
  contents_begin w ts cs p = exactly (Bracketed (AreComponents w) OpenBrace CloseBrace) ts cs (bracketed (AreComponents w) OpenBrace CloseBrace ts cs p)

  closed_contents : (w : Setting) → Begins (Closed (AreComponents w) CloseBrace) []
  closed_contents w = record { behind = sign CloseBrace ∷ []; value = []; is = record { front = []; is = grammar.no_components refl; parts = refl } }

  pub contents_viable : (w : Setting) → IsViable (contents_with inside w) (Bracketed (AreComponents w) OpenBrace CloseBrace)
  unfolding contents_with
  contents_viable w ts left e =
      completed (Preceded (Closed (AreComponents w) CloseBrace) OpenBrace) (Bracketed (AreComponents w) OpenBrace CloseBrace) ts left (contents_begin w)
      (open_viable (Closed (AreComponents w) CloseBrace) OpenBrace (in_braces_at (inside.components w))
      (in_braces_viable (AreComponents w) (inside.components w) (sound.components w) (viable.components w)) (closed_contents w) ts left e)

  -- a name class and a pattern in braces, after a token
  named_viable : (make : NameClassAt written → PatternAt written → PatternAt written) (t : Lexeme)
      → ((first second : List Lexeme) (c : NameClassAt written) (u : PatternAt written) → IsClass first c
      → IsBraced second u → IsBarePrimary (t ∷ (first ++ second)) (make c u))
      → (ts : List Lexeme) (left : ℕ) → named_with inside make ts ≡ Err (Unexpected left) → Viable IsBarePrimary (t ∷ ts) left
  unfolding named_with
  named_viable make t makes ts left e =
      behind_token IsBarePrimary t ts left
      (both_viable IsClass IsBraced (Behind t IsBarePrimary) make (class_with inside.class) (braced_with inside) (class_sound inside.class sound.class)
      (class_viable inside.class sound.class viable.class) braced_viable braced_some makes ts left e)

  parens_begin : Completes (Closed IsPattern CloseParenthesis) (Behind (sign OpenParenthesis) IsBarePrimary)
  parens_begin ts t p = exactly (Behind (sign OpenParenthesis) IsBarePrimary) ts t
      (grammar.in_parens p.is (ap (λ (r : List Lexeme). sign OpenParenthesis ∷ r) p.parts))

  bare_primary_viable : IsViable (bare_primary_with inside) IsBarePrimary
  unfolding bare_primary_with atom_at other_at opened_with parens_with
  bare_primary_viable (keyword keywords.Element s ∷ ts) left e = named_viable syntax.element (keyword keywords.Element s)
      (λ first second c u p q. grammar.element p q refl) ts left e
  bare_primary_viable (keyword keywords.Attribute s ∷ ts) left e = named_viable syntax.attribute (keyword keywords.Attribute s)
      (λ first second c u p q. grammar.attribute p q refl) ts left e
  bare_primary_viable (keyword keywords.List s ∷ ts) left e = primary_behind IsBraced (keyword keywords.List s) syntax.list (braced_with inside) braced_viable
      (λ us a p. grammar.list p refl) ts left e
  bare_primary_viable (keyword keywords.Mixed s ∷ ts) left e = primary_behind IsBraced (keyword keywords.Mixed s) syntax.mixed (braced_with inside)
      braced_viable (λ us a p. grammar.mixed p refl) ts left e
  bare_primary_viable (keyword keywords.Parent s ∷ ts) left e =
      let t = keyword keywords.Parent s in
      primary_behind IsIdentifier t syntax.parent_ref identifier_at identifier_viable (λ us n p. grammar.parent_ref (ap (λ (r : List Lexeme). t ∷ r) p)) ts left
      e
  bare_primary_viable (keyword keywords.Empty s ∷ ts) left e = absurd cc
  bare_primary_viable (keyword keywords.Text s ∷ ts) left e = absurd cc
  bare_primary_viable (keyword keywords.NotAllowed s ∷ ts) left e = absurd cc
  bare_primary_viable (keyword keywords.String s ∷ ts) left e = typed_viable syntax.string_type (keyword keywords.String s) ts left refl e
  bare_primary_viable (keyword keywords.Token s ∷ ts) left e = typed_viable syntax.token_type (keyword keywords.Token s) ts left refl e
  bare_primary_viable (keyword keywords.External s ∷ ts) left e =
      let t = keyword keywords.External s in
      primary_behind (IsMention s.number) t syntax.external (mention_at s.number) (mention_viable s.number)
      (λ us m p. grammar.external p.literal p.inherits (ap (λ (r : List Lexeme). t ∷ r) p.parts) (ap syntax.external p.standing)) ts left e
  bare_primary_viable (keyword keywords.Grammar s ∷ ts) left e =
      let t = keyword keywords.Grammar s in
      primary_behind (Bracketed (AreComponents content) OpenBrace CloseBrace) t (λ (cs : List (ComponentAt written)). syntax.grammar (syntax.components_of cs))
      (contents_with inside content) (contents_viable content)
      (λ us cs p. grammar.grammar p.is (ap (λ (r : List Lexeme). t ∷ r) p.parts) refl) ts left e
  bare_primary_viable (identifier n ∷ ts) left e = absurd cc
  bare_primary_viable (cname p l ∷ ts) left e = typed_viable (syntax.prefixed_type p l) (cname p l) ts left refl e
  bare_primary_viable (segment w ∷ ts) left e = made_viable IsLiteral IsBarePrimary literal_at (syntax.value syntax.token_type) literal_viable
      (λ us v p. exactly IsBarePrimary us (syntax.value syntax.token_type v) (grammar.untyped_value p)) (segment w ∷ ts) left e
  bare_primary_viable (sign OpenParenthesis ∷ ts) left e =
      behind_token IsBarePrimary (sign OpenParenthesis) ts left (completed (Closed IsPattern CloseParenthesis) (Behind (sign OpenParenthesis) IsBarePrimary)
      ts left parens_begin (closes_viable IsPattern CloseParenthesis inside.pattern sound.pattern viable.pattern ts left e))
  bare_primary_viable ts left e = nothing_taken IsBarePrimary ts left (left_is ts left e) primary_some

  pub bare_primary_stuck : ViableBehind (bare_primary_with inside) IsPrimary
  bare_primary_stuck = bare_viable IsPrimary IsBarePrimary primary_is (bare_primary_with inside) bare_primary_viable

  pub primary_viable : IsViable (primary_with inside) IsPrimary
  unfolding primary_with
  primary_viable = annotated_viable IsPrimary (bare_primary_with inside) (bare_begins IsPrimary IsBarePrimary primary_is primary_some) bare_primary_stuck

  pub particle_viable : IsViable (particle_with inside) IsParticle
  unfolding particle_with
  particle_viable ts left e =
      completed IsPrimary IsParticle ts left (λ us t p. exactly IsParticle us t (grammar.once p))
      (primary_viable ts left (first_stopped (primary_with inside ts) (λ t. repeated t.0 t.1) (Unexpected left) e))
