-- The tokens read before reading stops can be completed: patterns.
use Rattle.std.proofs.Common.{◌≡◌, ℕ, List, [], ◌∷◌, ◌++◌, Option, Some, None, Ok, Err, refl, sym, ap, subst, ◌∙◌, inl, inr}
use Rattle.std.proofs.lemmas.List.{append-nil}
use Rattle.rng_model.specs.simple.Tree.{Connector}
use Rattle.rnc_model.specs.declared.token.Sign.{Sign}
use Rattle.rnc_model.specs.declared.token.Sign.TheVariants.{Minus}
use Rattle.rnc_syntax.specs.declared.fault.Stop.TheVariants.{Unexpected}
use Rattle.rnc_model.specs.tokens.Cut.{Lexeme, sign}
use Rattle.rnc_model.specs.grammar.Syntax as syntax
use Rattle.rnc_model.specs.grammar.Syntax.{written, DatatypeName, PatternAt}
use Rattle.rnc_model.specs.grammar.Grammar as grammar
use Rattle.rnc_model.specs.grammar.NameClasses.{type_of, connector_of, MayBeAnnotation, MayBeParameters}
use Rattle.rnc_model.specs.grammar.Grammar.{IsBarePrimary, IsPattern, IsParticle, IsPrimary}
use Rattle.rnc_syntax.specs.plain.Combinators.{Outcome, ◌>>=◌, follow, either_way, many}
use Rattle.rnc_syntax.specs.plain.Productions.{parameters_at, Inside, bare_primary_with, primary_with, repeated, particle_with, separator_of, joined, rest_with}
use Rattle.rnc_syntax.specs.plain.Productions.{pattern_from, data_front, data_with, bare_pattern_with, pattern_with}
use Rattle.rnc_syntax.proofs.Soundness.{follow_is, TakesFront, Preceded, Each, preceded_sound, nothing_left, Behind}
use Rattle.rnc_syntax.proofs.Soundness.Literals.{parameters_sound}
use Rattle.rnc_syntax.proofs.Soundness.Patterns.{InsideSound, data_front_is, separator_is, repeated_reads, more_are, bare_primary_behind, particle_sound}
use Rattle.rnc_syntax.proofs.Soundness.Patterns.{data_primary}
use Rattle.rnc_syntax.proofs.Viability.{bind_err, first_stopped, Viable, IsViable, Completes, Behinds, exactly, moved, behind_token, behind_tokens, completed}
use Rattle.rnc_syntax.proofs.Viability.{preceded_item, many_viable}
use Rattle.rnc_syntax.proofs.Viability.Annotations.{ViableBehind, annotated_viable, bare_begins}
use Rattle.rnc_syntax.proofs.Viability.Literals.{parameters_viable}
use Rattle.rnc_syntax.proofs.Viability.Primaries.{InsideViable, primary_some, pattern_is, bare_primary_stuck, primary_viable, particle_viable}

one_primary : Completes IsPrimary IsPattern
one_primary ts t p = exactly IsPattern ts t (grammar.one_particle (grammar.once p))

-- particles with a connector before each, after the first one
particles_begin : (front : List Lexeme) (s : Sign) (k : Connector) (t : PatternAt written) → connector_of s ≡ Some k → IsParticle front t
    → Completes (Each (Preceded IsParticle s)) (Behinds front IsPattern)
particles_begin front s k t connects p ts [] q =
    exactly (Behinds front IsPattern) ts t (grammar.one_particle
    (subst (λ (r : List Lexeme). IsParticle r t) (sym (append-nil front) ∙ ap (λ (r : List Lexeme). front ++ r) (sym (nothing_left q))) p))
particles_begin front s k t connects p ts (u ∷ us) q = exactly (Behinds front IsPattern) ts (syntax.members k (t ∷ u ∷ us))
    (grammar.particles connects p (more_are q u us refl) refl refl)

-- a datatype and its parameters, after an annotation and its name
data_begins : (n : List Lexeme) (t : Lexeme) (d : DatatypeName written) → MayBeAnnotation n → type_of t ≡ Some d
    → Completes MayBeParameters (Behind t (Behinds n IsPattern))
data_begins n t d may is ts ps p = exactly (Behind t (Behinds n IsPattern)) ts (syntax.data_of d ps) (pattern_is n (t ∷ ts) (syntax.data_of d ps) may
    (grammar.data_of is p refl))

-- what is excluded from a datatype, after its parameters
except_begins : (n : List Lexeme) (t : Lexeme) (d : DatatypeName written) (front : List Lexeme) (ps : List (List ℕ × List ℕ)) → MayBeAnnotation n
    → type_of t ≡ Some d → MayBeParameters front ps → Completes IsPrimary (Behind (sign Minus) (Behinds front (Behind t (Behinds n IsPattern))))
except_begins n t d front ps may is params ts u p = exactly (Behind (sign Minus) (Behinds front (Behind t (Behinds n IsPattern)))) ts
    (syntax.data_except d ps u) (grammar.data_except t may is params p refl)

module _ (inside : Inside) (sound : InsideSound inside) (viable : InsideViable inside) where
  particles_viable : (s : Sign) → IsViable (many (follow s) (particle_with inside)) (Each (Preceded IsParticle s))
  particles_viable s =
      many_viable (Preceded IsParticle s) (follow s) (particle_with inside) (preceded_sound IsParticle s (particle_with inside) (particle_sound inside sound))
      (preceded_item IsParticle s (particle_with inside) (particle_viable inside sound viable))

  rest_viable : (ts : List Lexeme) (t : PatternAt written × List Lexeme) (left : ℕ) (o : Option Sign) → TakesFront IsParticle ts t → separator_of t.1 ≡ o
      → rest_with inside t.0 o t.1 ≡ Err (Unexpected left) → Viable IsPattern ts left
  unfolding rest_with
  rest_viable ts t left None p is e = absurd cc
  rest_viable ts t left (Some s) p is e =
      let o = separator_is s t.1 is in
      let others = many (follow s) (particle_with inside) t.1 in
      behind_tokens IsPattern p.front ts t.1 left p.parts
      (completed (Each (Preceded IsParticle s)) (Behinds p.front IsPattern) t.1 left (particles_begin p.front s o.2 t.0 o.3 p.is)
      (particles_viable s t.1 left (first_stopped {B = PatternAt written × List Lexeme} others (λ x. (joined s (t.0 ∷ x.0), x.1)) (Unexpected left) e)))

  from_viable : (ts : List Lexeme) (t : PatternAt written × List Lexeme) (left : ℕ) → TakesFront IsPrimary ts t
      → pattern_from inside t.0 t.1 ≡ Err (Unexpected left) → Viable IsPattern ts left
  from_viable ts t left p e = rest_viable ts (repeated t.0 t.1) left (separator_of (repeated t.0 t.1).1) (repeated_reads ts t.1 p.front t.0 p.is p.parts) refl e

  except_viable : (n : List Lexeme) (t : Lexeme) (d : DatatypeName written) (ts us vs front : List Lexeme) (ps : List (List ℕ × List ℕ)) (left : ℕ)
      → MayBeAnnotation n → type_of t ≡ Some d → MayBeParameters front ps → ts ≡ front ++ us → us ≡ sign Minus ∷ vs → Viable IsPrimary vs left
      → Viable IsPattern (n ++ t ∷ ts) left
  except_viable n t d ts us vs front ps left may is params parts minus v =
      let P = Behind t (Behinds n IsPattern) in
      behind_tokens IsPattern n (n ++ t ∷ ts) (t ∷ ts) left refl (behind_token (Behinds n IsPattern) t ts left (behind_tokens P front ts us left parts
      (moved (Behinds front P) us (sign Minus ∷ vs) left minus (behind_token (Behinds front P) (sign Minus) vs left
      (completed IsPrimary (Behind (sign Minus) (Behinds front P)) vs left (except_begins n t d front ps may is params) v)))))

  data_step : (n : List Lexeme) (t : Lexeme) (d : DatatypeName written) (ts : List Lexeme) (ps : List (List ℕ × List ℕ) × List Lexeme) (left : ℕ)
      (o : Option (List Lexeme)) → MayBeAnnotation n → type_of t ≡ Some d → TakesFront MayBeParameters ts ps → follow Minus ps.1 ≡ o
      → either_way {B = Outcome (PatternAt written)} o (pattern_from inside (syntax.data_of d ps.0) ps.1) (λ us. primary_with inside us
      >>= λ t. Ok (syntax.data_except d ps.0 t.0, t.1)) ≡ Err (Unexpected left) → Viable IsPattern (n ++ t ∷ ts) left
  data_step n t d ts ps left None may is p f e =
      from_viable (n ++ t ∷ ts) (syntax.data_of d ps.0, ps.1) left (data_primary inside sound n t d ts ps may is p) e
  data_step n t d ts ps left (Some us) may is p f e =
      except_viable n t d ts ps.1 us p.front ps.0 left may is p.is p.parts (follow_is Minus ps.1 us f)
      (primary_viable inside sound viable us left (first_stopped {B = PatternAt written × List Lexeme} (primary_with inside us)
      (λ t. (syntax.data_except d ps.0 t.0, t.1)) (Unexpected left) e))

  data_viable : (n : List Lexeme) (t : Lexeme) (d : DatatypeName written) (ts : List Lexeme) (left : ℕ) → MayBeAnnotation n → type_of t ≡ Some d
      → (parameters_at ts >>= λ ps. data_with inside d ps.0 ps.1) ≡ Err (Unexpected left) → Viable IsPattern (n ++ t ∷ ts) left
  unfolding data_with
  data_viable n t d ts left may is e =
      elim (bind_err (parameters_at ts) (λ ps. data_with inside d ps.0 ps.1) (Unexpected left) e) [
        | inl h ↦
            let P = Behinds n IsPattern in
            behind_tokens IsPattern n (n ++ t ∷ ts) (t ∷ ts) left refl (behind_token P t ts left (completed MayBeParameters (Behind t P) ts left
            (data_begins n t d may is) (parameters_viable ts left h)))
        | inr h ↦ data_step n t d ts h.0 left (follow Minus h.0.1) may is (parameters_sound ts h.0 h.1) refl h.2
      ]

  pattern_step : (n ts : List Lexeme) (left : ℕ) (o : Option (DatatypeName written × List Lexeme)) → MayBeAnnotation n → data_front ts ≡ o
      → either_way {B = Outcome (PatternAt written)} o (bare_primary_with inside ts >>= λ t. pattern_from inside t.0 t.1) (λ d. parameters_at d.1
      >>= λ ps. data_with inside d.0 ps.0 ps.1) ≡ Err (Unexpected left) → Viable IsPattern (n ++ ts) left
  pattern_step n ts left None may is e =
      elim (bind_err (bare_primary_with inside ts) (λ t. pattern_from inside t.0 t.1) (Unexpected left) e) [
        | inl h ↦ completed IsPrimary IsPattern (n ++ ts) left one_primary (bare_primary_stuck inside sound viable n may ts left h)
        | inr h ↦ from_viable (n ++ ts) h.0 left (bare_primary_behind inside sound n may ts h.0 h.1) h.2
      ]
  pattern_step n ts left (Some d) may is e =
      let f = data_front_is ts d is in
      moved IsPattern (n ++ ts) (n ++ f.0 ∷ d.1) left (ap (λ (r : List Lexeme). n ++ r) f.2) (data_viable n f.0 d.0 d.1 left may f.1 e)

  pub bare_pattern_stuck : ViableBehind (bare_pattern_with inside) IsPattern
  unfolding bare_pattern_with
  bare_pattern_stuck n may ts left e = pattern_step n ts left (data_front ts) may refl e

  pub pattern_viable : IsViable (pattern_with inside) IsPattern
  unfolding pattern_with
  pattern_viable = annotated_viable IsPattern (bare_pattern_with inside) (bare_begins IsPattern IsBarePrimary pattern_is primary_some) bare_pattern_stuck
