-- The result of a reader depends only on the tokens it read and on the next one: particles and patterns.
use Rattle.std.proofs.Common.{◌≡◌, ℕ, Bool, true, false, List, [], ◌∷◌, Option, Some, None, Ok, refl, sym, ◌∙◌, if◌then◌else◌}
use Rattle.rnc_model.specs.declared.token.Keyword.TheVariants as keywords
use Rattle.rnc_model.specs.declared.token.Sign.{Sign}
use Rattle.rnc_model.specs.declared.token.Sign.TheVariants.{Comma, Bar, And, Question, Star, Plus, Minus}
use Rattle.rnc_model.specs.tokens.Cut.{Lexeme, keyword, identifier, cname, sign}
use Rattle.rnc_model.specs.grammar.Syntax as syntax
use Rattle.rnc_model.specs.grammar.Syntax.{written, DatatypeName, PatternAt}
use Rattle.rnc_syntax.specs.plain.Combinators.{Outcome, ◌>>=◌, follow, either_way, many}
use Rattle.rnc_syntax.specs.plain.Productions.{parameters_at, Inside, begins_segment, typed_at, other_at, atom_at, bare_primary_with, primary_with, repeated}
use Rattle.rnc_syntax.specs.plain.Productions.{particle_with, separator_of, joined, rest_with, pattern_from, data_with, bare_pattern_with, pattern_with}
use Rattle.rnc_syntax.proofs.Locality.{LocalAt, IsLocal, ok_local, stuck_end, cons_local, bind_local}
use Rattle.rnc_syntax.proofs.Locality.Fronts.{same_local, end_local, token_local, test_heads, if_local, either_local, follow_front}
use Rattle.rnc_syntax.proofs.Locality.Items.{many_local}
use Rattle.rnc_syntax.proofs.Locality.Literals.{made_local, parameters_local}
use Rattle.rnc_syntax.proofs.Locality.Annotations.{annotated_local}
use Rattle.rnc_syntax.proofs.Locality.Primaries.{Locals, same_segment, typed_local, bare_primary_local, primary_local}

-- ---- particles

abbrev repeated_read : PatternAt written → List Lexeme → Outcome (PatternAt written)
repeated_read t us = Ok (repeated t us)

repeated_local : (t : PatternAt written) → IsLocal (repeated_read t) (repeated_read t)
repeated_local t [] = end_local (repeated_read t) (repeated_read t) (λ us. Ok (t, us)) (λ us. Ok (t, us)) refl refl (ok_local t [])
repeated_local t (sign Question ∷ ts) = cons_local (repeated_read t) (repeated_read t) _ _ (sign Question) ts (λ us. refl) (λ us. refl)
    (ok_local (syntax.optional t) ts)
repeated_local t (sign Star ∷ ts) = cons_local (repeated_read t) (repeated_read t) _ _ (sign Star) ts (λ us. refl) (λ us. refl)
    (ok_local (syntax.zero_or_more t) ts)
repeated_local t (sign Plus ∷ ts) = cons_local (repeated_read t) (repeated_read t) _ _ (sign Plus) ts (λ us. refl) (λ us. refl)
    (ok_local (syntax.one_or_more t) ts)
repeated_local t (x ∷ ts) = token_local (repeated_read t) (repeated_read t) (λ us. Ok (t, us)) (λ us. Ok (t, us)) x ts (λ us. refl) (λ us. refl)
    (ok_local t (x ∷ ts))

pub particle_local : (inside deeper : Inside) → Locals inside deeper → Locals deeper deeper → IsLocal (particle_with inside) (particle_with deeper)
unfolding particle_with
particle_local inside deeper l self ts = bind_local (primary_with inside) (primary_with deeper) repeated_read repeated_read ts
    (primary_local inside deeper l self ts) (λ t rest e. repeated_local t rest)

-- ---- patterns

same_separator : (t : Lexeme) (us vs : List Lexeme) → separator_of (t ∷ us) ≡ separator_of (t ∷ vs)
same_separator (sign Comma) us vs = refl
same_separator (sign And) us vs = refl
same_separator (sign Bar) us vs = refl
same_separator t us vs = refl

-- a part if there is one, or another way
way_of : {A X : Type 0} (b : Bool) (x : X) (a : A) (f : X → A) → either_way (if b then None else Some x) a f ≡ (if b then a else f x)
way_of true x a f = refl
way_of false x a f = refl

module _ (inside deeper : Inside) (l : Locals inside deeper) (self : Locals deeper deeper) where
  particles_local : (s : Sign) → IsLocal (many (follow s) (particle_with inside)) (many (follow s) (particle_with deeper))
  particles_local s =
      let p = particle_local inside deeper l self in
      let q = particle_local deeper deeper self self in
      many_local (follow s) refl (particle_with inside) (particle_with deeper) (follow_front (particle_with inside) (particle_with deeper) p s)
      (follow_front (particle_with deeper) (particle_with deeper) q s)

  abbrev rest_read : Inside → PatternAt written → List Lexeme → Outcome (PatternAt written)
  rest_read inner t us = rest_with inner t (separator_of us) us

  rest_by : (t : PatternAt written) (ts : List Lexeme) (o : Option Sign) → separator_of ts ≡ o → LocalAt (rest_read inside t) (rest_read deeper t) ts
  unfolding rest_with
  rest_by t ts None e = same_local (rest_read inside t) (rest_read deeper t) (λ us. Ok (t, us)) (λ us. Ok (t, us)) ts (rw e refl)
      (λ other h. rw (sym (test_heads separator_of same_separator ts other h) ∙ e) refl) (ok_local t ts)
  rest_by t ts (Some s) e =
      let all = made_local (many (follow s) (particle_with inside)) (many (follow s) (particle_with deeper)) (λ others. joined s (t ∷ others))
      (particles_local s) in
      same_local (rest_read inside t) (rest_read deeper t) _ _ ts (rw e refl) (λ other h. rw (sym (test_heads separator_of same_separator ts other h) ∙ e) refl)
      (all ts)

  from_local : (t : PatternAt written) → IsLocal (pattern_from inside t) (pattern_from deeper t)
  from_local t ts = bind_local (repeated_read t) (repeated_read t) (rest_read inside) (rest_read deeper) ts (repeated_local t ts)
      (λ x rest e. rest_by x rest (separator_of rest) refl)

  data_local : (d : DatatypeName written) (ps : List (List ℕ × List ℕ)) → IsLocal (data_with inside d ps) (data_with deeper d ps)
  unfolding data_with
  data_local d ps ts =
      let except = made_local (primary_with inside) (primary_with deeper) (syntax.data_except d ps) (primary_local inside deeper l self) in
      either_local (follow Minus) refl _ _ (follow_front _ _ except Minus) (pattern_from inside (syntax.data_of d ps))
      (pattern_from deeper (syntax.data_of d ps)) ts (from_local (syntax.data_of d ps) ts)

  -- a pattern after the name of a datatype
  abbrev after_type : Inside → DatatypeName written → List Lexeme → Outcome (PatternAt written)
  after_type inner d us = if begins_segment us then (typed_at d us >>= λ t. pattern_from inner t.0 t.1) else
      (parameters_at us >>= λ ps. data_with inner d ps.0 ps.1)

  after_type_local : (d : DatatypeName written) → IsLocal (after_type inside d) (after_type deeper d)
  after_type_local d ts =
      if_local begins_segment (test_heads begins_segment same_segment) (λ us. typed_at d us >>= λ t. pattern_from inside t.0 t.1) (λ us. parameters_at us
      >>= λ ps. data_with inside d ps.0 ps.1)
      (λ us. typed_at d us >>= λ t. pattern_from deeper t.0 t.1) (λ us. parameters_at us >>= λ ps. data_with deeper d ps.0 ps.1) ts
      (bind_local (typed_at d) (typed_at d) (pattern_from inside) (pattern_from deeper) ts (typed_local d ts) (λ t rest e. from_local t rest))
      (bind_local parameters_at parameters_at (data_with inside d) (data_with deeper d) ts (parameters_local ts) (λ ps rest e. data_local d ps rest))

  any_local : IsLocal (λ us. bare_primary_with inside us >>= λ t. pattern_from inside t.0 t.1)
      (λ us. bare_primary_with deeper us >>= λ t. pattern_from deeper t.0 t.1)
  any_local ts = bind_local (bare_primary_with inside) (bare_primary_with deeper) (pattern_from inside) (pattern_from deeper) ts
      (bare_primary_local inside deeper l self ts) (λ t rest e. from_local t rest)

  data_way : (inner : Inside) (d : DatatypeName written) (us : List Lexeme) → either_way {A = DatatypeName written × List Lexeme}
      (if begins_segment us then None else Some (d, us)) (typed_at d us >>= λ t. pattern_from inner t.0 t.1) (λ d. parameters_at d.1
      >>= λ ps. data_with inner d.0 ps.0 ps.1) ≡ after_type inner d us
  data_way inner d us = way_of (begins_segment us) (d, us) (typed_at d us >>= λ t. pattern_from inner t.0 t.1) (λ d. parameters_at d.1
      >>= λ ps. data_with inner d.0 ps.0 ps.1)

  pub bare_pattern_local : IsLocal (bare_pattern_with inside) (bare_pattern_with deeper)
  unfolding bare_pattern_with bare_primary_with atom_at other_at
  bare_pattern_local [] = stuck_end (bare_pattern_with inside) (bare_pattern_with deeper) refl refl
  bare_pattern_local (cname p w ∷ ts) = let d = syntax.prefixed_type p w in cons_local (bare_pattern_with inside) (bare_pattern_with deeper) _ _ (cname p w) ts
      (data_way inside d) (data_way deeper d) (after_type_local d ts)
  bare_pattern_local (keyword keywords.String s ∷ ts) = let d = syntax.string_type in cons_local (bare_pattern_with inside) (bare_pattern_with deeper) _ _
      (keyword keywords.String s) ts (data_way inside d) (data_way deeper d) (after_type_local d ts)
  bare_pattern_local (keyword keywords.Token s ∷ ts) = let d = syntax.token_type in cons_local (bare_pattern_with inside) (bare_pattern_with deeper) _ _
      (keyword keywords.Token s) ts (data_way inside d) (data_way deeper d) (after_type_local d ts)
  bare_pattern_local (t ∷ ts) = token_local (bare_pattern_with inside) (bare_pattern_with deeper) _ _ t ts (λ us. refl) (λ us. refl) (any_local (t ∷ ts))

  -- the same after an identifier
  pub pattern_behind : (n : List ℕ) → IsLocal (λ us. bare_pattern_with inside (identifier n ∷ us)) (λ us. bare_pattern_with deeper (identifier n ∷ us))
  unfolding bare_pattern_with bare_primary_with atom_at
  pattern_behind n = from_local (syntax.ref n)

  pub pattern_local : IsLocal (pattern_with inside) (pattern_with deeper)
  unfolding pattern_with
  pattern_local = annotated_local (bare_pattern_with inside) (bare_pattern_with deeper) bare_pattern_local
