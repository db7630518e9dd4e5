-- A pattern after its first primary: a datatype is read like any other primary, and what it excludes after that.
use Rattle.std.proofs.Common.{◌≡◌, ℕ, Bool, true, false, if◌then◌else◌, List, [], ◌∷◌, Option, Some, None, Ok, Err, refl, ap, ◌∙◌}
use Rattle.rnc_model.specs.declared.token.Keyword.TheVariants as keywords
use Rattle.rnc_model.specs.declared.token.Sign.TheVariants.{Minus}
use Rattle.rnc_model.specs.grammar.Syntax as syntax
use Rattle.rnc_model.specs.grammar.Syntax.{written, DatatypeName, PatternAt}
use Rattle.rnc_model.specs.tokens.Cut.{Lexeme, keyword, cname}
use Rattle.rng_model.specs.plain.Answers.{Refuses}
use Rattle.rnc_syntax.specs.declared.fault.ReadFault.{ReadFault}
use Rattle.rnc_syntax.specs.declared.fault.ReadFault.TheVariants as read_faults
use Rattle.rnc_syntax.specs.plain.Combinators.{Outcome, ◌>>=◌, either_way, follow}
use Rattle.rnc_syntax.specs.plain.DataParts.{excluded_with, exclusion_front}
use Rattle.rnc_syntax.specs.plain.Productions.{Inside, atom_at, bare_pattern_with, bare_primary_with, begins_segment, data_with, named_data_with}
use Rattle.rnc_syntax.specs.plain.Productions.{parameters_at, pattern_from, typed_at}
use Rattle.rnc_syntax.specs.views.Fault.{stop_of}

-- a pattern after its first primary, which begins at ts
abbrev behind_primary : Inside → List Lexeme → PatternAt written → List Lexeme → Outcome (PatternAt written)
behind_primary inside ts t us = either_way (exclusion_front ts us) (pattern_from inside t us) (excluded_with inside t)

-- a datatype with its parameters
abbrev data_read : DatatypeName written → List (List ℕ × List ℕ) × List Lexeme → Outcome (PatternAt written)
data_read d ps = Ok (syntax.data_of d ps.0, ps.1)

-- the name of a datatype, unless a segment follows
abbrev unless_segment : Bool → DatatypeName written → List Lexeme → Option (DatatypeName written × List Lexeme)
unless_segment b d ts = if b then None else Some (d, ts)

module _ (inside : Inside) where
  data_is : (d : DatatypeName written) (r : Outcome (List (List ℕ × List ℕ))) → (r >>= λ ps. data_with inside d ps.0 ps.1)
      ≡ (r >>= data_read d >>= λ t. either_way (follow Minus t.1) (pattern_from inside t.0 t.1) (excluded_with inside t.0))
  unfolding data_with
  data_is d (Ok x) = refl
  data_is d (Err e) = refl

  -- a datatype or a value, by whether a segment follows
  typed_is : (d : DatatypeName written) (ts : List Lexeme) (b : Bool) → begins_segment ts ≡ b
      → either_way (unless_segment b d ts) (typed_at d ts >>= λ t. pattern_from inside t.0 t.1) (λ x. named_data_with inside x.0 x.1)
      ≡ (typed_at d ts >>= λ t. either_way (either_way (unless_segment b d ts) None (λ x. follow Minus t.1)) (pattern_from inside t.0 t.1)
      (excluded_with inside t.0))
  unfolding typed_at
  typed_is d ts true e = refl
  typed_is d ts false e = rw e (data_is d (parameters_at ts))

  -- a datatype is read like any other primary
  pattern_is : (ts : List Lexeme) → bare_pattern_with inside ts ≡ (bare_primary_with inside ts >>= λ t. behind_primary inside ts t.0 t.1)
  unfolding bare_pattern_with bare_primary_with atom_at
  pattern_is [] = refl
  pattern_is (cname p l ∷ ts) = typed_is (syntax.prefixed_type p l) ts (begins_segment ts) refl
  pattern_is (keyword keywords.String s ∷ ts) = typed_is syntax.string_type ts (begins_segment ts) refl
  pattern_is (keyword keywords.Token s ∷ ts) = typed_is syntax.token_type ts (begins_segment ts) refl
  pattern_is (_ ∷ ts) = refl

  -- a pattern after its first primary
  behind_is : (ts us : List Lexeme) (t : PatternAt written) → bare_primary_with inside ts ≡ Ok (t, us)
      → bare_pattern_with inside ts ≡ behind_primary inside ts t us
  behind_is ts us t e = pattern_is ts ∙ ap (λ (r : Outcome (PatternAt written)). r >>= λ x. behind_primary inside ts x.0 x.1) e

  -- a pattern whose first primary cannot be read
  pub primary_stops : (ts : List Lexeme) (e : ReadFault) → Refuses (stop_of e) (bare_primary_with inside ts)
      → Refuses (stop_of e) (bare_pattern_with inside ts)
  primary_stops ts read_faults.Memory is = tt
  primary_stops ts (read_faults.Stop s) is = pattern_is ts ∙ ap (λ (r : Outcome (PatternAt written)). r >>= λ x. behind_primary inside ts x.0 x.1) is

  -- a pattern that goes on after its first primary
  pub goes_on_behind : (ts us : List Lexeme) (t : PatternAt written) → bare_primary_with inside ts ≡ Ok (t, us) → exclusion_front ts us ≡ None
      → bare_pattern_with inside ts ≡ pattern_from inside t us
  goes_on_behind ts us t e none = behind_is ts us t e
      ∙ ap (λ (o : Option (List Lexeme)). either_way o (pattern_from inside t us) (excluded_with inside t)) none

  -- a datatype with an exclusion
  pub excludes_behind : (ts us vs : List Lexeme) (t : PatternAt written) → bare_primary_with inside ts ≡ Ok (t, us) → exclusion_front ts us ≡ Some vs
      → bare_pattern_with inside ts ≡ excluded_with inside t vs
  excludes_behind ts us vs t e some = behind_is ts us t e
      ∙ ap (λ (o : Option (List Lexeme)). either_way o (pattern_from inside t us) (excluded_with inside t)) some
