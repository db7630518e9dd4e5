-- The rest of a pattern after its first particle, from the particles that are read after it.
use Rattle.std.proofs.Common.{◌≡◌, List, [], ◌∷◌, Some, Ok, Err, refl, sym, ap, ◌∙◌}
use Rattle.rnc_model.specs.declared.token.Sign.{Sign}
use Rattle.rnc_model.specs.grammar.Syntax.{written, PatternAt}
use Rattle.rnc_model.specs.tokens.Cut.{Lexeme}
use Rattle.rng_model.specs.plain.Answers.{Refuses}
use Rattle.rnc_syntax.specs.declared.fault.ReadFault.{ReadFault}
use Rattle.rnc_syntax.specs.declared.fault.ReadFault.TheVariants as read_faults
use Rattle.rnc_syntax.specs.plain.Combinators.{Outcome, ◌>>=◌, follow, many, with_front}
use Rattle.rnc_syntax.specs.plain.Productions.{Inside, joined, particle_with, rest_with, separator_of}
use Rattle.rnc_syntax.specs.views.Fault.{stop_of}

-- the rest of a pattern after its first primary, where a connector follows
pub from_is : (inside : Inside) (read : Outcome (PatternAt written)) (u : PatternAt written) (us : List Lexeme) (s : Sign) → read ≡ Ok (u, us)
    → separator_of us ≡ Some s → (read >>= λ x. rest_with inside x.0 (separator_of x.1) x.1) ≡ rest_with inside u (Some s) us
from_is inside read u us s e is = ap (λ (r : Outcome (PatternAt written)). r >>= λ x. rest_with inside x.0 (separator_of x.1) x.1) e
    ∙ ap (λ o. rest_with inside u o us) is

-- the pattern that joins what is read
abbrev joined_by : Sign → Outcome (List (PatternAt written)) → Outcome (PatternAt written)
joined_by s r = r >>= λ all. Ok (joined s all.0, all.1)

joined_front : (s : Sign) (t : PatternAt written) (r : Outcome (List (PatternAt written))) → joined_by s (with_front (t ∷ []) r)
    ≡ (r >>= λ others. Ok (joined s (t ∷ others.0), others.1))
joined_front s t (Ok x) = refl
joined_front s t (Err e) = refl

module _ (inside : Inside) (s : Sign) (t : PatternAt written) (ts : List Lexeme) where
  rest_is : rest_with inside t (Some s) ts ≡ joined_by s (with_front (t ∷ []) (many (follow s) (particle_with inside) ts))
  unfolding rest_with
  rest_is = sym (joined_front s t (many (follow s) (particle_with inside) ts))

  -- all particles are read
  pub rest_ends : (us : List (PatternAt written)) (rest : List Lexeme) → with_front (t ∷ []) (many (follow s) (particle_with inside) ts) ≡ Ok (us, rest)
      → rest_with inside t (Some s) ts ≡ Ok (joined s us, rest)
  rest_ends us rest is = rest_is ∙ ap (joined_by s) is

  -- a particle cannot be read
  pub rest_stops : (e : ReadFault) → Refuses (stop_of e) (with_front (t ∷ []) (many (follow s) (particle_with inside) ts))
      → Refuses (stop_of e) (rest_with inside t (Some s) ts)
  rest_stops read_faults.Memory is = tt
  rest_stops (read_faults.Stop e) is = rest_is ∙ ap (joined_by s) is
