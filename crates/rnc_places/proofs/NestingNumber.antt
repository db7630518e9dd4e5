-- The first bracket that is one too many.
use Rattle.std.proofs.Common.{◌≡◌, ℕ, zero, suc, ◌+◌, ◌<◌, List, arith, subst}
use Rattle.rnc_model.specs.grammar.Sentence.{nesting_limit}
use Rattle.rnc_model.specs.loading.FaultPlaces.{IsTooDeepAt}
use Rattle.rnc_model.specs.tokens.Cut.{Lexeme}
use Rattle.rnc_syntax.proofs.NestingSteps.{IsFirst}

-- `before` tokens come before `rest`; if the k-th token of `rest` is the first that is too deep there, it is the first
-- of all
abbrev pub Leads : List Lexeme → ℕ → ℕ → ℕ → List Lexeme → Type 0
Leads all opened closed before rest = (k : ℕ) → IsFirst opened closed rest k → IsTooDeepAt all (before + k)

pub leads_from : (ts : List Lexeme) (k : ℕ) → IsFirst 0 0 ts k → IsTooDeepAt ts (0 + k)
leads_from ts zero h = let q : 0 + 0 + nesting_limit < 0 + 0 = h.exceeds in absurd (omega (arith, q))
leads_from ts (suc k) h =
    let e : suc k ≡ 0 + suc k = omega arith in
    subst (IsTooDeepAt ts) e
    (record { positive = omega arith; exceeds = omega (arith, h.exceeds); first = λ j less. omega (arith, h.first j less) })
