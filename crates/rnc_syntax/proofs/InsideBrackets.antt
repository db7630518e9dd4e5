-- Reading inside brackets, by how many more brackets may be open.
use Rattle.std.proofs.Common.{◌≡◌, ℕ, zero, suc, ◌-◌, ◌<◌, List, Err, refl, arith, sub-one}
use Rattle.rnc_syntax.specs.declared.fault.Stop.TheVariants.{TooDeep}
use Rattle.rnc_model.specs.grammar.Grammar.{Setting}
use Rattle.rnc_model.specs.tokens.Cut.{Lexeme}
use Rattle.rnc_syntax.specs.plain.Productions.{inside_at, class_with, pattern_with, components_with}

pub class_too_deep : (n : ℕ) (ts : List Lexeme) → n ≡ 0 → (inside_at n).class ts ≡ Err TooDeep
unfolding inside_at
class_too_deep zero ts e = refl
class_too_deep (suc n) ts e = absurd (omega (arith, e))

pub class_step : (n : ℕ) (ts : List Lexeme) → 0 < n → (inside_at n).class ts ≡ class_with (inside_at (n - 1)).class ts
unfolding inside_at
class_step zero ts some = absurd (omega (arith, some))
class_step (suc n) ts some = rw sub-one refl

pub pattern_too_deep : (n : ℕ) (ts : List Lexeme) → n ≡ 0 → (inside_at n).pattern ts ≡ Err TooDeep
unfolding inside_at
pattern_too_deep zero ts e = refl
pattern_too_deep (suc n) ts e = absurd (omega (arith, e))

pub pattern_step : (n : ℕ) (ts : List Lexeme) → 0 < n → (inside_at n).pattern ts ≡ pattern_with (inside_at (n - 1)) ts
unfolding inside_at
pattern_step zero ts some = absurd (omega (arith, some))
pattern_step (suc n) ts some = rw sub-one refl

pub components_too_deep : (n : ℕ) (w : Setting) (ts : List Lexeme) → n ≡ 0 → (inside_at n).components w ts ≡ Err TooDeep
unfolding inside_at
components_too_deep zero w ts e = refl
components_too_deep (suc n) w ts e = absurd (omega (arith, e))

pub components_step : (n : ℕ) (w : Setting) (ts : List Lexeme) → 0 < n → (inside_at n).components w ts ≡ components_with (inside_at (n - 1)) w ts
unfolding inside_at
components_step zero w ts some = absurd (omega (arith, some))
components_step (suc n) w ts some = rw sub-one refl

-- components inside brackets
pub ruleset components_inside = (components_step, components_too_deep)
