-- The result of a reader depends only on the tokens it read and on the next one: components, and the inside of brackets
-- at any depth.
use Rattle.std.proofs.Common.{ℕ, zero, suc, ◌≤◌, List, [], ◌∷◌, Option, Some, None, Ok, refl, arith}
use Rattle.rnc_model.specs.declared.token.Keyword.TheVariants as keywords
use Rattle.rnc_model.specs.declared.token.Sign.TheVariants.{Equal, BarEqual, AndEqual, OpenBrace, OpenBracket}
use Rattle.rng_model.specs.declared.method.Method.{Method}
use Rattle.rng_model.specs.declared.method.Method.TheVariants as methods
use Rattle.rnc_model.specs.tokens.Cut.{Lexeme, keyword, identifier, sign}
use Rattle.rnc_model.specs.grammar.Syntax as syntax
use Rattle.rnc_model.specs.grammar.Syntax.{written, ComponentAt}
use Rattle.rnc_model.specs.grammar.Grammar.{Setting, content, override}
use Rattle.rnc_syntax.specs.plain.Combinators.{Outcome, ◌>>=◌, follow}
use Rattle.rnc_syntax.specs.plain.Productions.{annotation_at, mention_at, Inside, contents_with, class_with, pattern_with, method_at, overrides_with}
use Rattle.rnc_syntax.specs.plain.Productions.{component_front, assigned_at, assigned, bare_component_with, component_with, components_with, inside_at}
use Rattle.rnc_syntax.proofs.Locality.{IsLocal, ok_local, deep_local, stuck_end, stuck_front, cons_local, bind_local}
use Rattle.rnc_syntax.proofs.Locality.Fronts.{kept_local, FrontAt, closes, opens, follow_heads}
use Rattle.rnc_syntax.proofs.Locality.Items.{many_local, many_behind}
use Rattle.rnc_syntax.proofs.Locality.Annotations.{opened_local}
use Rattle.rnc_syntax.proofs.Locality.Literals.{made_local, mention_local}
use Rattle.rnc_syntax.proofs.Locality.Classes.{class_local}
use Rattle.rnc_syntax.proofs.Locality.Primaries.{Locals, contents_local}
use Rattle.rnc_syntax.proofs.Locality.Patterns.{pattern_local}

method_local : IsLocal method_at method_at
unfolding method_at
method_local [] = stuck_end method_at method_at refl refl
method_local (sign Equal ∷ ts) = cons_local method_at method_at _ _ (sign Equal) ts (λ us. refl) (λ us. refl) (ok_local methods.Plain ts)
method_local (sign BarEqual ∷ ts) = cons_local method_at method_at _ _ (sign BarEqual) ts (λ us. refl) (λ us. refl) (ok_local methods.Choice ts)
method_local (sign AndEqual ∷ ts) = cons_local method_at method_at _ _ (sign AndEqual) ts (λ us. refl) (λ us. refl) (ok_local methods.Interleave ts)
method_local (t ∷ ts) = stuck_front method_at method_at t ts (λ us. refl) (λ us. refl)

-- a start or a define, after its name
abbrev behind_name : Inside → Option (List ℕ) → List Lexeme → Outcome (ComponentAt written)
behind_name inner n us = ◌>>=◌ {A = (Option (List ℕ) × Method) × List Lexeme} (method_at us >>= λ m. Ok ((n, m.0), m.1)) (λ x. pattern_with inner x.1
    >>= λ t. Ok (assigned x.0.0 x.0.1 t.0, t.1))

-- an include, after its keyword
abbrev behind_include : Inside → ℕ → List Lexeme → Outcome (ComponentAt written)
behind_include inner number us = mention_at number us >>= λ m. overrides_with inner m.1 >>= λ cs. Ok (syntax.include m.0 (syntax.components_of cs.0), cs.1)

module _ (inside deeper : Inside) (l : Locals inside deeper) (self : Locals deeper deeper) where
  name_local : (n : Option (List ℕ)) → IsLocal (behind_name inside n) (behind_name deeper n)
  name_local n ts =
      let method = made_local method_at method_at (λ m. (n, m)) method_local in
      bind_local (λ us. method_at us >>= λ m. Ok ((n, m.0), m.1)) (λ us. method_at us >>= λ m. Ok ((n, m.0), m.1))
      (λ x us. pattern_with inside us >>= λ t. Ok (assigned x.0 x.1 t.0, t.1)) (λ x us. pattern_with deeper us >>= λ t. Ok (assigned x.0 x.1 t.0, t.1)) ts
      (method ts)
      (λ x rest e. made_local (pattern_with inside) (pattern_with deeper) (assigned x.0 x.1) (pattern_local inside deeper l self) rest)

  overrides_local : IsLocal (overrides_with inside) (overrides_with deeper)
  unfolding overrides_with
  overrides_local ts =
      kept_local (follow OpenBrace) (follow_heads OpenBrace) (λ us. Ok ([], us)) (λ us. Ok ([], us)) (contents_with inside override)
      (contents_with deeper override) ts (ok_local [] ts) (contents_local inside deeper l self override ts)

  include_local : (number : ℕ) → IsLocal (behind_include inside number) (behind_include deeper number)
  include_local number ts =
      bind_local (mention_at number) (mention_at number) (λ m us. overrides_with inside us >>= λ cs. Ok (syntax.include m (syntax.components_of cs.0), cs.1))
      (λ m us. overrides_with deeper us >>= λ cs. Ok (syntax.include m (syntax.components_of cs.0), cs.1)) ts
      (mention_local number ts) (λ m rest e. made_local (overrides_with inside) (overrides_with deeper) (λ cs. syntax.include m (syntax.components_of cs))
      overrides_local rest)

  div_local : (w : Setting) → IsLocal (λ us. contents_with inside w us >>= λ cs. Ok (syntax.div (syntax.components_of cs.0), cs.1))
      (λ us. contents_with deeper w us >>= λ cs. Ok (syntax.div (syntax.components_of cs.0), cs.1))
  div_local w = made_local (contents_with inside w) (contents_with deeper w) (λ cs. syntax.div (syntax.components_of cs))
      (contents_local inside deeper l self w)

  pub bare_component_local : (w : Setting) → IsLocal (bare_component_with inside w) (bare_component_with deeper w)
  unfolding bare_component_with assigned_at
  bare_component_local w [] = stuck_end (bare_component_with inside w) (bare_component_with deeper w) refl refl
  bare_component_local w (identifier n ∷ ts) = cons_local (bare_component_with inside w) (bare_component_with deeper w) _ _ (identifier n) ts (λ us. refl)
      (λ us. refl) (name_local (Some n) ts)
  bare_component_local w (keyword keywords.Start s ∷ ts) = cons_local (bare_component_with inside w) (bare_component_with deeper w) _ _
      (keyword keywords.Start s) ts (λ us. refl) (λ us. refl) (name_local None ts)
  bare_component_local w (keyword keywords.Div s ∷ ts) = cons_local (bare_component_with inside w) (bare_component_with deeper w) _ _
      (keyword keywords.Div s) ts (λ us. refl) (λ us. refl) (div_local w ts)
  bare_component_local content (keyword keywords.Include s ∷ ts) = cons_local (bare_component_with inside content) (bare_component_with deeper content) _ _
      (keyword keywords.Include s) ts (λ us. refl) (λ us. refl) (include_local s.number ts)
  bare_component_local w (t ∷ ts) = stuck_front (bare_component_with inside w) (bare_component_with deeper w) t ts (λ us. refl) (λ us. refl)

  -- the same after an identifier
  pub bare_component_named : (w : Setting) (n : List ℕ) → IsLocal (λ us. bare_component_with inside w (identifier n ∷ us))
      (λ us. bare_component_with deeper w (identifier n ∷ us))
  unfolding bare_component_with assigned_at
  bare_component_named w n = name_local (Some n)

  pub component_part : (w : Setting) (t : Lexeme) → FrontAt (component_front w) (component_with inside w) (component_with deeper w) t
  unfolding component_with annotation_at bare_component_with assigned_at
  component_part w (identifier n) = opens (λ us. identifier n ∷ us) (λ us. refl) (name_local (Some n))
  component_part w (keyword keywords.Start s) = opens (λ us. keyword keywords.Start s ∷ us) (λ us. refl) (name_local None)
  component_part w (keyword keywords.Div s) = opens (λ us. keyword keywords.Div s ∷ us) (λ us. refl) (div_local w)
  component_part content (keyword keywords.Include s) = opens (λ us. keyword keywords.Include s ∷ us) (λ us. refl) (include_local s.number)
  component_part override (keyword keywords.Include s) = closes (λ us. refl)
  component_part w (sign OpenBracket) = opens (λ us. sign OpenBracket ∷ us) (λ us. refl)
      (opened_local (bare_component_with inside w) (bare_component_with deeper w) (bare_component_local w))
  component_part w t = closes (λ us. refl)

module _ (inside deeper : Inside) (l : Locals inside deeper) (self : Locals deeper deeper) where
  pub components_local : (w : Setting) → IsLocal (components_with inside w) (components_with deeper w)
  unfolding components_with
  components_local w = many_local (component_front w) refl (component_with inside w) (component_with deeper w) (component_part inside deeper l self w)
      (component_part deeper deeper self self w)

  -- the same after an identifier
  pub components_behind : (w : Setting) (n : List ℕ) → IsLocal (λ us. components_with inside w (identifier n ∷ us))
      (λ us. components_with deeper w (identifier n ∷ us))
  unfolding components_with component_with annotation_at bare_component_with assigned_at
  components_behind w n =
      many_behind (component_front w) refl (component_with inside w) (component_with deeper w) (component_part inside deeper l self w)
      (component_part deeper deeper self self w) (identifier n) (λ us. identifier n ∷ us) (λ us. refl) (name_local inside deeper l self (Some n))

-- ---- every depth

abbrev one_level : Inside → Inside
one_level inside = record { class = class_with inside.class; pattern = pattern_with inside; components = components_with inside }

level_local : (inside deeper : Inside) → Locals inside deeper → Locals deeper deeper → Locals (one_level inside) (one_level deeper)
level_local inside deeper l self = record {
  class = class_local inside.class deeper.class l.class self.class;
  pattern = pattern_local inside deeper l self;
  components = components_local inside deeper l self;
}

nothing_local : (deeper : Inside) → Locals (inside_at zero) deeper
unfolding inside_at
nothing_local deeper = record { class = deep_local deeper.class; pattern = deep_local deeper.pattern; components = λ w. deep_local (deeper.components w) }

-- the inside of brackets is read alike at one depth
pub self_local : (n : ℕ) → Locals (inside_at n) (inside_at n)
unfolding inside_at
self_local zero = nothing_local (inside_at zero)
self_local (suc n) = level_local (inside_at n) (inside_at n) (self_local n) (self_local n)

-- and at a greater depth, if it is not too deep
pub inside_local : (n m : ℕ) → n ≤ m → Locals (inside_at n) (inside_at m)
unfolding inside_at
inside_local zero m le = nothing_local (inside_at m)
inside_local (suc n) zero le = absurd (omega (arith, le))
inside_local (suc n) (suc m) le = level_local (inside_at n) (inside_at m) (inside_local n m (omega (arith, le))) (self_local m)
