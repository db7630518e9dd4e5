-- Tests find what is written in the grammar at a place, and what it defines.
use Rattle.std.proofs.Common.{◌≡◌, refl, sym, subst, ℕ, List, Bool, true, false, not, Option, Some, None}
use Rattle.std.proofs.lemmas.Bool.{not_from_false}
use Rattle.rng_model.specs.names.Lists.{Among}
use Rattle.rng_model.specs.schema.Patterns.{Place, Pattern}
use Rattle.rng_model.specs.schema.Schema.{Schema, Component, HasComponent, IsWrittenAt}
use Rattle.rng_model.specs.schema.SchemaClauses.{IsDefinedAt}
use Rattle.rng_schema_checks.specs.plain.GrammarTests.{components_at, components_or_none, defines, defines_if, is_named, some_has}
use Rattle.rng_schema_checks.specs.plain.PatternTests.{PatternTest, has_written, lacks, passes}
use Rattle.rng_schema_checks.proofs.ListTests.{any_found, any_met, same_name-found, same_name-met}
use Rattle.rng_schema_checks.proofs.WrittenPatterns.{written_found, written_met}

pub refuted : (b : Bool) → ¬ (b ≡ true) → b ≡ false
refuted true n = absurd (n refl)
refuted false n = refl

pub not_both : (b : Bool) → b ≡ true → not b ≡ true → ⊥
not_both true t f = cc
not_both false t f = cc

module _ (s : Schema) (x : Place) where
  pub in_grammar : {c : Component} → Among c (components_at s x) → HasComponent s x c
  in_grammar {c} a = by_components (s.components x) refl a where
    by_components : (o : Option (List Component)) → s.components x ≡ o → Among c (components_or_none o) → HasComponent s x c
    by_components None e a = elim a [ ]
    by_components (Some cs) e a = record { components = cs; there = e; among = a }

  pub at_grammar : {c : Component} → HasComponent s x c → Among c (components_at s x)
  at_grammar {c} h = subst (λ o. Among c (components_or_none o)) (sym h.there) h.among

  -- ---- patterns

  pub pattern_found : (t : PatternTest) → some_has t (components_at s x) ≡ true → (q : Pattern) × IsWrittenAt s x q × (passes t q ≡ true)
  pattern_found t e =
      let c = any_found (λ c. has_written t c.pattern) (components_at s x) e in
      let q = written_found t c.0.pattern c.2 in
      (q.0, record { component = c.0; there = in_grammar c.1; written = q.1 }, q.2)

  pub pattern_met : (t : PatternTest) {q : Pattern} → IsWrittenAt s x q → passes t q ≡ true → some_has t (components_at s x) ≡ true
  pattern_met t w e = any_met (λ c. has_written t c.pattern) (at_grammar w.there) (written_met t w.written e)

  -- ---- definitions

  pub defined_found : (y : List ℕ) → defines s x y ≡ true → IsDefinedAt s x y
  defined_found y e =
      let c = any_found (is_named (Some y)) (components_at s x) e in (c.0, in_grammar c.1, sym (same_name-found (Some y) c.0.name c.2))

  pub defined_met : (y : List ℕ) → IsDefinedAt s x y → defines s x y ≡ true
  defined_met y d = any_met (is_named (Some y)) (at_grammar d.1) (same_name-met (Some y) d.0.name (sym d.2))

  pub not_defined : (y : List ℕ) → lacks (defines s x) y ≡ true → ¬ (IsDefinedAt s x y)
  not_defined y e d = not_both (defines s x y) (defined_met y d) e

  pub lacks_it : (y : List ℕ) → ¬ (IsDefinedAt s x y) → lacks (defines s x) y ≡ true
  lacks_it y n = not_from_false (defines s x y) (refuted (defines s x y) (λ e. n (defined_found y e)))

-- the grammar at this place, if there is a place, does not define the name
module _ (s : Schema) (y : List ℕ) where
  abbrev pub IsLackedAround : Option Place → Type 0
  IsLackedAround o = (z : Place) → o ≡ Some z → ¬ (IsDefinedAt s z y)

  pub lacked_around : (o : Option Place) → lacks (defines_if s o) y ≡ true → IsLackedAround o
  lacked_around None e z is d = absurd (cc)
  lacked_around (Some x) e z is d = let same : x ≡ z = cc in not_defined s x y e (subst (λ z. IsDefinedAt s z y) (sym same) d)

  pub lacks_around : (o : Option Place) → IsLackedAround o → lacks (defines_if s o) y ≡ true
  lacks_around None n = refl
  lacks_around (Some x) n = lacks_it s x y (n x refl)
