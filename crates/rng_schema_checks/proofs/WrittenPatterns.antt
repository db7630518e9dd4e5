-- The test of a pattern passes if it passes for a pattern that is written in it.
use Rattle.std.proofs.Common.{◌≡◌, inl, inr, Bool, true, ◌||◌}
use Rattle.std.proofs.lemmas.Bool.{or_cases, or_left, or_right}
use Rattle.rng_model.proofs.Truths.{no_truth}
use Rattle.rng_model.specs.schema.Patterns.{Pattern, Patterns, not_allowed, empty, text, element, attribute, list, data_of, data_except, value, mixed}
use Rattle.rng_model.specs.schema.Patterns.{optional, zero_or_more, one_or_more, joined, ref, parent_ref, grammar, external, no_patterns, pattern_and}
use Rattle.rng_model.specs.schema.Patterns.{IsWrittenIn, IsWrittenAmong, itself, in_element, in_attribute, in_list, in_except, in_mixed, in_optional}
use Rattle.rng_model.specs.schema.Patterns.{in_zero_or_more, in_one_or_more, in_first, in_second, in_another, in_external, in_this, in_later}
use Rattle.rng_schema_checks.specs.plain.PatternTests.{PatternTest, passes, has_written, some_has_written}

module _ (t : PatternTest) where
  -- a pattern that passes is written in this one
  abbrev pub HasWritten : Pattern → Type 0
  HasWritten p = (q : Pattern) × IsWrittenIn q p × (passes t q ≡ true)

  abbrev HasWrittenAmong : Patterns → Type 0
  HasWrittenAmong ps = (q : Pattern) × IsWrittenAmong q ps × (passes t q ≡ true)

  around : {p whole : Pattern} → ((q : Pattern) → IsWrittenIn q p → IsWrittenIn q whole) → HasWritten p → HasWritten whole
  around lift found = (found.0, lift found.0 found.1, found.2)

  either : {p whole : Pattern} (b : Bool) → ((q : Pattern) → IsWrittenIn q p → IsWrittenIn q whole) → (b ≡ true → passes t whole ≡ true)
      → (has_written t p ≡ true → HasWritten p) → (b || has_written t p) ≡ true → HasWritten whole
  either {p} {whole} b lift this inside e = elim (or_cases b (has_written t p) e) [
    | inl a ↦ (whole, itself, this a)
    | inr h ↦ around lift (inside h)
  ]

  mutual
    pub written_found : (p : Pattern) → has_written t p ≡ true → HasWritten p
    written_found not_allowed e = no_truth e
    written_found empty e = no_truth e
    written_found text e = no_truth e
    written_found (element c p) e = either (t.element c) (λ q. in_element) (λ a. a) (written_found p) e
    written_found (attribute c p) e = either (t.attribute c) (λ q. in_attribute) (λ a. a) (written_found p) e
    written_found (list p) e = around (λ q. in_list) (written_found p e)
    written_found (data_of d) e = (data_of d, itself, e)
    written_found (data_except d p) e = either (t.datatype d) (λ q. in_except) (λ a. a) (written_found p) e
    written_found (value library name v) e = (value library name v, itself, e)
    written_found (mixed p) e = around (λ q. in_mixed) (written_found p e)
    written_found (optional p) e = around (λ q. in_optional) (written_found p e)
    written_found (zero_or_more p) e = around (λ q. in_zero_or_more) (written_found p e)
    written_found (one_or_more p) e = around (λ q. in_one_or_more) (written_found p e)
    written_found (joined k p q ps) e = elim (or_cases (has_written t p) (has_written t q || some_has_written t ps) e) [
      | inl first ↦ around (λ q. in_first) (written_found p first)
      | inr more ↦ elim (or_cases (has_written t q) (some_has_written t ps) more) [
        | inl second ↦ around (λ q. in_second) (written_found q second)
        | inr later ↦ let found = some_written_found ps later in (found.0, in_another found.1, found.2)
      ]
    ]
    written_found (ref y) e = (ref y, itself, e)
    written_found (parent_ref y) e = (parent_ref y, itself, e)
    written_found (grammar z) e = no_truth e
    written_found (external p) e = around (λ q. in_external) (written_found p e)

    some_written_found : (ps : Patterns) → some_has_written t ps ≡ true → HasWrittenAmong ps
    some_written_found no_patterns e = no_truth e
    some_written_found (pattern_and p ps) e = elim (or_cases (has_written t p) (some_has_written t ps) e) [
      | inl first ↦ let found = written_found p first in (found.0, in_this found.1, found.2)
      | inr later ↦ let found = some_written_found ps later in (found.0, in_later found.1, found.2)
    ]

  alone : (p : Pattern) → passes t p ≡ true → has_written t p ≡ true
  alone not_allowed e = e
  alone empty e = e
  alone text e = e
  alone (element c p) e = or_left (t.element c) (has_written t p) e
  alone (attribute c p) e = or_left (t.attribute c) (has_written t p) e
  alone (list p) e = no_truth e
  alone (data_of d) e = e
  alone (data_except d p) e = or_left (t.datatype d) (has_written t p) e
  alone (value library name v) e = e
  alone (mixed p) e = no_truth e
  alone (optional p) e = no_truth e
  alone (zero_or_more p) e = no_truth e
  alone (one_or_more p) e = no_truth e
  alone (joined k p q ps) e = no_truth e
  alone (ref y) e = e
  alone (parent_ref y) e = e
  alone (grammar z) e = e
  alone (external p) e = no_truth e

  mutual
    pub written_met : {q p : Pattern} → IsWrittenIn q p → passes t q ≡ true → has_written t p ≡ true
    written_met {q = q} itself e = alone q e
    written_met (in_element {c} {p} i) e = or_right (t.element c) (has_written t p) (written_met i e)
    written_met (in_attribute {c} {p} i) e = or_right (t.attribute c) (has_written t p) (written_met i e)
    written_met (in_list i) e = written_met i e
    written_met (in_except {d} {p} i) e = or_right (t.datatype d) (has_written t p) (written_met i e)
    written_met (in_mixed i) e = written_met i e
    written_met (in_optional i) e = written_met i e
    written_met (in_zero_or_more i) e = written_met i e
    written_met (in_one_or_more i) e = written_met i e
    written_met (in_first {k} {p} {r} {ps} i) e = or_left (has_written t p) (has_written t r || some_has_written t ps) (written_met i e)
    written_met (in_second {k} {p} {r} {ps} i) e =
        or_right (has_written t p) (has_written t r || some_has_written t ps) (or_left (has_written t r) (some_has_written t ps) (written_met i e))
    written_met (in_another {k} {p} {r} {ps} i) e =
        or_right (has_written t p) (has_written t r || some_has_written t ps) (or_right (has_written t r) (some_has_written t ps) (written_among_met i e))
    written_met (in_external i) e = written_met i e

    written_among_met : {q : Pattern} {ps : Patterns} → IsWrittenAmong q ps → passes t q ≡ true → some_has_written t ps ≡ true
    written_among_met (in_this {p} {ps} i) e = or_left (has_written t p) (some_has_written t ps) (written_met i e)
    written_among_met (in_later {p} {ps} i) e = or_right (has_written t p) (some_has_written t ps) (written_among_met i e)
