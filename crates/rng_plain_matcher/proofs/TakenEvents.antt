-- What a matcher knows after an event, given whether it has failed before.
use Rattle.std.proofs.Common.{◌≡◌, ◌∙◌, true, false, ap, sym}
use Rattle.rng_model.specs.documents.PyxTrees.{Event}
use Rattle.rng_model.specs.matching.GrammarMatching.{reading_of}
use Rattle.rng_deriv_laws.specs.plain.Events.{Matcher, step}
use Rattle.rng_deriv_laws.specs.plain.States.{is_never}
use Rattle.rng_plain_matcher.specs.views.Matchers.{Matching, after_event, failing}

module _ (m : Matching) (e : Event) (p : Matcher) (is : p ≡ step (reading_of m.grammar) m.position e.kind) where
  pub failed_before : m.has_failed ≡ true
      → record { grammar = m.grammar; position = p; line = m.line; has_failed = m.has_failed } ≡ after_event m e
  failed_before h =
      ap (λ b. record { grammar = m.grammar; position = p; line = m.line; has_failed = b }) h
      ∙ ap (failing true m e) is
      ∙ ap (λ b. failing b m e (step (reading_of m.grammar) m.position e.kind)) (sym h)

  pub not_failed_before : m.has_failed ≡ false
      → record { grammar = m.grammar; position = p; line = e.line; has_failed = is_never p.state } ≡ after_event m e
  not_failed_before h = ap (failing false m e) is ∙ ap (λ b. failing b m e (step (reading_of m.grammar) m.position e.kind)) (sym h)
