use Rattle.std.proofs.Common.{◌≡◌, ◌∙◌, sym, subst, true, false}
use Rattle.std.specs.List.{list_any}
use Rattle.rng_model.specs.documents.PyxTrees.{events_of}
use Rattle.rng_deriv_laws.specs.plain.Derivatives.{is_nullable}
use Rattle.rng_deriv_events.specs.views.Basis.{reading_by}
use Rattle.rng_deriv_events.specs.views.Numbers.{tree_of}
use Rattle.rng_model.specs.matching.Outcomes.{IsValidByReading, FailsAt}
use Rattle.rng_deriv_events.specs.views.OpenPositions.{open_position}
use Rattle.rng_deriv_events.specs.views.Positions.{IsKnown}
use Rattle.rng_deriv_events.specs.declared.position.Position.{Position}
use Rattle.rng_deriv_events.proofs.KnownDocuments.{failed, ends_valid, ends_invalid}
use Rattle.rng_deriv_events.proofs.event_matcher.EventMatcher.outcome.Goals as goal

pub returns-then-some_end-clause-outcome : goal.returns-then-some_end-clause-outcome
returns-then-some_end-clause-outcome g c = λ d is known.
    let trees = g.D.Derivatives.trees in
    let basis = g.D.Derivatives.basis in
    let derivatives = c.self.inside.derivatives in
    let now = subst (λ m. IsKnown (reading_by (basis m.0)) (trees m.0) m.1 (events_of d)) (sym c.self.view_is) known in
    let come = subst (λ p. IsKnown (reading_by (basis derivatives)) (trees derivatives) p (events_of d)) c.in-Going.is now in
    let some = subst (λ (p : Position). list_any (λ n. is_nullable (tree_of (trees derivatives) n)) (open_position p).state.now ≡ true) c.deref.ensures
    (subst (λ ns. list_any (λ n. is_nullable (tree_of (trees derivatives) n)) ns ≡ true) c.numbers.ensures
    (sym c.some_end.ensures ∙ c.if-some_end.true)) in
    subst (λ m. IsValidByReading (reading_by (basis m.0)) d) c.self.view_is
    (ends_valid (reading_by (basis derivatives)) (trees derivatives) (open_position c.in-Going.position.value) c.in-Going.line d is come some)

pub returns-else-some_end-clause-outcome : goal.returns-else-some_end-clause-outcome
returns-else-some_end-clause-outcome g c = λ d is known.
    let trees = g.D.Derivatives.trees in
    let basis = g.D.Derivatives.basis in
    let derivatives = c.self.inside.derivatives in
    let now = subst (λ m. IsKnown (reading_by (basis m.0)) (trees m.0) m.1 (events_of d)) (sym c.self.view_is) known in
    let come = subst (λ p. IsKnown (reading_by (basis derivatives)) (trees derivatives) p (events_of d)) c.in-Going.is now in
    let none = subst (λ (p : Position). list_any (λ n. is_nullable (tree_of (trees derivatives) n)) (open_position p).state.now ≡ false) c.deref.ensures
    (subst (λ ns. list_any (λ n. is_nullable (tree_of (trees derivatives) n)) ns ≡ false) c.numbers.ensures
    (sym c.some_end.ensures ∙ c.if-some_end.false)) in
    subst (λ m. ¬ (IsValidByReading (reading_by (basis m.0)) d) × FailsAt (reading_by (basis m.0)) (events_of d) c.in-Going.line) c.self.view_is
    (ends_invalid (reading_by (basis derivatives)) (trees derivatives) (open_position c.in-Going.position.value) c.in-Going.line d is come none)

pub returns-in-Failed-clause-outcome : goal.returns-in-Failed-clause-outcome
returns-in-Failed-clause-outcome g c = λ d is known.
    let trees = g.D.Derivatives.trees in
    let basis = g.D.Derivatives.basis in
    let derivatives = c.self.inside.derivatives in
    let now = subst (λ m. IsKnown (reading_by (basis m.0)) (trees m.0) m.1 (events_of d)) (sym c.self.view_is) known in
    let fails = subst (λ p. IsKnown (reading_by (basis derivatives)) (trees derivatives) p (events_of d)) c.in-Failed.is now in
    subst (λ m. ¬ (IsValidByReading (reading_by (basis m.0)) d) × FailsAt (reading_by (basis m.0)) (events_of d) c.in-Failed.line) c.self.view_is
    (failed (reading_by (basis derivatives)) d c.in-Failed.line is fails.fails)
