use Rattle.std.proofs.Common.{◌≡◌, ℕ, List, [], ◌∷◌, ◌++◌, OnOk, subst}
use Rattle.rng_model.specs.datatypes.Texts.{is_blank}
use Rattle.rng_model.specs.documents.PyxTrees.{Event, a_string}
use Rattle.rng_deriv_events.specs.views.Inputs.{event_at}
use Rattle.rng_deriv.specs.views.Matchers.{Knows, Matching, matching_of}
use Rattle.rng_deriv.proofs.Matchers.{any_goes_on, same_grammar, same_judge, stays_failed}
use Rattle.rng_deriv.proofs.matcher.Matcher.take_any_text.Goals as goal

pub returns-clause-stands : goal.returns-clause-stands
returns-clause-stands c = any_goes_on (matching_of c.self.inside.matcher) c.args.self.now c.self.view_is (matching_of c.take_any_text.new.self) c.args.line
    c.args.blank c.take_any_text.result (same_grammar c.take_any_text.result c.take_any_text.new.self.0.0 c.self.inside.matcher.0.0 c.take_any_text.ensures.basis)
    c.take_any_text.ensures.known c.take_any_text.ensures.failed c.take_any_text.ensures.mode c.take_any_text.ensures.kept

pub returns-clause-knows : goal.returns-clause-knows
returns-clause-knows c = subst (λ (m : Matching). OnOk c.take_any_text.result ((text : List ℕ) (es : List Event) → is_blank text ≡ c.args.blank → Knows m es
    → Knows (matching_of c.take_any_text.new.self) (es ++ event_at c.args.line (a_string text) ∷ []))) c.self.view_is c.take_any_text.ensures.known

pub returns-clause-grammar : goal.returns-clause-grammar
returns-clause-grammar c = same_judge (matching_of c.self.inside.matcher) c.args.self.now c.self.view_is (matching_of c.take_any_text.new.self)
    c.take_any_text.result
    (same_grammar c.take_any_text.result c.take_any_text.new.self.0.0 c.self.inside.matcher.0.0 c.take_any_text.ensures.basis)

pub returns-clause-failed : goal.returns-clause-failed
returns-clause-failed c = stays_failed (matching_of c.self.inside.matcher) c.args.self.now c.self.view_is (matching_of c.take_any_text.new.self)
    c.take_any_text.result c.take_any_text.ensures.failed
