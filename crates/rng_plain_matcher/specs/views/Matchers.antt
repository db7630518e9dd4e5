-- A matcher, as its callers see it.
use Rattle.std.specs.Prelude.{◌≡◌, ◌⊎◌, ℕ, List, [], ◌++◌, All, Bool, true, false}
use Rattle.rng_model.specs.simple.Table.{Table, grammar_of}
use Rattle.rng_model.specs.documents.PyxTrees.{Event}
use Rattle.rng_model.specs.matching.GrammarMatching.{reading_of}
use Rattle.rng_model.specs.matching.Outcomes.{KnowsName, FailsAt}
use Rattle.rng_model.specs.restrictions.RestrictionFaults.{BreaksNone}
use Rattle.rng_deriv_laws.specs.plain.Events as laws
use Rattle.rng_deriv_laws.specs.plain.States.{is_never}
use Rattle.rng_plain_matcher.specs.declared.matcher.PlainMatcher.{PlainMatcher}
use Rattle.rng_plain_matcher.specs.views.States.{position_of}

-- A grammar, and what is known of a document by it: where the matcher is, whether no continuation is valid, and the line
-- of the last event, or of the first one after which none was.
pub record Matching : Type 0 where
  pub grammar : Table
  pub position : laws.Matcher
  pub line : ℕ
  pub has_failed : Bool

abbrev pub grammar_in : PlainMatcher → Table
grammar_in m = m.context.grammar.now

abbrev pub matching_of : PlainMatcher → Matching
matching_of m = record { grammar = grammar_in m; position = position_of m.position; line = m.line; has_failed = m.has_failed }

-- the matcher at this position after an event, given whether it has failed before
abbrev pub failing : Bool → Matching → Event → laws.Matcher → Matching
failing true m e p = record { grammar = m.grammar; position = p; line = m.line; has_failed = true }
failing false m e p = record { grammar = m.grammar; position = p; line = e.line; has_failed = is_never p.state }

abbrev pub after_event : Matching → Event → Matching
after_event m e = failing m.has_failed m e (laws.step (reading_of m.grammar) m.position e.kind)

-- the first line after which nothing is left, or that no event has failed
abbrev pub Tells : Bool → Matching → List Event → Type 0
Tells true m es = FailsAt (reading_of m.grammar) es m.line
Tells false m es = All (λ e. KnowsName (grammar_of m.grammar) e.kind) es × ((es ≡ []) ⊎ (is_never m.position.state ≡ false))

-- what is known represents these events, and the grammar obeys the restrictions
pub record Knows (m : Matching) (es : List Event) : Type 0 where
  pub obeys : BreaksNone (grammar_of m.grammar)
  pub position : m.position ≡ laws.run (reading_of m.grammar) (laws.new (grammar_of m.grammar).start) (laws.kinds es)
  pub tells : Tells m.has_failed m es

-- these events lead from the first to the second, by the same grammar: what the second knows represents the events that
-- the first had, followed by these
pub record HasGoneOn (first m : PlainMatcher) (es : List Event) : Type 0 where
  pub grammar : grammar_in m ≡ grammar_in first
  pub knows : (before : List Event) → Knows (matching_of first) before → Knows (matching_of m) (before ++ es)
