-- A matcher, as its callers see it.
use Rattle.std.specs.Prelude.{◌≡◌, ℕ, List, ◌++◌, false}
use Rattle.rng_model.specs.simple.Table.{Table}
use Rattle.rng_model.specs.simple.Tree.{Simple}
use Rattle.rng_model.specs.documents.PyxTrees.{Event}
use Rattle.rng_model.specs.matching.GrammarMatching.{Reading, reading_of}
use Rattle.rng_deriv_table.specs.views.Node.{Node}
use Rattle.rng_deriv_table.specs.views.Trees.{trees}
use Rattle.rng_deriv_events.specs.views.Basis.{Basis}
use Rattle.rng_deriv_events.specs.views.Positions.{IsFailed, IsKnown, IsLost, IsProgressInside, StaysInMode}
use Rattle.rng_deriv.specs.views.Serving.{IsTableReduced, Serves, nodes_of}
use Rattle.rng_deriv.specs.declared.matcher_state.MatcherState.{MatcherState}
use Rattle.rng_deriv_events.specs.declared.progress.Progress.{Progress}

-- a grammar, the patterns that are made of it, and what is known of a document by them
pub record Matching : Type 0 where
  pub grammar : Table
  pub patterns : List Node
  pub progress : Progress

abbrev pub matching_of : (Basis × List Node) × Progress → Matching
matching_of m = record { grammar = m.0.0.grammar; patterns = m.0.1; progress = m.1 }

-- the grammar that documents are judged by
abbrev pub judges_by : Matching → Reading
judges_by m = reading_of m.grammar

-- the patterns, as trees
abbrev pub trees_in : Matching → List (Simple ℕ)
trees_in m = trees m.grammar m.patterns

-- what is known represents these events
abbrev pub Knows : Matching → List Event → Type 0
Knows m es = IsKnown (judges_by m) (trees_in m) m.progress es

-- no continuation after this line is valid
abbrev pub HasFailedAt : Matching → ℕ → Type 0
HasFailedAt m line = IsFailed line m.progress

-- a call ran out of memory
abbrev pub HasRunOut : Matching → Type 0
HasRunOut m = IsLost m.progress

-- These events lead from the first to the second. They have the same grammar. What the second knows represents the
-- events that the first had, followed by these. If the first has failed, so has the second. Both keep a start after which
-- nothing is left, or neither does. The second has run out of memory only if the first had.
pub record HasGoneOn (first m : Matching) (es : List Event) : Type 0 where
  pub grammar : m.grammar ≡ first.grammar
  pub knows : (before : List Event) → Knows first before → Knows m (before ++ es)
  pub failed : (line : ℕ) → HasFailedAt first line → HasFailedAt m line
  pub mode : StaysInMode first.progress m.progress
  pub kept : HasRunOut m → HasRunOut first

-- a state, with the grammar
abbrev pub matching_in : Table → MatcherState → Matching
matching_in t s = record { grammar = t; patterns = nodes_of s.learned.value; progress = s.progress }

-- the state is that of a matcher by this grammar
pub record IsStateBy (t : Table) (s : MatcherState) : Type 0 where
  pub serves : Serves t s.learned.value
  pub inside : IsProgressInside (reading_of t) s.learned.value.keys (trees t (nodes_of s.learned.value)) s.progress
  pub reduced : s.learned.value.lost ≡ false → IsTableReduced t s.learned.value.table
