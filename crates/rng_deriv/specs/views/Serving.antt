-- The patterns of a grammar in a table, for a matcher.
use Rattle.std.specs.Prelude.{⊤, ℕ, ◌<◌, List, [], length, Bool, true, false}
use Rattle.rng_names.specs.plain.Keys.{Keys, KeysServe}
use Rattle.rng_model.specs.simple.Table.{Table, grammar_of}
use Rattle.rng_model.specs.restrictions.RestrictionFaults.{BreaksNone}
use Rattle.rng_deriv_table.specs.views.Node.{Node}
use Rattle.rng_deriv_table.specs.views.Trees.{tree_of}
use Rattle.rng_deriv_table.specs.declared.pattern.PatternNumber.{PatternNumber}
use Rattle.rng_deriv_ways.specs.views.KnownWays.{AreAllKnown}
use Rattle.rng_deriv_ways.specs.plain.Starting.{IsReady, HasRestrictedBodies}
use Rattle.rng_deriv_ways.specs.declared.known.Known.{Known}
use Rattle.rng_reasons.specs.AllowedPatterns.{IsReduced}
use Rattle.rng_deriv_events.specs.views.Basis.{Basis}
use Rattle.rng_deriv.specs.declared.learned.Learned.{Learned}

-- the grammar obeys the restrictions, its patterns are in the table under these numbers, and the bodies of its elements
-- obey the restrictions there too
pub record IsServed (t : Table) (ns : List Node) (numbers : List PatternNumber) : Type 0 where
  pub keeps : BreaksNone (grammar_of t)
  pub ready : IsReady t ns numbers
  pub bodies : HasRestrictedBodies t ns numbers

-- the table is so, and what is known of ways is right for it, unless a call ran out of memory
abbrev pub IsServedBy : Table → Keys → Bool → List Node → List PatternNumber → Known → Type 0
IsServedBy t keys true ns numbers known = ⊤
IsServedBy t keys false ns numbers known = IsServed t ns numbers × KeysServe t keys × AreAllKnown t keys ns known

-- the patterns of a table; none after a call ran out of memory
abbrev pub nodes_unless : Bool → List Node → List Node
nodes_unless true ns = []
nodes_unless false ns = ns

-- a grammar and its patterns, of what contracts see
abbrev pub seen_of : Basis × List Node → Table × List Node
seen_of d = (d.0.grammar, d.1)

-- the patterns of what was learned
abbrev pub nodes_of : Learned → List Node
nodes_of l = nodes_unless l.lost l.table

-- this was learned about this grammar
abbrev pub Serves : Table → Learned → Type 0
Serves t l = IsServedBy t l.keys l.lost l.table l.numbers.items l.known

-- notAllowed is the whole of a pattern of the table, or occurs nowhere in it
abbrev pub IsTableReduced : Table → List Node → Type 0
IsTableReduced t ns = (number : ℕ) → number < length ns → IsReduced (tree_of t ns number)
