use Rattle.std.proofs.Common.{◌-◌, length}
use Rattle.rng_labels.specs.plain.LabelCodes.{codes_of}
use Rattle.rnc_print.proofs.TreeNumbers.{AreNumbered}
use Rattle.rnc_print.proofs.tree_numbers.tree_numbers.Given as goal

-- the first patterns have their numbers
abbrev pub invariant-patterns : goal.invariant-patterns
invariant-patterns l = AreNumbered l.grammar l.numbers.items (codes_of l.codes)

abbrev pub decreases-patterns : goal.decreases-patterns
decreases-patterns l = length l.grammar.patterns - length l.numbers.items
