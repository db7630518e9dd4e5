use Rattle.std.proofs.Common.{◌-◌, ◌^◌}
use Rattle.rnc_print.proofs.ItemLines.{HaveLines}
use Rattle.rnc_print.proofs.items.Items.of_grammar.Given as goal

-- the first items have their lines
abbrev pub invariant-lines : goal.invariant-lines
invariant-lines l = HaveLines l.grammar l.found l.lines

abbrev pub decreases-lines : goal.decreases-lines
decreases-lines l = 2 ^ 64 - l.lines
