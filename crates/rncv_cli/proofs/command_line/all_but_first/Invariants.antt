use Rattle.std.proofs.Common.{◌≡◌, ◌++◌, drop}
use Rattle.std.specs.Vec.Iter.{into_iter_items, into_iter_len}
use Rattle.rncv_cli.proofs.command_line.all_but_first.Given as goal

abbrev pub invariant-words : goal.invariant-words
invariant-words l = l.all.items ++ into_iter_items l.given ≡ drop 1 (into_iter_items l.fn.given)

abbrev pub decreases-words : goal.decreases-words
decreases-words l = into_iter_len l.given
