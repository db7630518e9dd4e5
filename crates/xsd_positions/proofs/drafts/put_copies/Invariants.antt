use Rattle.std.proofs.Common.{◌≡◌, ◌++◌}
use Rattle.xsd_positions.specs.plain.Drafts.{copied}
use Rattle.xsd_positions.proofs.drafts.put_copies.Given as goal

abbrev pub invariant-copies : goal.invariant-copies
invariant-copies l = l.rows.items ≡ l.fn.rows.items ++ copied l.counter l.part
