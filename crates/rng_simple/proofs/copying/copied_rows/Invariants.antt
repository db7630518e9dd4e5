use Rattle.rng_simple.specs.plain.Copying.{AreCopied}
use Rattle.rng_simple.specs.views.RowTable.{finished_labels}
use Rattle.rng_simple.proofs.copying.copied_rows.Given as goal

abbrev pub invariant-rows : goal.invariant-rows
invariant-rows l = AreCopied (finished_labels l.table) l.table.rows.items l.reached l.i l.places.items l.patterns.items l.listed.items
