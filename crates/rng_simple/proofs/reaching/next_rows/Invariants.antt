use Rattle.std.proofs.Common.{◌≡◌, map, take}
use Rattle.rng_simple.specs.plain.Search.{lists}
use Rattle.rng_simple.specs.plain.RowReach.{content_of, nexts}
use Rattle.rng_simple.proofs.reaching.next_rows.Given as goal

abbrev pub invariant-rows : goal.invariant-rows
invariant-rows l = lists l.all.items ≡ take l.row-index (map (nexts (content_of l.contents)) l.rows)
