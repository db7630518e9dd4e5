use Rattle.rng_deriv_table.proofs.TableRows.{nothing_kept}
use Rattle.rng_deriv_table.proofs.Units.{no_units}
use Rattle.rng_deriv_table.proofs.pattern_table.PatternTable.new.Goals as goal

pub invariant_of-result : goal.invariant_of-result
invariant_of-result c = let kept = nothing_kept c.new.result.entries c.new.ensures.empty in (kept.0, kept.1, tt, tt, no_units _ c.new-2.result.items c.new-2.ensures.items)
