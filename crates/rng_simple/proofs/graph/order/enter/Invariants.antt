use Rattle.std.proofs.Common.{◌≡◌, [], ◌∷◌, ◌++◌, map, take}
use Rattle.rng_simple.specs.declared.graph.order.Task.TheVariants as task
use Rattle.rng_simple.proofs.graph.order.enter.Given as goal

abbrev pub invariant-loop-i : goal.invariant-loop-i
invariant-loop-i l = l.tasks.items ≡ (l.fn.tasks.items ++ task.Leave l.j ∷ []) ++ map task.Enter (take l.i-index l.mentions)
