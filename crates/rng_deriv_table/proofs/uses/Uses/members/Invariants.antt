use Rattle.rng_deriv_table.specs.plain.AskedFor.{AreOpened, steps_for}
use Rattle.rng_deriv_table.proofs.uses.Uses.members.Given as goal

abbrev pub invariant-todo : goal.invariant-todo
invariant-todo l = AreOpened l.self.grammar.now l.self.by_position.items l.fn.first l.fn.second l.todo.items l.members.items

abbrev pub decreases-todo : goal.decreases-todo
decreases-todo l = steps_for l.todo.items
