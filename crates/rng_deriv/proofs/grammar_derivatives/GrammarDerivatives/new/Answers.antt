use Rattle.std.proofs.Common.{subst, sym}
use Rattle.rng_deriv.specs.views.Serving.{Serves}
use Rattle.rng_deriv.proofs.ServedTables.{served_first}
use Rattle.rng_deriv.proofs.grammar_derivatives.GrammarDerivatives.new.Goals as goal

pub invariant_of-result : goal.invariant_of-result
invariant_of-result c =
    subst (Serves c.args.grammar.now) (sym c.in_ok-learned.ensures.ok) (
      served_first c.args.grammar.now c.in_ok-table.table c.in_ok-table.numbers.items c.requires c.start-start.ensures.valid c.in_ok-table.ensures.long
          c.in_ok-table.ensures.taken c.in_ok-table.ensures.restricted,
      c.in_ok-keys.ensures,
      c.in_ok-known.ensures c.in_ok-table.table,
    )
