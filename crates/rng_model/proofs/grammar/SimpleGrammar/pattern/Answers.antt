use Rattle.std.proofs.Common.{◌≡◌, option_copied, slice_get, rules, subst}
use Rattle.rng_model.specs.simple.TableRules.{IsTable}
use Rattle.rng_model.proofs.Table.{tree_of_found}
use Rattle.rng_model.proofs.grammar.SimpleGrammar.pattern.Goals as goal

pub returns-clause-tree : goal.returns-clause-tree
returns-clause-tree c =
    let found : option_copied c.found_at.result ≡ slice_get c.args.self.now.patterns c.args.id.0 = search rules in
    tree_of_found _ _ _ (subst IsTable c.self.view_is c.self.invariant) found
