use Rattle.std.proofs.Common.{Some, None, ◌∙◌}
use Rattle.rng_load.proofs.Overriding.GatheredNames.{grammar_found}
use Rattle.rng_load.proofs.component_names.grammar_of.Goals as goal

pub returns-in-Some : goal.returns-in-Some
returns-in-Some c = c.grammar.ensures ∙ grammar_found c.args.trees.now.entries c.args.name.now (Some c.in-Some.tree.now) c.in-Some.ensures.value

pub returns-in-None : goal.returns-in-None
returns-in-None c = grammar_found c.args.trees.now.entries c.args.name.now None c.in-None.ensures.value
