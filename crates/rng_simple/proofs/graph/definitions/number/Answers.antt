use Rattle.std.proofs.Common.{◌∙◌, ap, map}
use Rattle.rng_simple.specs.views.Definitions.{definition_of}
use Rattle.rng_simple.proofs.NumberedGraphs.DefinitionNumbers.{number_seen, with_seen}
use Rattle.rng_simple.proofs.graph.definitions.number.Goals as goal

pub returns-clause-number : goal.returns-clause-number
returns-clause-number c = c.in_ok-number.ensures.index ∙ number_seen c.args.definition c.args.definitions.now.keys

pub returns-clause-numbered : goal.returns-clause-numbered
returns-clause-numbered c = ap (map definition_of) c.in_ok-number.ensures.keys ∙ with_seen c.args.definition c.args.definitions.now.keys
