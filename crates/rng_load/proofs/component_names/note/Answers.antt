use Rattle.std.proofs.Common.{ap, ◌∙◌, map}
use Rattle.rng_load.proofs.LoadOrder.NameSets.{borrowed_after_insert}
use Rattle.rng_load.proofs.component_names.note.Goals as goal

pub returns : goal.returns
returns c = ap (map (λ n. n.now)) c.in_ok-insert.ensures.keys ∙ borrowed_after_insert c.args.names.now.keys c.args.name
