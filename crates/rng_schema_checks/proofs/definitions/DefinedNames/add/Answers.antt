use Rattle.std.proofs.Common.{◌∙◌, ap}
use Rattle.std.specs.List.{list_any}
use Rattle.std.specs.Str.{bytes_eq}
use Rattle.rng_overrides.proofs.InsertedKeys.{one_more_text}
use Rattle.rng_schema_checks.proofs.definitions.DefinedNames.add.Goals as goal

pub returns : goal.returns
returns c = λ y.
    ap (list_any (λ k. bytes_eq y k.now)) c.in_ok-insert.ensures.keys ∙ one_more_text c.args.self.now.names.keys c.args.name y
