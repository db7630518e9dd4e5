use Rattle.std.proofs.Common.{◌∙◌, ap, map}
use Rattle.std.proofs.lemmas.Result.{on_ok_weaker}
use Rattle.rng_load.specs.views.GatheredComponents.{gathered_of}
use Rattle.rng_load.proofs.Patterns.OverriddenComponents.{gathered_replaced}
use Rattle.rng_load.proofs.gathering.replace.Goals as goal

pub returns : goal.returns
returns c =
    on_ok_weaker c.replace.result (λ is. ap (map gathered_of) is ∙ gathered_replaced c.args.all.now.items c.args.included.items c.args.overriding.items)
    c.replace.ensures
