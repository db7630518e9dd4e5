use Rattle.std.proofs.Common.{◌∙◌, ap₂, reverse}
use Rattle.rng_load.specs.plain.OpenComponents.{gathered_at_end}
use Rattle.rng_load.specs.views.GatheredComponents.{gathered_in, list_of, lists_in}
use Rattle.rng_load.proofs.Patterns.OpenComponents.{opened}
use Rattle.rng_load.proofs.Patterns.OpenPatterns.{reverse_pushed, views_pushed}
use Rattle.rng_load.proofs.open_components.GatheredComponents.open_list.Goals as goal

pub returns : goal.returns
returns c = λ files.
    let all = gathered_in c.args.self.now in
    ap₂ (λ os x. gathered_at_end files os (all, x))
    (views_pushed list_of c.args.self.now.open.items c.push-2.new.self.items c.args.list c.in_ok-push-2.ensures.items)
    (reverse_pushed c.args.way.now.items c.push.new.self.items 0 c.in_ok-push.ensures.items)
    ∙ opened files (list_of c.args.list) (lists_in c.args.self.now) (reverse c.args.way.now.items) all
