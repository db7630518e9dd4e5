use Rattle.std.proofs.Common.{◌-◌, ◌∷◌, [], length, take, drop}
use Rattle.rng_simple.specs.views.GraphView.{child, forest}
use Rattle.rng_simple.proofs.Forests.{put_around}
use Rattle.rng_simple.proofs.graph.resolving.around.Goals as goal

pub returns : goal.returns
returns c =
    let before = forest c.args.rows.now.items in
    let kept = length before - c.args.children in
    put_around c.put_missing.new.rows.items c.push.new.self.items c.args.outside (take kept before) (child (drop kept before) ∷ [])
    c.in_ok-push.ensures.items c.in_ok-put_missing.ensures c.requires.arity
