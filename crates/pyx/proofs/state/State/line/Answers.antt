use Rattle.std.proofs.Common.{◌≡◌, arith}
use Rattle.pyx.specs.views.View.{state_of}
use Rattle.pyx.proofs.Input.LineCounts.{tag_ended_keeps}
use Rattle.pyx.proofs.state.State.line.Goals as goal

pub overflow_add-self : goal.overflow_add-self
overflow_add-self g c =
    let k = tag_ended_keeps c.args.line.bytes.now (state_of c.args.self.now) (state_of c.end_tag.new.self) c.in_ok-end_tag-in-Err.ensures.turn.0 in
    let e : c.end_tag.new.self.lines ≡ c.args.self.now.lines = k.0 in omega (arith, e, c.requires.lines)
