use Rattle.std.proofs.Common.{rules, sym, ◌∙◌}
use Rattle.rng_model.specs.views.PiecesView.{pieces_left}
use Rattle.rng_types.proofs.OnePiece.{collapse-empty, length-collapse, count_fits}
use Rattle.rng_types.proofs.collapsed.collapsed_char_count.Goals as goal

pub returns-in_default : goal.returns-in_default
returns-in_default c = sym (collapse-empty c.args.text.now (sym c.new-pieces.ensures ∙ c.in_default.ensures.steps.0))

pub loop-piece-init : goal.loop-piece-init
loop-piece-init c =
    let first = sym c.new-pieces.ensures ∙ c.in-Some.ensures.steps in
    let counted = length-collapse c.args.text.now c.in-Some.first.now (pieces_left c.next.new.self) c.utf8.text first in
    let fits = count_fits c.args.text.now c.in-Some.first.now (pieces_left c.next.new.self) c.utf8.text first in
    record { counted = search rules; fits = search rules }
