use Rattle.std.proofs.Common.{◌∙◌, drop, ap}
use Rattle.rng_model.proofs.BlankRuns.{blanks_boundary}
use Rattle.xsd_automaton.proofs.TreatedParts.{drop_past}
use Rattle.xsd_automaton.proofs.white_space.behind_blanks.Goals as goal

pub split_at-requires : goal.split_at-requires
split_at-requires c = blanks_boundary c.args.text.now _ c.utf8.text c.blanks_len.ensures

pub returns : goal.returns
returns c = c.split_at.ensures.back ∙ ap (λ k. drop k c.args.text.now) c.blanks_len.ensures ∙ drop_past c.args.text.now
