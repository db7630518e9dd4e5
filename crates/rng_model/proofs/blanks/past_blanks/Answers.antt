use Rattle.rng_model.proofs.BlankRuns.{blanks_boundary}
use Rattle.rng_model.proofs.blanks.past_blanks.Goals as goal

pub split_at-requires : goal.split_at-requires
split_at-requires c = blanks_boundary c.args.text.now _ c.utf8.text c.blanks_len.ensures
