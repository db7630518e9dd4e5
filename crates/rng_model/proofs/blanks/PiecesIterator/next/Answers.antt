use Rattle.std.proofs.Common.{rules}
use Rattle.rng_model.proofs.BlankRuns.{some_piece, no_piece, fewer_pieces}
use Rattle.rng_model.proofs.blanks.PiecesIterator.next.Goals as goal

pub returns-then-is_empty-clause-steps : goal.returns-then-is_empty-clause-steps
returns-then-is_empty-clause-steps c =
    no_piece _ _ _ _ _ c.past_blanks-start.ensures c.run_len.ensures.len c.split_at.ensures.front c.split_at.ensures.back (search rules)

pub returns-else-is_empty-clause-steps : goal.returns-else-is_empty-clause-steps
returns-else-is_empty-clause-steps c =
    some_piece _ _ _ _ _ c.past_blanks-start.ensures c.run_len.ensures.len c.split_at.ensures.front c.split_at.ensures.back (search rules)

pub returns-else-is_empty-clause-goes : goal.returns-else-is_empty-clause-goes
returns-else-is_empty-clause-goes c =
    let fewer = fewer_pieces c.args.self.now.rest.now c.split_at.result.0.now c.split_at.result.1.now
    (some_piece _ _ _ _ _ c.past_blanks-start.ensures c.run_len.ensures.len c.split_at.ensures.front c.split_at.ensures.back (search rules)) in
    search rules
