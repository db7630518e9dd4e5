use Rattle.rnc_text.proofs.PlainRuns.{front_plain, plain_boundary}
use Rattle.rnc_text.proofs.decoding.split_plain.Goals as goal

pub split_at-requires : goal.split_at-requires
split_at-requires c = plain_boundary c.args.text.now _ c.utf8.text c.plain_len.ensures

pub returns-clause-plain : goal.returns-clause-plain
returns-clause-plain c = front_plain c.args.text.now _ _ c.split_at.ensures.front c.plain_len.ensures
