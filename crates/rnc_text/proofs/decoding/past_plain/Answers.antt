use Rattle.rnc_text.proofs.PlainRuns.{decodes_past}
use Rattle.rnc_text.proofs.decoding.past_plain.Goals as goal

pub returns-clause-decoded : goal.returns-clause-decoded
returns-clause-decoded c = λ all. decodes_past all _ _ _ _ _ c.split_plain.ensures.whole c.split_plain.ensures.plain c.in_ok-append.ensures
