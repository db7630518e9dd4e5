use Rattle.std.proofs.Common.{append_assoc, refl}
use Rattle.rncv_run.proofs.AnswerLines.{same_text}
use Rattle.rncv_run.proofs.answer.malformed_line.Goals as goal

pub returns : goal.returns
returns c = same_text _ c.format.result _ _ c.format.ensures.ok (simp append_assoc refl)
