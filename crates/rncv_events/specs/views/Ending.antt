-- Why an end leaves nothing.
use Rattle.std.specs.Prelude.{List, Option, IfSome, is_none}
use Rattle.rng_model.specs.documents.PyxTrees.{Event}
use Rattle.rng_model.specs.matching.GrammarMatching.{Reading}
use Rattle.rng_deriv.specs.views.Followers.{HasEndReason}
use Rattle.rng_deriv.specs.views.Matchers.{Matching}
use Rattle.rng_deriv_events.specs.views.NextEnds.{TellsEnd}
use Rattle.rng_deriv_events.specs.declared.progress.Progress.{Progress}
use Rattle.rng_reasons.specs.declared.reasons.Reason.{Reason}

-- no reason says that the end may come, and a reason why it may not; they are by what was known and by what is known now,
-- which is the same of these events
pub record IsWhyNoEnd (g : Reading) (old : Progress) (new : Matching) (reason : Option Reason) (es : List Event) : Type 0 where
  pub tells : TellsEnd g old (is_none reason) es
  pub why : IfSome reason (λ r. HasEndReason g new r es)
