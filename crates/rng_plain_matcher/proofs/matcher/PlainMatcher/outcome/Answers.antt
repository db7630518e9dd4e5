use Rattle.std.proofs.Common.{◌∙◌, sym}
use Rattle.rng_plain_matcher.specs.views.Matchers.{matching_of}
use Rattle.rng_plain_matcher.proofs.KnownDocuments.{accepted_is_valid, rejected_is_invalid}
use Rattle.rng_plain_matcher.proofs.matcher.PlainMatcher.outcome.Goals as goal

pub returns-then-accepts : goal.returns-then-accepts
returns-then-accepts c = λ d is knows. accepted_is_valid (matching_of c.args.self.now) d is knows (sym c.accepts.ensures ∙ c.if-accepts.true)

pub returns-else-accepts : goal.returns-else-accepts
returns-else-accepts c = λ d is knows. rejected_is_invalid (matching_of c.args.self.now) d is knows (sym c.accepts.ensures ∙ c.if-accepts.false)
