use Rattle.std.proofs.Common.{◌+◌, ◌*◌}
use Rattle.rng_deriv_texts.proofs.texts.+has_text.Given as goal

abbrev pub decreases-has_text : goal.decreases-has_text
decreases-has_text l = 2 * l.pattern.0 + 1

abbrev pub decreases-either_has_text : goal.decreases-either_has_text
decreases-either_has_text l = 2 * l.choice.0
