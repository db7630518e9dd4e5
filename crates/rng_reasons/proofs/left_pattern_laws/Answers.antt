use Rattle.rng_reasons.proofs.Allowed.{allowed_take_some, bare_take_no_attribute}
use Rattle.rng_reasons.proofs.left_pattern_laws.Goals as goal

pub returns-clause-some : goal.returns-clause-some
returns-clause-some c = allowed_take_some

pub returns-clause-bare : goal.returns-clause-bare
returns-clause-bare c = bare_take_no_attribute
