use Rattle.rng_expected.proofs.expectation_laws.Goals as goal
use Rattle.rng_expected.proofs.OtherEvents.{early_end, other_start}
use Rattle.rng_expected.proofs.OtherTags.{lacking_tag, other_attribute}

pub returns-clause-starts : goal.returns-clause-starts
returns-clause-starts c = other_start

pub returns-clause-lacking : goal.returns-clause-lacking
returns-clause-lacking c = lacking_tag

pub returns-clause-attributes : goal.returns-clause-attributes
returns-clause-attributes c = other_attribute

pub returns-clause-ends : goal.returns-clause-ends
returns-clause-ends c = early_end
