use Rattle.rng_deriv_laws.proofs.matching_laws.Goals as goal
use Rattle.rng_deriv_laws.proofs.Laws.{accepts_valid_documents, never_is_invalid, unknown_name_is_never, invalid_is_never}
use Rattle.rng_deriv_laws.proofs.Levels.Events.{levels_answer, no_levels_are_invalid, no_end_is_invalid, unknown_name_leaves_none}

pub returns-clause-accepted : goal.returns-clause-accepted
returns-clause-accepted c = accepts_valid_documents

pub returns-clause-never : goal.returns-clause-never
returns-clause-never c = never_is_invalid

pub returns-clause-unknown : goal.returns-clause-unknown
returns-clause-unknown c = unknown_name_is_never

pub returns-clause-invalid : goal.returns-clause-invalid
returns-clause-invalid c = invalid_is_never

pub returns-clause-levels : goal.returns-clause-levels
returns-clause-levels c = levels_answer

pub returns-clause-no_levels : goal.returns-clause-no_levels
returns-clause-no_levels c = no_levels_are_invalid

pub returns-clause-no_end : goal.returns-clause-no_end
returns-clause-no_end c = no_end_is_invalid

pub returns-clause-unknown_level : goal.returns-clause-unknown_level
returns-clause-unknown_level c = unknown_name_leaves_none
