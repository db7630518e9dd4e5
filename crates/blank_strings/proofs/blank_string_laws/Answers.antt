use Rattle.blank_strings.proofs.Laws.{stays_well_formed, stays_valid, stays_valid_by_schema, stays_told, stays_hopeless, stays_answered}
use Rattle.blank_strings.proofs.blank_string_laws.Goals as goal

pub returns-clause-formed : goal.returns-clause-formed
returns-clause-formed c = stays_well_formed

pub returns-clause-valid : goal.returns-clause-valid
returns-clause-valid c = stays_valid

pub returns-clause-schema : goal.returns-clause-schema
returns-clause-schema c = stays_valid_by_schema

pub returns-clause-told : goal.returns-clause-told
returns-clause-told c = stays_told

pub returns-clause-hopeless : goal.returns-clause-hopeless
returns-clause-hopeless c = stays_hopeless

pub returns-clause-answered : goal.returns-clause-answered
returns-clause-answered c = stays_answered
