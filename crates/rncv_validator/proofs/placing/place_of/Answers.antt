use Rattle.rncv_validator.proofs.placing.place_of.Goals as goal

pub returns-in-File-clause-place : goal.returns-in-File-clause-place
returns-in-File-clause-place c = rw c.in-File.is c.place_of.ensures.place
