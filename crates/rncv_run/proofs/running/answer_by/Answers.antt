use Rattle.rng_model.specs.declared.type_set.TypeSet.TheVariants.{Profile}
use Rattle.rncv_model.specs.answers.Run.{document_judged, form_printed, schema_good}
use Rattle.rncv_run.proofs.running.answer_by.Goals as goal

pub returns-in-Check-clause-answer : goal.returns-in-Check-clause-answer
returns-in-Check-clause-answer g c = λ files main one. schema_good c.in-Check.is one.are

pub returns-in_ok-simple_text-in-Simple-clause-answer : goal.returns-in_ok-simple_text-in-Simple-clause-answer
returns-in_ok-simple_text-in-Simple-clause-answer g c = λ files main one.
    form_printed c.in-Simple.is one.are (c.in_ok-simple_text-in-Simple.ensures Profile one.schema one.judges)

pub returns-in_ok-judge-in-Valid-clause-answer : goal.returns-in_ok-judge-in-Valid-clause-answer
returns-in_ok-judge-in-Valid-clause-answer g c = λ files main one.
    document_judged c.in-Valid.is one.are (c.in_ok-judge-in-Valid.ensures.judged one.schema one.judges)
