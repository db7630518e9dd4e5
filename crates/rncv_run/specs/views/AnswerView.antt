-- What an answer of the code is.
use Rattle.std.specs.Prelude.{Option, Some, None, string_bytes}
use Rattle.rng_model.specs.declared.fault.SchemaFault.{SchemaFault}
use Rattle.rng_model.specs.declared.fault.SchemaFault.TheVariants as faults
use Rattle.rncv_run.specs.declared.answer.Answer.{Answer}
use Rattle.rncv_run.specs.declared.answer.Answer.TheVariants as answers
use Rattle.rncv_model.specs.answers.Answer as answer

abbrev pub answer_of : Answer → answer.Answer
answer_of (answers.Refused clause) = answer.refused clause
answer_of (answers.RefusedFile clause name) = answer.refused_file clause (string_bytes name)
answer_of answers.SchemaOk = answer.schema_ok
answer_of (answers.Printed text) = answer.printed text.items
answer_of (answers.Judged verdict) = answer.judged verdict

-- the answer that reports a fault of a schema; there is none for out of memory
abbrev pub refusal_of : SchemaFault → Option answer.Answer
refusal_of (faults.File clause name) = Some (answer.refused_file clause (string_bytes name))
refusal_of (faults.Clause clause) = Some (answer.refused clause)
refusal_of faults.Memory = None
