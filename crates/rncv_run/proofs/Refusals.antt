-- The answers for refused files.
use Rattle.std.proofs.Common.{◌≡◌, ℕ, List, Option, Some, None, subst, inl, inr}
use Rattle.rng_model.specs.declared.fault.SchemaFault.{SchemaFault}
use Rattle.rng_model.specs.declared.fault.SchemaFault.TheVariants as faults
use Rattle.rnc_model.specs.loading.SchemaFile.{FileName, NamedFile}
use Rattle.rncv_model.specs.answers.Answer.{Answer}
use Rattle.rncv_model.specs.answers.VerdictWith.{IsRefusal}
use Rattle.rncv_model.specs.answers.Run.{IsAnswer, file_refused, files_refused, schema_refused}
use Rattle.rncv_model.specs.declared.command.Command.{Command}
use Rattle.rncv_run.specs.views.AnswerView.{refusal_of}

some_is : {a b : Answer} → Some a ≡ Some b → a ≡ b
some_is e = cc

none_is : {a : Answer} → None ≡ Some a → ⊥
none_is e = cc

-- what is reported of the files is the answer
pub refused_files : (command : Command) (old new : Option (List ℕ)) (files : List NamedFile) (main : FileName) (fault : SchemaFault) (a : Answer)
    → IsRefusal files main fault → refusal_of fault ≡ Some a → IsAnswer command files main old new a
refused_files command old new files main (faults.File clause name) a h e =
    subst (IsAnswer command files main old new) (some_is e) (file_refused h)
refused_files command old new files main (faults.Clause clause) a (inl h) e =
    subst (IsAnswer command files main old new) (some_is e) (files_refused h)
refused_files command old new files main (faults.Clause clause) a (inr h) e =
    subst (IsAnswer command files main old new) (some_is e) (schema_refused h)
refused_files command old new files main faults.Memory a h e = absurd (none_is e)
