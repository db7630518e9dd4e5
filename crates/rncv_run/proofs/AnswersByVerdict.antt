-- Answers by the verdict on the files: first what the files give, then what their schema gives. `IsAnswer` says the same in one table.
use Rattle.std.proofs.Common.{◌≡◌, ℕ, List, Option, refl, sym, subst}
use Rattle.rng_model.specs.schema.Schema.{Schema}
use Rattle.rng_model.specs.schema.SchemaClauses.{BreaksNoClause, IsLeastClause}
use Rattle.rnc_model.specs.loading.LoadedSchema.{AreSchema}
use Rattle.rnc_model.specs.loading.Loading.{FilesVerdict, file_breaks, together_break, are_taken, FilesHaveOnlyVerdict}
use Rattle.rnc_model.specs.loading.SchemaFile.{FileName, NamedFile}
use Rattle.rncv_model.specs.answers.Answer.{Answer, refused, refused_file, schema_ok, printed, judged}
use Rattle.rncv_model.specs.answers.Verdict.{AreTakenAs}
use Rattle.rncv_model.specs.answers.Run as run
use Rattle.rncv_model.specs.answers.Run.{IsAnswer, IsJudged}
use Rattle.rncv_model.specs.declared.command.Command.{Command}
use Rattle.rncv_model.specs.declared.command.Command.TheVariants.{Valid, Check, Simple}
use Rattle.rncv_model.specs.declared.verdict.Verdict.{Verdict}
use Rattle.rncv_model.specs.printed.SchemaText.{IsPrintedForm}

-- the answer by the schema: the least clause that it breaks; if it breaks none, what the command asks
pub data IsAnswerBy (command : Command) (s : Schema) (input_old input_new : Option (List ℕ)) : Answer → Type 0 where
  breaks_clause : {clause : ℕ} → IsLeastClause s clause → IsAnswerBy command s input_old input_new (refused clause)
  is_good : command ≡ Check → BreaksNoClause s → IsAnswerBy command s input_old input_new schema_ok
  has_form : {text : List ℕ} → command ≡ Simple → BreaksNoClause s → IsPrintedForm s text → IsAnswerBy command s input_old input_new (printed text)
  is_judged : {verdict : Verdict} → command ≡ Valid → BreaksNoClause s → IsJudged s verdict input_old input_new
      → IsAnswerBy command s input_old input_new (judged verdict)

-- the answer for files with this verdict
abbrev pub IsAnswerTo : Command → FileName → FilesVerdict → Option (List ℕ) → Option (List ℕ) → Answer → Type 0
IsAnswerTo command main (file_breaks f clause) input_old input_new answer = answer ≡ refused_file clause f
IsAnswerTo command main (together_break clause) input_old input_new answer = answer ≡ refused clause
IsAnswerTo command main (are_taken read) input_old input_new answer = (s : Schema) × AreSchema read main s × IsAnswerBy command s input_old input_new answer

-- the answer follows from the verdict on the files, which is unique
pub record FollowsFromVerdict (command : Command) (files : List NamedFile) (main : FileName) (input_old input_new : Option (List ℕ)) (answer : Answer) : Type 0 where
  pub verdict : FilesVerdict
  pub is_verdict : FilesHaveOnlyVerdict files main verdict
  pub follows : IsAnswerTo command main verdict input_old input_new answer

module _ (command : Command) (files : List NamedFile) (main : FileName) (input_old input_new : Option (List ℕ)) where
  by_taken : {s : Schema} {answer : Answer} → AreTakenAs files main s → IsAnswerBy command s input_old input_new answer
      → FollowsFromVerdict command files main input_old input_new answer
  by_taken {s} are by = record { verdict = are_taken are.read; is_verdict = are.is_verdict; follows = (s, are.are, by) }

  pub by_verdict : {answer : Answer} → IsAnswer command files main input_old input_new answer → FollowsFromVerdict command files main input_old input_new answer
  by_verdict (run.file_refused {f} {clause} v) = record { verdict = file_breaks f clause; is_verdict = v; follows = refl }
  by_verdict (run.files_refused {clause} v) = record { verdict = together_break clause; is_verdict = v; follows = refl }
  by_verdict (run.schema_refused h) = by_taken h.are (breaks_clause h.least)
  by_verdict (run.schema_good e g) = by_taken g.are (is_good e g.good)
  by_verdict (run.form_printed e g p) = by_taken g.are (has_form e g.good p)
  by_verdict (run.document_judged e g j) = by_taken g.are (is_judged e g.good j)

  by_schema : (s : Schema) {answer : Answer} → AreTakenAs files main s → IsAnswerBy command s input_old input_new answer
      → IsAnswer command files main input_old input_new answer
  by_schema s are (breaks_clause b) = run.schema_refused (record { schema = s; are = are; least = b })
  by_schema s are (is_good e k) = run.schema_good e (record { are = are; good = k })
  by_schema s are (has_form e k p) = run.form_printed e (record { are = are; good = k }) p
  by_schema s are (is_judged e k j) = run.document_judged e (record { are = are; good = k }) j

  answer_to : (answer : Answer) (verdict : FilesVerdict) → FilesHaveOnlyVerdict files main verdict → IsAnswerTo command main verdict input_old input_new answer
      → IsAnswer command files main input_old input_new answer
  answer_to answer (file_breaks f clause) v e = subst (IsAnswer command files main input_old input_new) (sym e) (run.file_refused v)
  answer_to answer (together_break clause) v e = subst (IsAnswer command files main input_old input_new) (sym e) (run.files_refused v)
  answer_to answer (are_taken read) v a = by_schema a.0 (record { read = read; is_verdict = v; are = a.1 }) a.2

  pub of_verdict : (answer : Answer) → FollowsFromVerdict command files main input_old input_new answer → IsAnswer command files main input_old input_new answer
  of_verdict answer a = answer_to answer a.verdict a.is_verdict a.follows
