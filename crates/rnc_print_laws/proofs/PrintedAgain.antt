-- The answer of `simple` for what it printed is the same text.
use Rattle.std.proofs.Common.{◌≡◌, ap, subst, ℕ, List, Option}
use Rattle.rnc_model.specs.loading.LoadedSchema.{AreSchema}
use Rattle.rnc_model.specs.loading.Loading.{are_taken}
use Rattle.rnc_model.specs.loading.SchemaFile.{FileName, NamedFile}
use Rattle.rng_model.specs.schema.Schema.{Schema}
use Rattle.rnc_print_laws.specs.plain.HandedIn.{IsHandedInAgain, IsPrintedFile, lines_alone, text_alone}
use Rattle.rnc_print_laws.specs.plain.LinesSchema.{IsReprintedAs}
use Rattle.rnc_print_laws.proofs.SimpleForms.LinesKept.{reprinted_text, same_text_again}
use Rattle.rnc_print_laws.proofs.LinesLoaded.{printed_alone}
use Rattle.rnc_print_laws.proofs.Lines.LinesTaken.{lines_taken, lines_are_schema}
use Rattle.rncv_model.specs.answers.Answer.{Answer, printed}
use Rattle.rncv_model.specs.answers.Run.{IsAnswer}
use Rattle.rncv_run.proofs.AnswersByVerdict as verdicts
use Rattle.rncv_run.proofs.AnswersByVerdict.{IsAnswerBy, IsAnswerTo, by_verdict}
use Rattle.rncv_model.specs.declared.command.Command.TheVariants.{Valid, Check, Simple}

pub not_check : {A : Type 0} → Simple ≡ Check → A
not_check e = cc

pub not_valid : {A : Type 0} → Simple ≡ Valid → A
not_valid e = cc

module _ (s : Schema) (text : List ℕ) (files : List NamedFile) (main : FileName) (h : IsHandedInAgain s text files main) (input_old input_new : Option (List ℕ))
  where
    -- the schema of the text
    reprinted : (r : Schema) → AreSchema (lines_alone main h.printed.grammar h.printed.is_printed.items) main r → IsReprintedAs s r text
    reprinted r a =
        record { kept = h.kept; printed = h.printed; few = h.few; lines = lines_are_schema main h.printed.grammar h.printed.is_printed.items r a }

    answer_by : (r : Schema) → IsReprintedAs s r text → (answer : Answer) → IsAnswerBy Simple r input_old input_new answer → answer ≡ printed text
    answer_by r is answer (verdicts.breaks_clause {clause} b) = absurd ((reprinted_text s r text is).0 clause b.broken)
    answer_by r is answer (verdicts.is_good e k) = not_check e
    answer_by r is answer (verdicts.has_form {text = other} e k p) = ap printed (same_text_again s r text other is p)
    answer_by r is answer (verdicts.is_judged e k j) = not_valid e

    pub answer_again : (answer : Answer) → IsAnswer Simple files main input_old input_new answer → answer ≡ printed text
    answer_again answer is =
        let g = h.printed.grammar in
        let items = h.printed.is_printed.items in
        let a = by_verdict Simple files main input_old input_new is in
        let e : a.verdict ≡ are_taken (lines_alone main g items) =
        a.is_verdict.only (are_taken (lines_alone main g items)) (lines_taken main g items files h.tree) in
        let f = subst (λ v. IsAnswerTo Simple main v input_old input_new answer) e a.follows in
        answer_by f.0 (reprinted f.0 f.1) answer f.2

pub answer_alone : (s : Schema) (text : List ℕ) → IsPrintedFile s text → (main : FileName) (input_old input_new : Option (List ℕ)) (answer : Answer)
    → IsAnswer Simple (text_alone main text) main input_old input_new answer → answer ≡ printed text
answer_alone s text h main input_old input_new = answer_again s text (text_alone main text) main (printed_alone s text h main) input_old input_new
