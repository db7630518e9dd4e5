-- A run has at most one answer, except for the line of an invalid document.
use Rattle.std.proofs.Common.{◌≡◌, ◌∙◌, ◌++◌, ℕ, List, Option, Some, None, refl, sym, ap, subst, arith}
use Rattle.rng_model.specs.schema.Schema.{Schema}
use Rattle.rnc_model.specs.loading.Loading.{FilesVerdict, file_breaks, together_break, are_taken}
use Rattle.rnc_model.specs.loading.SchemaFile.{FileName, NamedFile}
use Rattle.rnc_print.proofs.OneForm.{one_form}
use Rattle.rncv_model.specs.answers.Answer.{Answer, refused, printed}
use Rattle.rncv_model.specs.answers.Verdict.{IsRead, IsUnknownIn, AreSameVerdict, IsVerdict}
use Rattle.rncv_model.specs.answers.Run.{IsAnswer, IsJudged}
use Rattle.rng_model.specs.matching.SchemaMatching.{IsValidBySchema}
use Rattle.rncv_model.specs.declared.command.Command.{Command}
use Rattle.rncv_model.specs.declared.command.Command.TheVariants.{Valid, Check, Simple}
use Rattle.rncv_model.specs.declared.verdict.Verdict.{Verdict}
use Rattle.rncv_run.specs.plain.SameAnswers.{AreSameAnswer}
use Rattle.rncv_run.proofs.AnswersByVerdict.{IsAnswerBy, IsAnswerTo, breaks_clause, by_verdict, has_form, is_good, is_judged}
use Rattle.rncv_run.proofs.LoadedSchemas.{same_schema}

check_or_simple : {command : Command} → command ≡ Check → command ≡ Simple → ⊥
check_or_simple e f = cc

check_or_valid : {command : Command} → command ≡ Check → command ≡ Valid → ⊥
check_or_valid e f = cc

simple_or_valid : {command : Command} → command ≡ Simple → command ≡ Valid → ⊥
simple_or_valid e f = cc

-- the document is everything that an input had left, if it is known what that was
whole : (bytes : List ℕ) (left : Option (List ℕ)) (document rest : List ℕ) → IsRead (Some bytes) left document rest → document ≡ bytes
whole bytes None document rest r = absurd r.consumed
whole bytes (Some left) document rest r = r.parts ∙ ap (λ x. r.read ++ x) (sym r.left) ∙ sym r.consumed

module _ (command : Command) (s : Schema) where
  module _ (bytes : List ℕ) (left other : Option (List ℕ)) where
    same_judged : (v w : Verdict) → IsJudged s v (Some bytes) left → IsJudged s w (Some bytes) other → AreSameVerdict v w
    same_judged v w p q =
        let document : q.document ≡ p.document = whole bytes other q.document q.rest q.read ∙ sym (whole bytes left p.document p.rest p.read) in
        p.only w (subst (λ d. IsVerdict (IsValidBySchema s) (IsUnknownIn s) d w) document q.verdict_is)

    same_by : {a b : Answer} → IsAnswerBy command s (Some bytes) left a → IsAnswerBy command s (Some bytes) other b → AreSameAnswer a b
    same_by (breaks_clause {clause} p) (breaks_clause {clause = another} q) =
        let less = p.least another q.broken in
        let more = q.least clause p.broken in
        let same : another ≡ clause = omega (arith, less, more) in
        ap refused same
    same_by (breaks_clause {clause} p) (is_good e kept) = absurd (kept clause p.broken)
    same_by (breaks_clause {clause} p) (has_form e kept q) = absurd (kept clause p.broken)
    same_by (breaks_clause {clause} p) (is_judged e kept q) = absurd (kept clause p.broken)
    same_by (is_good e kept) (breaks_clause {clause} q) = absurd (kept clause q.broken)
    same_by (is_good e kept) (is_good f also) = refl
    same_by (is_good e kept) (has_form f also q) = absurd (check_or_simple e f)
    same_by (is_good e kept) (is_judged f also q) = absurd (check_or_valid e f)
    same_by (has_form e kept p) (breaks_clause {clause} q) = absurd (kept clause q.broken)
    same_by (has_form e kept p) (is_good f also) = absurd (check_or_simple f e)
    same_by (has_form {text} e kept p) (has_form {text = another} f also q) = ap printed (one_form s another text q p)
    same_by (has_form e kept p) (is_judged f also q) = absurd (simple_or_valid e f)
    same_by (is_judged e kept p) (breaks_clause {clause} q) = absurd (kept clause q.broken)
    same_by (is_judged e kept p) (is_good f also) = absurd (check_or_valid f e)
    same_by (is_judged e kept p) (has_form f also q) = absurd (simple_or_valid f e)
    same_by (is_judged {verdict = v} e kept p) (is_judged {verdict = w} f also q) = (w, refl, same_judged v w p q)

module _ (command : Command) (main : FileName) (bytes : List ℕ) (left other : Option (List ℕ)) (a b : Answer) where
  same_to : (verdict : FilesVerdict) → IsAnswerTo command main verdict (Some bytes) left a → IsAnswerTo command main verdict (Some bytes) other b
      → AreSameAnswer a b
  same_to (file_breaks f clause) p q = subst (λ x. AreSameAnswer x b) (sym p) q
  same_to (together_break clause) p q = subst (λ x. AreSameAnswer x b) (sym p) q
  same_to (are_taken read) p q =
      same_by command p.0 bytes left other p.2
      (subst (λ t. IsAnswerBy command t (Some bytes) other b) (same_schema read main q.0 p.0 q.1 p.1) q.2)

pub one_answer : (command : Command) (files : List NamedFile) (main : FileName) (bytes : List ℕ) (left other : Option (List ℕ)) (a b : Answer)
    → IsAnswer command files main (Some bytes) left a → IsAnswer command files main (Some bytes) other b → AreSameAnswer a b
one_answer command files main bytes left other a b answer also =
    let p = by_verdict command files main (Some bytes) left answer in
    let q = by_verdict command files main (Some bytes) other also in
    let same = p.is_verdict.only q.verdict q.is_verdict.is in
    same_to command main bytes left other a b p.verdict p.follows (subst (λ v. IsAnswerTo command main v (Some bytes) other b) (sym same) q.follows)
