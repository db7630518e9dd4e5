-- What a run answers: one line, or a printed simple form, and a status.
use Rattle.std.specs.Prelude.{ℕ, List, [], ◌∷◌, ◌++◌, codes, decimal}
use Rattle.rncv_model.specs.declared.verdict.Verdict.{Verdict}
use Rattle.rncv_model.specs.declared.verdict.Verdict.TheVariants as verdicts
use Rattle.rncv_model.specs.declared.status.Status.{Status}
use Rattle.rncv_model.specs.declared.status.Status.TheVariants as statuses

-- a clause refuses the schema or the file of this name, or the schema is good, or it is printed, or the document has a
-- verdict
pub data Answer : Type 0 where
  refused : ℕ → Answer
  refused_file : ℕ → List ℕ → Answer
  schema_ok : Answer
  printed : List ℕ → Answer
  judged : Verdict → Answer

-- a line: the text and a line feed
abbrev pub line : List ℕ → List ℕ
line text = text ++ 10 ∷ []

-- What is written: one line, or the printed text. Numbers are in decimal, and names are as they are.
abbrev pub output_of : Answer → List ℕ
output_of (refused clause) = line (codes "refused S" ++ decimal clause)
output_of (refused_file clause name) = line (codes "refused S" ++ decimal clause ++ codes " file " ++ name)
output_of schema_ok = line (codes "schema ok")
output_of (printed text) = text
output_of (judged verdicts.Valid) = line (codes "valid")
output_of (judged (verdicts.Invalid n)) = line (codes "invalid line " ++ decimal n)
output_of (judged (verdicts.Malformed clause n)) = line (codes "malformed P" ++ decimal clause ++ codes " line " ++ decimal n)

abbrev pub status_of : Answer → Status
status_of (refused clause) = statuses.Refused
status_of (refused_file clause name) = statuses.Refused
status_of schema_ok = statuses.Good
status_of (printed text) = statuses.Good
status_of (judged verdicts.Valid) = statuses.Good
status_of (judged (verdicts.Invalid line)) = statuses.Invalid
status_of (judged (verdicts.Malformed clause line)) = statuses.Malformed
