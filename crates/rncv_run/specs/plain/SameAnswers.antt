-- What two simple forms of one schema have in common, and what two answers of one run have in common.
use Rattle.std.specs.Prelude.{◌≡◌, All, Contains}
use Rattle.rng_model.specs.simple.SchemaForm.{SimpleForm}
use Rattle.rncv_model.specs.answers.Answer.{Answer, refused, refused_file, schema_ok, printed, judged}
use Rattle.rncv_model.specs.answers.Verdict.{AreSameVerdict}
use Rattle.rncv_model.specs.declared.verdict.Verdict.{Verdict}

-- h has the start of f, and each element of f
pub record HasPartsOf (h f : SimpleForm) : Type 0 where
  pub start : f.start ≡ h.start
  pub elements : All (Contains h.elements) f.elements

-- the answers are equal, except for the line of an invalid document
abbrev pub AreSameAnswer : Answer → Answer → Type 0
AreSameAnswer (refused clause) b = b ≡ refused clause
AreSameAnswer (refused_file clause name) b = b ≡ refused_file clause name
AreSameAnswer schema_ok b = b ≡ schema_ok
AreSameAnswer (printed text) b = b ≡ printed text
AreSameAnswer (judged v) b = (w : Verdict) × (b ≡ judged w) × AreSameVerdict v w
