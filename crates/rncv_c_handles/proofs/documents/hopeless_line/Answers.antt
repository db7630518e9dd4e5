-- The line in numbers tells what the line of the document tells.
use Rattle.std.proofs.Common.{◌∙◌, ℕ, List, Option, IfSome, ap, subst}
use Rattle.std.specs.Prelude.{unwrap_or}
use Rattle.rng_model.specs.schema.Schema.{Schema}
use Rattle.rng_model.specs.matching.SchemaMatching.{IsValidBySchema}
use Rattle.rng_model.specs.xsd.SchemasWith.{IsValidBySchemaWith}
use Rattle.rng_model.specs.declared.type_set.TypeSet.{TypeSet}
use Rattle.rncv_validator.specs.views.Documents.{IsHopelessFrom}
use Rattle.rncv_validator.specs.views.FedDocuments.{HasBeenFed, Judging}
use Rattle.rncv_validator.specs.views.Validators.{Judges, JudgesWith}
use Rattle.rncv_c_handles.proofs.documents.hopeless_line.Goals as goal

-- it is a line that was fed, and no document with the same lines up to it is valid
IsHopeless : Judging → Option ℕ → Type 0
IsHopeless document found = IfSome found (λ since. (s : Schema) (bytes : List ℕ) → Judges document.grammar s → HasBeenFed document bytes
    → IsHopelessFrom (IsValidBySchema s) bytes since)

-- the same, with the set of datatypes of the grammar
IsHopelessWith : Judging → Option ℕ → Type 0
IsHopelessWith document found = IfSome found (λ since. (types : TypeSet) (s : Schema) (bytes : List ℕ) → JudgesWith types document.grammar s
    → HasBeenFed document bytes → IsHopelessFrom (IsValidBySchemaWith types s) bytes since)

pub returns : goal.returns
unfolding IsHopeless IsHopelessWith
returns c = record {
  value = c.unwrap_or.ensures ∙ ap (λ (o : Option ℕ). unwrap_or o 0) c.invalid_since.ensures.value;
  hopeless = subst (IsHopeless c.args.document.now) c.invalid_since.ensures.value c.invalid_since.ensures.hopeless;
  hopeless_with = subst (IsHopelessWith c.args.document.now) c.invalid_since.ensures.value c.invalid_since.ensures.hopeless_with;
  known = λ none. c.invalid_since.ensures.known (c.invalid_since.ensures.value ∙ none);
}
