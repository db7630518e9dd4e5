-- The place in numbers tells what the place of the document tells.
use Rattle.std.proofs.Common.{◌≡◌, ◌∙◌, ℕ, List, None, Option, IfSome, ap, subst}
use Rattle.std.specs.Prelude.{unwrap_or}
use Rattle.rng_model.specs.schema.Schema.{Schema}
use Rattle.rng_model.specs.documents.PyxTrees.{Event}
use Rattle.rng_model.specs.xsd.SchemasWith.{IsValidBySchemaWith}
use Rattle.rng_model.specs.declared.type_set.TypeSet.{TypeSet}
use Rattle.rncv_model.specs.answers.Verdict.{IsUnknownIn}
use Rattle.rncv_validator.specs.views.Validators.{JudgesWith}
use Rattle.rncv_events.specs.Answers.{AreHopelessFrom}
use Rattle.rncv_events.specs.views.Told.{HasTaken, Judging}
use Rattle.rncv_c_handles.proofs.events.hopeless_place.Goals as goal

-- it is the place of a call, and no document that begins with the calls up to it is valid
IsHopeless : Judging → Option ℕ → Type 0
IsHopeless document found = IfSome found (λ since. document.fault ≡ None → (types : TypeSet) (s : Schema) (calls : List Event)
    → JudgesWith types document.grammar s → HasTaken document calls → AreHopelessFrom (IsValidBySchemaWith types s) (IsUnknownIn s) calls since)

pub returns : goal.returns
unfolding IsHopeless
returns c = record {
  value = c.unwrap_or.ensures ∙ ap (λ (o : Option ℕ). unwrap_or o 0) c.invalid_since.ensures.value;
  hopeless = subst (IsHopeless c.args.document.now) c.invalid_since.ensures.value c.invalid_since.ensures.hopeless;
  known = λ none. c.invalid_since.ensures.known (c.invalid_since.ensures.value ∙ none);
}
