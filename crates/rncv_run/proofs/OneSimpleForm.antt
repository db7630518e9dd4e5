-- A schema has one simple form except for the order of its elements.
use Rattle.std.proofs.Common.{subst, slice_index_or, All, Contains, ◌≡◌}
use Rattle.std.proofs.lemmas.List.Elements.{All-contains}
use Rattle.rng_model.specs.names.Names.{In, Name}
use Rattle.rng_model.specs.schema.Schema.{Schema, main_start}
use Rattle.rng_model.specs.schema.Unfolding.{IsBodyOf}
use Rattle.rng_model.specs.simple.Simplification.{IsSimpleClassOf}
use Rattle.rng_model.specs.simple.SchemaForm.{SimpleForm, IsElementOf, IsSimpleFormOfSchema}
use Rattle.rng_model.proofs.Unfolding.{one_tree}
use Rattle.rng_simple.proofs.Grammars.NumberedSchema.{same_element, same_class, same_form, one_of_definition}
use Rattle.rncv_model.specs.answers.Verdict.{IsUnknownIn}
use Rattle.rncv_run.specs.plain.SameAnswers.{HasPartsOf}

pub one_simple_form : (s : Schema) (f h : SimpleForm) → IsSimpleFormOfSchema s f → IsSimpleFormOfSchema s h → HasPartsOf h f
one_simple_form s f h is other = record {
  start = same_form (one_of_definition s (main_start s) is.is_tree other.is_tree) is.start other.start;
  elements = λ k d l.
      let e = slice_index_or f.elements k d in
      let own = is.elements k d l in
      let r = other.reached e.name own.reached in
      let o = All-contains (IsElementOf s) h.elements r.0 other.elements r.1 in
      let class : r.0.class ≡ e.class = same_class (subst (λ m. IsSimpleClassOf m.class r.0.class) r.2 o.class) own.class in
      let body : r.0.body ≡ e.body = same_form (one_tree s (subst (λ m. IsBodyOf s m o.tree) r.2 o.is_tree) own.is_tree) o.body own.body in
      subst (Contains h.elements) (same_element r.0.name e.name r.0.class e.class r.0.body e.body r.2 class body) r.1;
}

-- a name that is unknown is unknown in each simple form
pub unknown_in_each : (s : Schema) (name : Name) → IsUnknownIn s name → (f : SimpleForm) → IsSimpleFormOfSchema s f → All (λ e. ¬ (In e.class name)) f.elements
unknown_in_each s name unknown f is k d l =
    let e = slice_index_or f.elements k d in
    All-contains (λ e. ¬ (In e.class name)) unknown.0.elements e unknown.2 ((one_simple_form s f unknown.0 is unknown.1).elements k d l)
