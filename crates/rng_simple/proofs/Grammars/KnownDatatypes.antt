-- If a schema breaks the clause about datatypes nowhere, each datatype of its simple form is known.
use Rattle.std.proofs.Common.{◌≡◌, refl, subst, ℕ, List, Some, get_or, slice_get}
use Rattle.std.proofs.lemmas.Bool.{and_parts}
use Rattle.std.proofs.lemmas.List.Elements.{All-contains, All-from_get_or}
use Rattle.std.proofs.lemmas.Option.{slice_get-get_or}
use Rattle.rng_model.proofs.ValueLaws.{known_if_allowed}
use Rattle.rng_model.specs.names.Names.{NameClass, any_name}
use Rattle.rng_model.specs.simple.Tree.{Datatype, Simple, s_not_allowed, s_empty, s_text, s_leaf, s_attribute, s_list, s_data, s_data_except, s_value}
use Rattle.rng_model.specs.simple.Tree.{s_one_or_more, s_joined, as_tree}
use Rattle.rng_model.specs.simple.Grammar.{Grammar}
use Rattle.rng_model.specs.simple.Leaves.{renamed}
use Rattle.rng_model.specs.simple.Simplification.{ClassStep}
use Rattle.rng_model.specs.simple.SchemaForm.{IsElementOf, IsSimpleFormOfSchema, IsSameUpToNumbering, IsSimpleGrammarOf, SimpleForm}
use Rattle.rng_model.specs.schema.Patterns.{Place, Pattern, attribute, value, without_parameters}
use Rattle.rng_model.specs.schema.Schema.{Schema, IsWrittenAt}
use Rattle.rng_model.specs.xsd.TypeSets.{IsKnownIn, meaning_in, takes_values_in, tests_in}
use Rattle.rng_model.specs.xsd.SchemasWith.{BreaksDatatypeWith}
use Rattle.rng_model.specs.declared.type_set.TypeSet.{TypeSet}
use Rattle.rng_schema_checks.proofs.KeptDatatypes.{data_known, data_except_known, value_allowed}
use Rattle.rng_simple.specs.plain.KnownDatatypes.{AreDatatypesKnown, AreGrammarDatatypesKnown, IsValueDatatype}
use Rattle.rng_simple.proofs.Grammars.SimpleFormParts.{IsFine, start_fine, element_fine}

-- nothing is asked of name classes
abbrev AnyClass : NameClass → Type 0
AnyClass c = Unit {0}

module _ (types : TypeSet) where
  abbrev IsOfKnown : Datatype → List ℕ → Type 0
  IsOfKnown d v = IsValueDatatype types d

  module _ {L : Type 0} (IsLeaf : L → Type 0) (element : ℕ → L) where
    simple_known : (p : Simple ℕ) → IsFine AnyClass (IsKnownIn types) IsOfKnown IsLeaf (renamed element (as_tree p)) → AreDatatypesKnown types p
    simple_known s_not_allowed h = tt
    simple_known s_empty h = tt
    simple_known s_text h = tt
    simple_known (s_leaf l) h = tt
    simple_known (s_attribute c p) h = simple_known p h.1
    simple_known (s_list p) h = simple_known p h
    simple_known (s_data d) h = h
    simple_known (s_data_except d p) h = (h.0, simple_known p h.1)
    simple_known (s_value d v) h = h
    simple_known (s_one_or_more p) h = simple_known p h
    simple_known (s_joined k p q) h = (simple_known p h.0, simple_known q h.1.0)

  module _ (s : Schema) (kept : ¬ (BreaksDatatypeWith types s)) where
    value_known : (x : Place) (library name v : List ℕ) → IsWrittenAt s x (value library name v) → IsValueDatatype types (without_parameters library name)
    value_known x library name v w =
        let d = without_parameters library name in
        let is = and_parts (takes_values_in types d) ((tests_in types).allows d v) (value_allowed types s kept x library name v w) in
        (known_if_allowed (meaning_in types d) v is.1, refl)

    any_class : (x : Place) (c : NameClass) (p : Pattern) → IsWrittenAt s x (attribute c p) → AnyClass c
    any_class x c p w = tt

    any_step : (c d : NameClass) → ClassStep c d → AnyClass c → AnyClass d
    any_step c d step is = tt

    module _ (g : Grammar) (f : SimpleForm) (form : IsSimpleFormOfSchema s f) (same : IsSameUpToNumbering g f) where
      start_of : AreDatatypesKnown types g.start
      start_of =
          simple_known _ same.element g.start (subst (IsFine AnyClass (IsKnownIn types) IsOfKnown _) same.start
          (start_fine AnyClass (IsKnownIn types) IsOfKnown s any_class (data_known types s kept) (data_except_known types s kept) value_known any_step f form))

      body_of : (k : ℕ) (e : NameClass × Simple ℕ) → slice_get g.elements k ≡ Some e → AreDatatypesKnown types e.1
      body_of k e found =
          let listed = same.bodies k e.0 e.1 found in
          let is = All-contains (IsElementOf s) f.elements _ form.elements listed.0 in
          simple_known _ same.element e.1
          (element_fine AnyClass (IsKnownIn types) IsOfKnown s any_class (data_known types s kept) (data_except_known types s kept) value_known any_step _ is)

    pub grammar_known : (g : Grammar) → IsSimpleGrammarOf s g → AreGrammarDatatypesKnown types g
    grammar_known g is = record {
      start = start_of g is.0 is.1 is.2;
      bodies = All-from_get_or (λ e. AreDatatypesKnown types e.1) g.elements (any_name, s_not_allowed)
          (λ i h. body_of g is.0 is.1 is.2 i (get_or g.elements i (any_name, s_not_allowed)) (slice_get-get_or g.elements i (any_name, s_not_allowed) h));
    }
