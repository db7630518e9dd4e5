-- What a schema breaks and which documents are valid by it, with a set of datatypes. Of the clauses S12 alone depends on
-- the set. With the set `Profile` all of this is what SchemaClauses, SchemaMatching and SimplifiedSchema say.
use Rattle.std.specs.Prelude.{◌≡◌, ◌↔◌, ℕ, List}
use Rattle.rng_model.specs.names.Lists.{IsLeast}
use Rattle.rng_model.specs.simple.Tree.{Datatype}
use Rattle.rng_model.specs.simple.Grammar.{Grammar}
use Rattle.rng_model.specs.simple.SchemaForm.{IsSimpleGrammarOf}
use Rattle.rng_model.specs.datatypes.Texts.{texts_of}
use Rattle.rng_model.specs.matching.Document.{Item}
use Rattle.rng_model.specs.matching.GrammarMatching.{IsValidBy}
use Rattle.rng_model.specs.matching.SchemaMatching.{IsValidOver}
use Rattle.rng_model.specs.restrictions.Restrictions.{BreaksRestriction}
use Rattle.rng_model.specs.schema.Patterns.{Place, Pattern, data_of, data_except, value, without_parameters}
use Rattle.rng_model.specs.schema.Schema.{Schema, IsWrittenAt}
use Rattle.rng_model.specs.schema.SchemaClauses.{BreaksSchemaClause}
use Rattle.rng_model.specs.xsd.TypeSets.{IsKnownIn, IsValueIn, tests_in}
use Rattle.rng_model.specs.declared.type_set.TypeSet.{TypeSet}

module _ (types : TypeSet) where
  -- S12: a datatype is not one of the set, or a text is no value of its datatype (RELAX NG Specification, section 4.16)
  pub data BreaksDatatypeWith (s : Schema) : Type 0 where
    of_data : {x : Place} {d : Datatype} → IsWrittenAt s x (data_of d) → ¬ (IsKnownIn types d) → BreaksDatatypeWith s
    of_data_except : {x : Place} {d : Datatype} {p : Pattern} → IsWrittenAt s x (data_except d p) → ¬ (IsKnownIn types d) → BreaksDatatypeWith s
    of_value : {x : Place} {library name v : List ℕ} → IsWrittenAt s x (value library name v) → ¬ (IsValueIn types (without_parameters library name) v)
        → BreaksDatatypeWith s

  -- the schema breaks the clause, one of S11 to S17
  pub data BreaksSchemaClauseWith (s : Schema) : ℕ → Type 0 where
    in_datatype : BreaksDatatypeWith s → BreaksSchemaClauseWith s 12
    in_another : {clause : ℕ} → ¬ (clause ≡ 12) → BreaksSchemaClause s clause → BreaksSchemaClauseWith s clause

  -- the schema breaks the clause: one of S11 to S17, or a restriction that its simple form breaks
  pub data BreaksClauseWith (s : Schema) : ℕ → Type 0 where
    in_schema : {clause : ℕ} → BreaksSchemaClauseWith s clause → BreaksClauseWith s clause
    in_restriction : {g : Grammar} {clause : ℕ} → IsSimpleGrammarOf s g → BreaksRestriction g clause → BreaksClauseWith s clause

  -- the schema breaks no clause
  abbrev pub BreaksNoClauseWith : Schema → Type 0
  BreaksNoClauseWith s = (clause : ℕ) → ¬ (BreaksClauseWith s clause)

  -- the least clause that the schema breaks
  abbrev pub IsLeastClauseWith : Schema → ℕ → Type 0
  IsLeastClauseWith s clause = IsLeast (BreaksClauseWith s) clause

  -- the document with this root is valid by the schema as it is written (RELAX NG Specification, section 6.3)
  abbrev pub IsValidBySchemaWith : Schema → Item → Type 0
  IsValidBySchemaWith s root = IsValidOver s (texts_of (tests_in types)) root

  -- a document is valid by the grammar exactly if it is valid by the schema as it is written
  abbrev pub AreSameDocumentsWith : Schema → Grammar → Type 0
  AreSameDocumentsWith s g = (root : Item) → IsValidBy g (texts_of (tests_in types)) root ↔ IsValidBySchemaWith s root
