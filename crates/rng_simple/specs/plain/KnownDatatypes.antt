-- Which datatypes a tree and a grammar may have, with a set of datatypes (RELAX NG Specification, section 4.16).
use Rattle.std.specs.Prelude.{◌≡◌, [], All}
use Rattle.rng_model.specs.simple.Tree.{Datatype, Simple, s_not_allowed, s_empty, s_text, s_leaf, s_attribute, s_list, s_data, s_data_except, s_value}
use Rattle.rng_model.specs.simple.Tree.{s_one_or_more, s_joined}
use Rattle.rng_model.specs.xsd.TypeSets.{IsKnownIn}
use Rattle.rng_model.specs.simple.Grammar.{Grammar}
use Rattle.rng_model.specs.declared.type_set.TypeSet.{TypeSet}

module _ (types : TypeSet) where
  -- the datatype of a value: it is known and has no parameters
  abbrev pub IsValueDatatype : Datatype → Type 0
  IsValueDatatype d = IsKnownIn types d × (d.parameters ≡ [])

  -- each datatype of the tree is known, and that of a value has no parameters
  abbrev pub AreDatatypesKnown : {L : Type 0} → Simple L → Type 0
  AreDatatypesKnown s_not_allowed = Unit {0}
  AreDatatypesKnown s_empty = Unit {0}
  AreDatatypesKnown s_text = Unit {0}
  AreDatatypesKnown (s_leaf l) = Unit {0}
  AreDatatypesKnown (s_attribute c s) = AreDatatypesKnown s
  AreDatatypesKnown (s_list s) = AreDatatypesKnown s
  AreDatatypesKnown (s_data d) = IsKnownIn types d
  AreDatatypesKnown (s_data_except d s) = IsKnownIn types d × AreDatatypesKnown s
  AreDatatypesKnown (s_value d v) = IsValueDatatype d
  AreDatatypesKnown (s_one_or_more s) = AreDatatypesKnown s
  AreDatatypesKnown (s_joined k s u) = AreDatatypesKnown s × AreDatatypesKnown u

  -- each datatype of the grammar is known, and that of a value has no parameters
  pub record AreGrammarDatatypesKnown (g : Grammar) : Type 0 where
    pub start : AreDatatypesKnown g.start
    pub bodies : All (λ e. AreDatatypesKnown e.1) g.elements
