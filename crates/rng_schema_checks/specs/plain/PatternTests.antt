-- Tests for the patterns that break a rule, by their kinds. (RELAX NG Specification, sections 4.16 and 4.18)
use Rattle.std.specs.Prelude.{ℕ, List, Bool, false, ◌&&◌, ◌||◌, not, is_some}
use Rattle.rng_model.specs.names.Names.{NameClass}
use Rattle.rng_model.specs.simple.Tree.{Datatype}
use Rattle.rng_model.specs.schema.Patterns.{Pattern, Patterns, not_allowed, empty, text, element, attribute, list, data_of, data_except, value, mixed}
use Rattle.rng_model.specs.schema.Patterns.{optional, zero_or_more, one_or_more, joined, ref, parent_ref, grammar, external, no_patterns, pattern_and}
use Rattle.rng_model.specs.schema.Patterns.{without_parameters}
use Rattle.rng_model.specs.xsd.TypeSets.{meaning_in, takes_values_in, tests_in}
use Rattle.rng_model.specs.declared.type_set.TypeSet.{TypeSet}
use Rattle.rng_schema_checks.specs.plain.ClassTests.{has_part, breaks_except, declaration_test}

-- what to search for in patterns: elements and attributes of some classes, datatypes, values, refs and parent refs
pub record PatternTest : Type 0 where
  pub element : NameClass → Bool
  pub attribute : NameClass → Bool
  pub datatype : Datatype → Bool
  pub value : List ℕ → List ℕ → List ℕ → Bool
  pub ref : List ℕ → Bool
  pub parent_ref : List ℕ → Bool

-- the test for the pattern itself, without the patterns inside
abbrev pub passes : PatternTest → Pattern → Bool
passes t not_allowed = false
passes t empty = false
passes t text = false
passes t (element c p) = t.element c
passes t (attribute c p) = t.attribute c
passes t (list p) = false
passes t (data_of d) = t.datatype d
passes t (data_except d p) = t.datatype d
passes t (value library name v) = t.value library name v
passes t (mixed p) = false
passes t (optional p) = false
passes t (zero_or_more p) = false
passes t (one_or_more p) = false
passes t (joined k p q ps) = false
passes t (ref y) = t.ref y
passes t (parent_ref y) = t.parent_ref y
passes t (grammar z) = false
passes t (external p) = false

-- the test passes for the pattern or for one inside it
abbrev mutual
  pub has_written : PatternTest → Pattern → Bool
  has_written t not_allowed = false
  has_written t empty = false
  has_written t text = false
  has_written t (element c p) = t.element c || has_written t p
  has_written t (attribute c p) = t.attribute c || has_written t p
  has_written t (list p) = has_written t p
  has_written t (data_of d) = t.datatype d
  has_written t (data_except d p) = t.datatype d || has_written t p
  has_written t (value library name v) = t.value library name v
  has_written t (mixed p) = has_written t p
  has_written t (optional p) = has_written t p
  has_written t (zero_or_more p) = has_written t p
  has_written t (one_or_more p) = has_written t p
  has_written t (joined k p q ps) = has_written t p || (has_written t q || some_has_written t ps)
  has_written t (ref y) = t.ref y
  has_written t (parent_ref y) = t.parent_ref y
  has_written t (grammar z) = false
  has_written t (external p) = has_written t p

  pub some_has_written : PatternTest → Patterns → Bool
  some_has_written t no_patterns = false
  some_has_written t (pattern_and p ps) = has_written t p || some_has_written t ps

abbrev pub no_class : NameClass → Bool
no_class c = false

abbrev pub no_datatype : Datatype → Bool
no_datatype d = false

abbrev pub no_value : List ℕ → List ℕ → List ℕ → Bool
no_value library name v = false

abbrev pub no_ref : List ℕ → Bool
no_ref y = false

-- ---- name classes

abbrev pub breaks_attribute : NameClass → Bool
breaks_attribute c = breaks_except c || has_part declaration_test c

abbrev pub class_test : PatternTest
class_test = record {
  element = breaks_except;
  attribute = breaks_attribute;
  datatype = no_datatype;
  value = no_value;
  ref = no_ref;
  parent_ref = no_ref;
}

-- ---- datatypes

abbrev pub is_unknown : TypeSet → Datatype → Bool
is_unknown types d = not (is_some (meaning_in types d))

abbrev pub is_refused : TypeSet → List ℕ → List ℕ → List ℕ → Bool
is_refused types library name v =
    let d = without_parameters library name in not (takes_values_in types d && (tests_in types).allows d v)

abbrev pub datatype_test : TypeSet → PatternTest
datatype_test types = record {
  element = no_class;
  attribute = no_class;
  datatype = is_unknown types;
  value = is_refused types;
  ref = no_ref;
  parent_ref = no_ref;
}

-- ---- refs, given the names that their grammar defines, and those of the grammar around it

abbrev pub lacks : (List ℕ → Bool) → List ℕ → Bool
lacks defined y = not (defined y)

abbrev pub ref_test : (List ℕ → Bool) → (List ℕ → Bool) → PatternTest
ref_test own around = record {
  element = no_class;
  attribute = no_class;
  datatype = no_datatype;
  value = no_value;
  ref = lacks own;
  parent_ref = lacks around;
}
