-- A clause about components is broken if its test passes at a place.
use Rattle.std.proofs.Common.{◌≡◌, ◌↔◌, ◌&&◌, inl, inr, refl, sym, ap, ◌∙◌, ℕ, List, [], Bool, true, Some, None, is_some, IsTrue, arith}
use Rattle.std.specs.List.{list_any}
use Rattle.std.proofs.lemmas.Bool.{not_from_false, or_cases, or_left, or_right}
use Rattle.std.proofs.lemmas.List.Folds.{Any-from_list_any, list_any_at}
use Rattle.rng_model.proofs.Truths.{no_truth}
use Rattle.rng_model.specs.simple.Tree.{Datatype}
use Rattle.rng_model.specs.schema.Patterns.{Place, Pattern, element, attribute, data_of, data_except, value, ref, parent_ref, without_parameters}
use Rattle.rng_model.specs.schema.Schema.{Schema, Component, IsWrittenAt}
use Rattle.rng_model.specs.xsd.TypeSets.{meaning_in, takes_values_in, tests_in, IsKnownIn, IsValueIn}
use Rattle.rng_model.specs.schema.SchemaClauses.{BreaksNameClass, of_element, of_attribute, of_declaration}
use Rattle.rng_model.specs.schema.SchemaClauses.{BreaksCombination, two_plain, both_methods, HasNoStart, BreaksRef, of_ref, of_parent_ref}
use Rattle.rng_model.specs.schema.SchemaClauses as schema
use Rattle.rng_model.specs.schema.SchemaClauses.{BreaksSchemaClause, in_name_class, in_combination, without_start, in_ref, in_expansion, in_depth}
use Rattle.rng_model.specs.xsd.SchemasWith.{BreaksDatatypeWith, of_data, of_data_except, of_value, BreaksSchemaClauseWith, in_datatype, in_another}
use Rattle.rng_model.specs.declared.type_set.TypeSet.{TypeSet}
use Rattle.rng_load.specs.plain.SchemaPlaces.{AreItsPlaces}
use Rattle.rng_schema_checks.specs.plain.ClassTests.{breaks_except, declaration_test, has_part}
use Rattle.rng_schema_checks.specs.plain.ClauseTests.{is_broken_at, number_of}
use Rattle.rng_schema_checks.specs.plain.GrammarTests as tests
use Rattle.rng_schema_checks.specs.plain.GrammarTests.{components_at, components_or_none, defines, defines_if, is_named, lacks_start, some_has}
use Rattle.rng_schema_checks.specs.plain.PatternTests.{PatternTest, class_test, datatype_test, is_refused, is_unknown, passes, ref_test}
use Rattle.rng_schema_checks.specs.declared.checking.ComponentClause.{ComponentClause}
use Rattle.rng_schema_checks.specs.declared.checking.ComponentClause.TheVariants as clauses
use Rattle.rng_schema_checks.proofs.ListTests.{any_found, any_met, same_name-found, same_name-met}
use Rattle.rng_schema_checks.proofs.CombinedNames.{both_found, both_met, plain_met, two_plain_found}
use Rattle.rng_schema_checks.proofs.NameClassTests.{declaration_passes, except_found, except_met, is_declaration, part_found, part_met}
use Rattle.rng_schema_checks.proofs.WrittenInGrammars.{at_grammar, pattern_found, pattern_met, not_defined, lacks_it, lacked_around, lacks_around}
use Rattle.rng_schema_checks.proofs.WrittenInGrammars.{not_both, refuted}

-- ---- datatypes

module _ (types : TypeSet) where
  unknown_is : (d : Datatype) → is_unknown types d ≡ true → ¬ (IsKnownIn types d)
  unknown_is d e known = not_both (is_some (meaning_in types d)) known e

  is_not_known : (d : Datatype) → ¬ (IsKnownIn types d) → is_unknown types d ≡ true
  is_not_known d n = not_from_false (is_some (meaning_in types d)) (refuted (is_some (meaning_in types d)) n)

  module _ (library name v : List ℕ) where
    abbrev is_value : Bool
    is_value = let d = without_parameters library name in takes_values_in types d && (tests_in types).allows d v

    refused_is : is_refused types library name v ≡ true → ¬ (IsValueIn types (without_parameters library name) v)
    refused_is e allowed = not_both is_value allowed e

    is_no_value : ¬ (IsValueIn types (without_parameters library name) v) → is_refused types library name v ≡ true
    is_no_value n = not_from_false is_value (refuted is_value n)

-- ---- what breaks each clause

abbrev pub BreaksComponents : TypeSet → ComponentClause → Schema → Type 0
BreaksComponents types clauses.NameClasses s = BreaksNameClass s
BreaksComponents types clauses.Datatypes s = BreaksDatatypeWith types s
BreaksComponents types clauses.Combinations s = BreaksCombination s
BreaksComponents types clauses.Starts s = HasNoStart s
BreaksComponents types clauses.Refs s = BreaksRef s

module _ (types : TypeSet) (s : Schema) (x : Place) where
  class_breaks : (q : Pattern) → IsWrittenAt s x q → passes class_test q ≡ true → BreaksNameClass s
  class_breaks (element c p) w e = of_element w (except_found c e)
  class_breaks (attribute c p) w e = elim (or_cases (breaks_except c) (has_part declaration_test c) e) [
    | inl a ↦ of_attribute w (except_found c a)
    | inr b ↦ let part = part_found declaration_test c b in of_declaration w part.1 (is_declaration part.0 part.2)
  ]
  class_breaks q w e = no_truth e

  datatype_breaks : (q : Pattern) → IsWrittenAt s x q → passes (datatype_test types) q ≡ true → BreaksDatatypeWith types s
  datatype_breaks (data_of d) w e = of_data w (unknown_is types d e)
  datatype_breaks (data_except d p) w e = of_data_except w (unknown_is types d e)
  datatype_breaks (value library name v) w e = of_value w (refused_is types library name v e)
  datatype_breaks q w e = no_truth e

  ref_breaks : (q : Pattern) → IsWrittenAt s x q → passes (ref_test (defines s x) (defines_if s (s.outer x))) q ≡ true → BreaksRef s
  ref_breaks (ref y) w e = of_ref w (not_defined s x y e)
  ref_breaks (parent_ref y) w e = of_parent_ref w (lacked_around s y (s.outer x) e)
  ref_breaks q w e = no_truth e

  combination_breaks : (cs : List Component) → s.components x ≡ Some cs → tests.breaks_combination cs ≡ true → BreaksCombination s
  combination_breaks cs is e = elim (or_cases (tests.two_plain [] cs) (tests.both_methods cs) e) [
    | inl plain ↦ two_plain is (two_plain_found cs plain)
    | inr both ↦ let has = both_found cs both in
        both_methods (record { components = cs; there = is; among = has.2 }) (record { components = cs; there = is; among = has.3 }) has.4 has.5 has.6
  ]

  start_breaks : (cs : List Component) → s.components x ≡ Some cs → lacks_start cs ≡ true → HasNoStart s
  start_breaks cs is e = record {
    place = x;
    components = cs;
    there = is;
    none = λ c a start. not_both (list_any (is_named None) cs) (any_met (is_named None) a (same_name-met None c.name (sym start))) e;
  }

  there_are : (cs : List Component) → s.components x ≡ Some cs → components_at s x ≡ cs
  there_are cs is = ap components_or_none is

  pub found_at : (clause : ComponentClause) (cs : List Component) → s.components x ≡ Some cs → is_broken_at types clause s x ≡ true
      → BreaksComponents types clause s
  found_at clauses.NameClasses cs is e = let q = pattern_found s x class_test e in class_breaks q.0 q.1 q.2
  found_at clauses.Datatypes cs is e = let q = pattern_found s x (datatype_test types) e in datatype_breaks q.0 q.1 q.2
  found_at clauses.Combinations cs is e = combination_breaks cs is (ap tests.breaks_combination (sym (there_are cs is)) ∙ e)
  found_at clauses.Starts cs is e = start_breaks cs is (ap lacks_start (sym (there_are cs is)) ∙ e)
  found_at clauses.Refs cs is e = let q = pattern_found s x (ref_test (defines s x) (defines_if s (s.outer x))) e in ref_breaks q.0 q.1 q.2

-- there is a grammar at a place that breaks the clause by itself
abbrev BrokenPlace : TypeSet → ComponentClause → Schema → Type 0
BrokenPlace types clause s = (x : Place) × (cs : List Component) × (s.components x ≡ Some cs) × (is_broken_at types clause s x ≡ true)

module _ (types : TypeSet) (s : Schema) where
  of_pattern : (t : PatternTest) {x : Place} {q : Pattern} → IsWrittenAt s x q → passes t q ≡ true
      → (cs : List Component) × (s.components x ≡ Some cs) × (some_has t (components_at s x) ≡ true)
  of_pattern t {x} w e = (w.there.components, w.there.there, pattern_met s x t w e)

  class_place : BreaksNameClass s → BrokenPlace types clauses.NameClasses s
  class_place (of_element {x} {c} {p} w b) = let at = of_pattern class_test w (except_met b) in (x, at.0, at.1, at.2)
  class_place (of_attribute {x} {c} {p} w b) =
      let at = of_pattern class_test w (or_left (breaks_except c) (has_part declaration_test c) (except_met b)) in (x, at.0, at.1, at.2)
  class_place (of_declaration {x} {c} {d} {p} w part is) =
      let met = part_met declaration_test part (declaration_passes is) in
      let at = of_pattern class_test w (or_right (breaks_except c) (has_part declaration_test c) met) in (x, at.0, at.1, at.2)

  datatype_place : BreaksDatatypeWith types s → BrokenPlace types clauses.Datatypes s
  datatype_place (of_data {x} {d} w n) = let at = of_pattern (datatype_test types) w (is_not_known types d n) in (x, at.0, at.1, at.2)
  datatype_place (of_data_except {x} {d} {p} w n) = let at = of_pattern (datatype_test types) w (is_not_known types d n) in (x, at.0, at.1, at.2)
  datatype_place (of_value {x} {library} {name} {v} w n) =
      let at = of_pattern (datatype_test types) w (is_no_value types library name v n) in (x, at.0, at.1, at.2)

  combination_place : BreaksCombination s → BrokenPlace types clauses.Combinations s
  combination_place (two_plain {x} {cs} is h) =
      (x, cs, is, ap (λ o. tests.breaks_combination (components_or_none o)) is ∙ or_left (tests.two_plain [] cs) (tests.both_methods cs) (plain_met [] h))
  combination_place (both_methods {x} {c} {d} a b same choice interleave) =
      let cs = components_at s x in
      let met = both_met (at_grammar s x a) (at_grammar s x b) same choice interleave in
      (x, a.components, a.there, or_right (tests.two_plain [] cs) (tests.both_methods cs) met)

  start_place : HasNoStart s → BrokenPlace types clauses.Starts s
  start_place h = (h.place, h.components, h.there, ap (λ o. lacks_start (components_or_none o)) h.there ∙ not_from_false _ (refuted _ no_start)) where
    no_start : ¬ (list_any (is_named None) h.components ≡ true)
    no_start e = let c = any_found (is_named None) h.components e in h.none c.0 c.1 (sym (same_name-found None c.0.name c.2))

  ref_place : BreaksRef s → BrokenPlace types clauses.Refs s
  ref_place (of_ref {x} {y} w n) = let at = of_pattern (ref_test (defines s x) (defines_if s (s.outer x))) w (lacks_it s x y n) in (x, at.0, at.1, at.2)
  ref_place (of_parent_ref {x} {y} w n) =
      let at = of_pattern (ref_test (defines s x) (defines_if s (s.outer x))) w (lacks_around s y (s.outer x) n) in (x, at.0, at.1, at.2)

  pub met_at : (clause : ComponentClause) → BreaksComponents types clause s → BrokenPlace types clause s
  met_at clauses.NameClasses b = class_place b
  met_at clauses.Datatypes b = datatype_place b
  met_at clauses.Combinations b = combination_place b
  met_at clauses.Starts b = start_place b
  met_at clauses.Refs b = ref_place b

  -- ---- numbers

  numbered : (clause : ComponentClause) → BreaksComponents types clause s → BreaksSchemaClauseWith types s (number_of clause)
  numbered clauses.NameClasses b = in_another (λ e. omega (arith, e)) (in_name_class b)
  numbered clauses.Datatypes b = in_datatype b
  numbered clauses.Combinations b = in_another (λ e. omega (arith, e)) (in_combination b)
  numbered clauses.Starts b = in_another (λ e. omega (arith, e)) (without_start b)
  numbered clauses.Refs b = in_another (λ e. omega (arith, e)) (in_ref b)

  -- a clause but that about datatypes, which is broken with each set or with none
  another : {k : ℕ} → ¬ (k ≡ 12) → BreaksSchemaClause s k → (clause : ComponentClause) → k ≡ number_of clause → BreaksComponents types clause s
  another other (in_name_class b) clauses.NameClasses e = b
  another other (in_name_class b) clauses.Datatypes e = absurd (omega (arith, e))
  another other (in_name_class b) clauses.Combinations e = absurd (omega (arith, e))
  another other (in_name_class b) clauses.Starts e = absurd (omega (arith, e))
  another other (in_name_class b) clauses.Refs e = absurd (omega (arith, e))
  another other (schema.in_datatype b) clause e = absurd (other refl)
  another other (in_combination b) clauses.NameClasses e = absurd (omega (arith, e))
  another other (in_combination b) clauses.Datatypes e = absurd (omega (arith, e))
  another other (in_combination b) clauses.Combinations e = b
  another other (in_combination b) clauses.Starts e = absurd (omega (arith, e))
  another other (in_combination b) clauses.Refs e = absurd (omega (arith, e))
  another other (without_start b) clauses.NameClasses e = absurd (omega (arith, e))
  another other (without_start b) clauses.Datatypes e = absurd (omega (arith, e))
  another other (without_start b) clauses.Combinations e = absurd (omega (arith, e))
  another other (without_start b) clauses.Starts e = b
  another other (without_start b) clauses.Refs e = absurd (omega (arith, e))
  another other (in_ref b) clauses.NameClasses e = absurd (omega (arith, e))
  another other (in_ref b) clauses.Datatypes e = absurd (omega (arith, e))
  another other (in_ref b) clauses.Combinations e = absurd (omega (arith, e))
  another other (in_ref b) clauses.Starts e = absurd (omega (arith, e))
  another other (in_ref b) clauses.Refs e = b
  another other (in_expansion b) clauses.NameClasses e = absurd (omega (arith, e))
  another other (in_expansion b) clauses.Datatypes e = absurd (omega (arith, e))
  another other (in_expansion b) clauses.Combinations e = absurd (omega (arith, e))
  another other (in_expansion b) clauses.Starts e = absurd (omega (arith, e))
  another other (in_expansion b) clauses.Refs e = absurd (omega (arith, e))
  another other (in_depth b) clauses.NameClasses e = absurd (omega (arith, e))
  another other (in_depth b) clauses.Datatypes e = absurd (omega (arith, e))
  another other (in_depth b) clauses.Combinations e = absurd (omega (arith, e))
  another other (in_depth b) clauses.Starts e = absurd (omega (arith, e))
  another other (in_depth b) clauses.Refs e = absurd (omega (arith, e))

  by_number : {k : ℕ} → BreaksSchemaClauseWith types s k → (clause : ComponentClause) → k ≡ number_of clause → BreaksComponents types clause s
  by_number (in_datatype b) clauses.NameClasses e = absurd (omega (arith, e))
  by_number (in_datatype b) clauses.Datatypes e = b
  by_number (in_datatype b) clauses.Combinations e = absurd (omega (arith, e))
  by_number (in_datatype b) clauses.Starts e = absurd (omega (arith, e))
  by_number (in_datatype b) clauses.Refs e = absurd (omega (arith, e))
  by_number (in_another other b) clause e = another other b clause e

  -- ---- all places

  module _ (xs : List Place) (places : AreItsPlaces s xs) (clause : ComponentClause) where
    pub judged : IsTrue (list_any (is_broken_at types clause s) xs) ↔ BreaksSchemaClauseWith types s (number_of clause)
    judged = (to, from) where
      to : IsTrue (list_any (is_broken_at types clause s) xs) → BreaksSchemaClauseWith types s (number_of clause)
      to e =
          let at = Any-from_list_any (is_broken_at types clause s) xs e in
          let grammar = places.there at.1 (at.0, at.2, at.3) in
          numbered clause (found_at types s at.1 clause grammar.0 grammar.1 at.4)

      from : BreaksSchemaClauseWith types s (number_of clause) → IsTrue (list_any (is_broken_at types clause s) xs)
      from b =
          let place = met_at clause (by_number b clause refl) in
          let at = places.all place.0 place.1 place.2 in
          list_any_at (is_broken_at types clause s) xs at.0 place.0 at.1 (ap (is_broken_at types clause s) at.2 ∙ place.3)
