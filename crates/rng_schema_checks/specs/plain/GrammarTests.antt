-- Tests whether the components of one grammar break a rule. (RELAX NG Specification, sections 4.17 and 4.18)
use Rattle.std.specs.Prelude.{ℕ, List, [], ◌∷◌, ◌++◌, Bool, true, false, not, ◌&&◌, ◌||◌, if◌then◌else◌, Option, Some, None, map, option_map}
use Rattle.std.specs.Borrow.{Bor}
use Rattle.std.specs.List.{list_any}
use Rattle.indexmap.specs.IndexSet.{IndexSet}
use Rattle.rng_model.specs.schema.Patterns.{Place}
use Rattle.rng_model.specs.schema.Schema.{Component, Schema, same_component_name, is_interleaved}
use Rattle.rng_model.specs.declared.method.Method.{Method}
use Rattle.rng_model.specs.declared.method.Method.TheVariants as methods
use Rattle.rng_schema_checks.specs.plain.PatternTests.{PatternTest, has_written}

-- the name of a component; a start has none
abbrev pub Name : Type 0
Name = Option (List ℕ)

abbrev pub is_plain : Method → Bool
is_plain methods.Plain = true
is_plain methods.Choice = false
is_plain methods.Interleave = false

abbrev pub is_choice : Method → Bool
is_choice methods.Plain = false
is_choice methods.Choice = true
is_choice methods.Interleave = false

-- ---- names that are kept

abbrev pub seen_name : Option (Bor (List ℕ)) → Name
seen_name y = option_map (λ y. y.now) y

module _ {S : Type 0} where
  abbrev pub names_in : IndexSet (Option (Bor (List ℕ))) S → List Name
  names_in names = map seen_name names.keys

abbrev pub has : List Name → Name → Bool
has names y = list_any (same_component_name y) names

-- ---- components of one name

-- the name of a component with `=` is among these names, or is the name of an earlier component with `=`
abbrev pub two_plain : List Name → List Component → Bool
two_plain names [] = false
two_plain names (c ∷ cs) =
    if is_plain c.method then has names c.name || two_plain (names ++ c.name ∷ []) cs else two_plain names cs

abbrev pub is_interleaved_as : Name → Component → Bool
is_interleaved_as y c = is_interleaved c.method && same_component_name y c.name

-- one has `|=`, and one of the same name has `&=`
abbrev pub both_methods : List Component → Bool
both_methods cs = list_any (λ c. is_choice c.method && list_any (is_interleaved_as c.name) cs) cs

abbrev pub breaks_combination : List Component → Bool
breaks_combination cs = two_plain [] cs || both_methods cs

-- ---- starts and definitions

abbrev pub is_named : Name → Component → Bool
is_named y c = same_component_name y c.name

abbrev pub lacks_start : List Component → Bool
lacks_start cs = not (list_any (is_named None) cs)

abbrev pub components_or_none : Option (List Component) → List Component
components_or_none None = []
components_or_none (Some cs) = cs

abbrev pub components_at : Schema → Place → List Component
components_at s x = components_or_none (s.components x)

-- the grammar at the place defines the name
abbrev pub defines : Schema → Place → List ℕ → Bool
defines s x y = list_any (is_named (Some y)) (components_at s x)

-- the grammar at the place defines the name, if there is a place
abbrev pub defines_if : Schema → Option Place → List ℕ → Bool
defines_if s None y = false
defines_if s (Some x) y = defines s x y

-- ---- patterns

-- the test passes for a pattern that is written in one of the components
abbrev pub some_has : PatternTest → List Component → Bool
some_has t cs = list_any (λ c. has_written t c.pattern) cs
