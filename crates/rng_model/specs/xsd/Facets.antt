-- Which parameters a type takes, and the facets that they write; lengths (XML Schema Part 2, Second Edition, section 4.3).
use Rattle.std.specs.Prelude.{codes, ℕ, List, [], ◌∷◌, Bool, false, Option, Some, None, is_some, is_none, nat_le, not, ◌&&◌, if◌then◌else◌}
use Rattle.std.specs.List.{list_all}
use Rattle.std.specs.Option.{option_and_then}
use Rattle.rng_model.specs.datatypes.Facets.{Lengths, passes, Parameter, named, is_once}
use Rattle.rng_model.specs.xsd.Numbers.{count_from}

-- ---- which parameters a type takes

-- the facets of a type: the name of each, and which texts are values of it
abbrev pub Facets : Type 0
Facets = List (List ℕ × (List ℕ → Bool))

-- there is such a facet, and the text is a value of it
abbrev pub is_value_of : Option (List ℕ → Bool) → List ℕ → Bool
is_value_of None s = false
is_value_of (Some is_value) s = is_value s

abbrev pub is_facet : Facets → Parameter → Bool
is_facet facets p = is_value_of (named p.0 facets) p.1

-- each parameter is a facet of the type with a value of it, and none occurs twice
abbrev pub are_facets : Facets → List Parameter → Bool
are_facets facets ps = list_all (is_facet facets) ps && list_all (λ f. is_once f.0 ps) facets

-- what the parameter of that name writes, if there is one
abbrev pub written : {A : Type 0} → (List ℕ → Option A) → List ℕ → List Parameter → Option A
written read name ps = option_and_then read (named name ps)

abbrev pub is_read : {A : Type 0} → (List ℕ → Option A) → List ℕ → Bool
is_read read s = is_some (read s)

-- both are given, and they fail the test
abbrev pub clash : {A : Type 0} → (A → A → Bool) → Option A → Option A → Bool
clash test a b = not (passes (λ x. passes (test x) b) a)

-- ---- lengths, of which none is less than the least of the type (sections 4.3.1.4 and 4.3.2.4)

abbrev pub length_facets : ℕ → Facets
length_facets least =
    (codes "length", is_read (count_from least)) ∷
    (codes "minLength", is_read (count_from least)) ∷ (codes "maxLength", is_read (count_from least)) ∷ []

abbrev pub least_and_greatest : ℕ → List Parameter → Lengths
least_and_greatest least ps = record {
  least = written (count_from least) (codes "minLength") ps;
  greatest = written (count_from least) (codes "maxLength") ps;
}

-- the least is at most the greatest (section 4.3.2.4)
abbrev pub is_range : Lengths → Bool
is_range l = not (clash nat_le l.least l.greatest)

-- `length` is both the least and the greatest, and excludes `minLength` and `maxLength` (sections 4.3.1 and 4.3.1.4)
abbrev pub joined_lengths : Option ℕ → Lengths → Option Lengths
joined_lengths None l = if is_range l then Some l else None
joined_lengths (Some n) l = if is_none l.least && is_none l.greatest then Some (record { least = Some n; greatest = Some n }) else None

-- these are the lengths that the parameters allow, if a type with this least length takes them
unfoldable pub written_lengths : ℕ → List Parameter → Option Lengths
written_lengths least ps =
    if are_facets (length_facets least) ps
    then joined_lengths (written (count_from least) (codes "length") ps) (least_and_greatest least ps) else None
