-- What distinguishes labels: the parts by which each is written, one after another.
use Rattle.std.specs.Prelude.{◌≡◌, ℕ, List, [], ◌∷◌, ◌++◌, map, slice_get, Option, Some, None, Vec}
use Rattle.indexmap.specs.IndexSet.{IndexSet}
use Rattle.rng_model.specs.names.Names.{NameClass, any_name, any_except, ns_name, ns_except, name_is, one_of, NameClasses, no_classes, class_and}
use Rattle.rng_model.specs.names.NameViews.{namespace_bytes}
use Rattle.rng_model.specs.simple.Tree.{Datatype}
use Rattle.rng_labels.specs.declared.label_codes.LabelPart.{LabelPart}
use Rattle.rng_labels.specs.declared.label_codes.LabelPart.TheVariants as parts

pub data Part : Type 0 where
  number : ℕ → Part
  text : List ℕ → Part
  any : Part
  any_but : Part
  ns : List ℕ → Part
  ns_but : List ℕ → Part
  name : List ℕ → List ℕ → Part
  either : Part

abbrev pub part_of : LabelPart → Part
part_of (parts.Number n) = number n
part_of (parts.Text s) = text s.now
part_of parts.Any = any
part_of parts.AnyBut = any_but
part_of (parts.Ns u) = ns (namespace_bytes u.now)
part_of (parts.NsBut u) = ns_but (namespace_bytes u.now)
part_of (parts.Name u s) = name (namespace_bytes u.now) s.now
part_of parts.Either = either

-- the parts of a name class, followed by others: a class comes before the class that excepts it, and members come
-- before their choice
unfoldable mutual
  pub class_code : NameClass → List Part → List Part
  class_code any_name rest = any ∷ rest
  class_code (any_except c) rest = class_code c (any_but ∷ rest)
  class_code (ns_name u) rest = ns u ∷ rest
  class_code (ns_except u c) rest = class_code c (ns_but u ∷ rest)
  class_code (name_is n) rest = name n.ns n.local ∷ rest
  class_code (one_of c d cs) rest = class_code c (class_code d (either ∷ more_code cs rest))

  pub more_code : NameClasses → List Part → List Part
  more_code no_classes rest = rest
  more_code (class_and c cs) rest = class_code c (either ∷ more_code cs rest)

-- each choice in the class has two members
abbrev pub IsInTwos : NameClass → Type 0
IsInTwos any_name = Unit {0}
IsInTwos (any_except c) = IsInTwos c
IsInTwos (ns_name u) = Unit {0}
IsInTwos (ns_except u c) = IsInTwos c
IsInTwos (name_is n) = Unit {0}
IsInTwos (one_of c d no_classes) = IsInTwos c × IsInTwos d
IsInTwos (one_of c d (class_and e cs)) = ⊥

unfoldable pub parameters_code : List (List ℕ × List ℕ) → List Part
parameters_code [] = []
parameters_code (p ∷ ps) = text p.0 ∷ (text p.1 ∷ parameters_code ps)

abbrev pub datatype_code : Datatype → List Part
datatype_code d = text d.library ∷ (text d.name ∷ parameters_code d.parameters)

-- the parts of a value of a datatype without parameters
abbrev pub value_code : Datatype × List ℕ → List Part
value_code v = text v.0.library ∷ (text v.0.name ∷ (text v.1 ∷ []))

-- the codes of a set, in order
abbrev pub codes_of : {S Z : Type 0} → IndexSet (Vec LabelPart Z) S → List (List Part)
codes_of set = map (λ c. map part_of c.items) set.keys

-- no code occurs twice
abbrev pub AreCodesApart : List (List Part) → Type 0
AreCodesApart codes = (i j : ℕ) (c : List Part) → slice_get codes i ≡ Some c → slice_get codes j ≡ Some c → i ≡ j

-- the code is at this place of the old codes; without a place, it is added at their end
abbrev pub IsPlaced : List (List Part) → List (List Part) → List Part → Option ℕ → Type 0
IsPlaced old new c (Some n) = (new ≡ old) × (slice_get old n ≡ Some c)
IsPlaced old new c None = new ≡ old ++ c ∷ []
