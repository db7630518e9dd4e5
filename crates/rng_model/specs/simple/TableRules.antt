-- What holds of the tables of a simple grammar (RELAX NG Specification, section 5).
use Rattle.std.specs.Prelude.{◌≡◌, ℕ, ◌<◌, ⊤, List, length, All, slice_get, Some, Bool, true, ◌==◌, ◌&&◌, IsTrue, string_bytes}
use Rattle.std.specs.List.{list_all}
use Rattle.rng_model.specs.datatypes.DatatypeViews.{datatype_of}
use Rattle.rng_model.specs.schema.Patterns.{without_parameters}
use Rattle.rng_model.specs.simple.Table.{Table}
use Rattle.rng_model.specs.xsd.TypeSets.{IsKnownIn}
use Rattle.rng_model.specs.declared.name.NameClass.{NameClass, fold-NameClass}
use Rattle.rng_model.specs.declared.name.NameClass.TheOpen.{NameClass-F}
use Rattle.rng_model.specs.declared.simple.Simple.{Simple}
use Rattle.rng_model.specs.declared.simple.Simple.TheVariants as simple
use Rattle.rng_model.specs.declared.type_set.TypeSet.{TypeSet}

-- the position of each child is below n
abbrev pub AreChildrenBelow : ℕ → Simple → Type 0
AreChildrenBelow n simple.NotAllowed = ⊤
AreChildrenBelow n simple.Empty = ⊤
AreChildrenBelow n simple.Text = ⊤
AreChildrenBelow n (simple.Element e) = ⊤
AreChildrenBelow n (simple.Attribute class body) = body.0 < n
AreChildrenBelow n (simple.List body) = body.0 < n
AreChildrenBelow n (simple.Data datatype) = ⊤
AreChildrenBelow n (simple.DataExcept datatype except) = except.0 < n
AreChildrenBelow n (simple.Value value) = ⊤
AreChildrenBelow n (simple.OneOrMore body) = body.0 < n
AreChildrenBelow n (simple.Group a b) = (a.0 < n) × (b.0 < n)
AreChildrenBelow n (simple.Interleave a b) = (a.0 < n) × (b.0 < n)
AreChildrenBelow n (simple.Choice a b) = (a.0 < n) × (b.0 < n)

-- a ref is one of the n elements
abbrev pub IsLeafListed : ℕ → Simple → Type 0
IsLeafListed n simple.NotAllowed = ⊤
IsLeafListed n simple.Empty = ⊤
IsLeafListed n simple.Text = ⊤
IsLeafListed n (simple.Element e) = e.0 < n
IsLeafListed n (simple.Attribute class body) = ⊤
IsLeafListed n (simple.List body) = ⊤
IsLeafListed n (simple.Data datatype) = ⊤
IsLeafListed n (simple.DataExcept datatype except) = ⊤
IsLeafListed n (simple.Value value) = ⊤
IsLeafListed n (simple.OneOrMore body) = ⊤
IsLeafListed n (simple.Group a b) = ⊤
IsLeafListed n (simple.Interleave a b) = ⊤
IsLeafListed n (simple.Choice a b) = ⊤

-- one level of the test that each choice has two members, given the results for the classes inside
abbrev pub paired_step : NameClass-F Bool → Bool
paired_step NameClass-F.Any = true
paired_step (NameClass-F.AnyExcept except) = except.value
paired_step (NameClass-F.Ns ns) = true
paired_step (NameClass-F.NsExcept ns except) = except.value
paired_step (NameClass-F.Name n) = true
paired_step (NameClass-F.Choice all) = (length all.items == 2) && list_all (λ b. b) all.items

-- each choice in a name class, at any depth, has two members (RELAX NG Specification, section 4.12)
abbrev pub IsPaired : NameClass → Type 0
IsPaired c = IsTrue (fold-NameClass Bool paired_step c)

-- the same for the name class of an attribute
abbrev pub IsClassPaired : Simple → Type 0
IsClassPaired simple.NotAllowed = ⊤
IsClassPaired simple.Empty = ⊤
IsClassPaired simple.Text = ⊤
IsClassPaired (simple.Element e) = ⊤
IsClassPaired (simple.Attribute class body) = IsPaired class.value
IsClassPaired (simple.List body) = ⊤
IsClassPaired (simple.Data datatype) = ⊤
IsClassPaired (simple.DataExcept datatype except) = ⊤
IsClassPaired (simple.Value value) = ⊤
IsClassPaired (simple.OneOrMore body) = ⊤
IsClassPaired (simple.Group a b) = ⊤
IsClassPaired (simple.Interleave a b) = ⊤
IsClassPaired (simple.Choice a b) = ⊤

-- the datatype of a data or a value is one of the set, with parameters that it takes (RELAX NG Specification, section
-- 4.16); the datatype of a value has none
abbrev pub IsDatatypeKnown : TypeSet → Simple → Type 0
IsDatatypeKnown types simple.NotAllowed = ⊤
IsDatatypeKnown types simple.Empty = ⊤
IsDatatypeKnown types simple.Text = ⊤
IsDatatypeKnown types (simple.Element e) = ⊤
IsDatatypeKnown types (simple.Attribute class body) = ⊤
IsDatatypeKnown types (simple.List body) = ⊤
IsDatatypeKnown types (simple.Data datatype) = IsKnownIn types (datatype_of datatype.value)
IsDatatypeKnown types (simple.DataExcept datatype except) = IsKnownIn types (datatype_of datatype.value)
IsDatatypeKnown types (simple.Value value) = IsKnownIn types (without_parameters (string_bytes value.value.library) (string_bytes value.value.name))
IsDatatypeKnown types (simple.OneOrMore body) = ⊤
IsDatatypeKnown types (simple.Group a b) = ⊤
IsDatatypeKnown types (simple.Interleave a b) = ⊤
IsDatatypeKnown types (simple.Choice a b) = ⊤

-- each pattern's children are before it
abbrev pub Falls : List Simple → Type 0
Falls ps = (i : ℕ) (p : Simple) → slice_get ps i ≡ Some p → AreChildrenBelow i p

pub record IsTable (t : Table) : Type 0 where
  pub start : t.start.0 < length t.patterns
  pub bodies : All (λ e. e.1.0 < length t.patterns) t.elements
  pub falls : Falls t.patterns
  pub listed : All (IsLeafListed (length t.elements)) t.patterns
  pub paired : All IsClassPaired t.patterns
  pub paired_elements : All (λ e. IsPaired e.0) t.elements
  pub datatypes : All (IsDatatypeKnown t.types) t.patterns
