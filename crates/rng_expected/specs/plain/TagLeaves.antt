-- What the tag of an element may have, as it is found leaf by leaf.
use Rattle.std.specs.Prelude.{◌≡◌, ◌↔◌, ◌⊎◌, ℕ, ◌<◌, List, length, get_or, All, Contains, Bool, true, false, Option, Some, None}
use Rattle.rng_model.specs.names.Names.{In, Name, NameClass, name_is}
use Rattle.rng_model.specs.matching.GrammarMatching.{reading_of}
use Rattle.rng_model.specs.simple.Table.{Table}
use Rattle.rng_model.specs.simple.Tree.{Simple, s_leaf, s_attribute}
use Rattle.rng_deriv_laws.specs.plain.Reading.{body_of, has_name}
use Rattle.rng_deriv_laws.specs.plain.Taking.{Same}
use Rattle.rng_deriv_table.specs.views.Node.{Node}
use Rattle.rng_deriv_table.specs.views.Trees.{tree_of}
use Rattle.rng_deriv_table.specs.declared.pattern.PatternNumber.{PatternNumber}
use Rattle.rng_expected.specs.Tags.{HoldsNone, Needs}

-- the class is not one name alone
abbrev pub IsNoName : NameClass → Type 0
IsNoName c = (n : Name) → ¬ (c ≡ name_is n)

-- the pattern is an attribute with this name class
abbrev pub HasClass : NameClass → Simple ℕ → Type 0
HasClass c p = (content : Simple ℕ) × (p ≡ s_attribute c content)

-- the name class of a pattern; a class without names need not be told
abbrev pub IsClassOf : Simple ℕ → Option NameClass → Type 0
IsClassOf p None = (c : NameClass) → HasClass c p → HoldsNone c
IsClassOf p (Some c) = HasClass c p

-- what is told for leaves, given what a leaf is, and of what a number tells
module _ (ns : List Node) {A : Type 0} (Is : PatternNumber → A → Type 0) (Tells : A → PatternNumber → Type 0) where
  -- for one leaf, if it is such a leaf
  abbrev pub IsTold : PatternNumber → Option PatternNumber → Type 0
  IsTold n None = (k : A) → ¬ (Is n k)
  IsTold n (Some b) = (b.0 < length ns) × ((k : A) × Is n k × Tells k b)

  -- for several
  pub record AreTold (found told : List PatternNumber) : Type 0 where
    pub inside : All (λ b. b.0 < length ns) told
    pub each : (b : PatternNumber) → Contains told b → (n : PatternNumber) × (k : A) × Contains found n × Is n k × Tells k b
    pub all : (n : PatternNumber) (k : A) → Contains found n → Is n k → (b : PatternNumber) × Contains told b × Tells k b

module _ (t : Table) (ns : List Node) where
  -- the leaf is this element, which may have the name
  abbrev pub IsNamed : Name → PatternNumber → ℕ → Type 0
  IsNamed q n k = (tree_of t ns n.0 ≡ s_leaf k) × (has_name (reading_of t) k q ≡ true)

  -- the pattern takes what the body of this element takes
  abbrev pub IsBodyLike : ℕ → PatternNumber → Type 0
  IsBodyLike k b = Same (reading_of t) (tree_of t ns b.0) (body_of (reading_of t) k)

  -- the body of a leaf, if it is an element that may have the name
  abbrev pub IsBody : Name → PatternNumber → Option PatternNumber → Type 0
  IsBody q = IsTold ns (IsNamed q) IsBodyLike

  -- the bodies of leaves
  abbrev pub AreBodiesOf : Name → List PatternNumber → List PatternNumber → Type 0
  AreBodiesOf q = AreTold ns (IsNamed q) IsBodyLike

  -- the leaf is an attribute with this content, which may have the name
  abbrev pub HasContent : Name → PatternNumber → Simple ℕ → Type 0
  HasContent q n content = (c : NameClass) × (tree_of t ns n.0 ≡ s_attribute c content) × In c q

  -- the pattern takes what the content takes
  abbrev pub IsContentLike : Simple ℕ → PatternNumber → Type 0
  IsContentLike content b = Same (reading_of t) (tree_of t ns b.0) content

  -- the content of a leaf, if it is an attribute that may have the name
  abbrev pub IsContentAt : Name → PatternNumber → Option PatternNumber → Type 0
  IsContentAt q = IsTold ns (HasContent q) IsContentLike

  -- the contents of leaves
  abbrev pub AreContentsOf : Name → List PatternNumber → List PatternNumber → Type 0
  AreContentsOf q = AreTold ns (HasContent q) IsContentLike

  -- the leaf is an attribute with this name class
  abbrev pub IsOfClass : NameClass → PatternNumber → Type 0
  IsOfClass c n = HasClass c (tree_of t ns n.0)

  -- the name class of a leaf
  abbrev pub IsClass : PatternNumber → Option NameClass → Type 0
  IsClass n o = IsClassOf (tree_of t ns n.0) o

  -- the name classes of leaves
  pub record AreClassesOf (found : List PatternNumber) (classes : List NameClass) : Type 0 where
    pub each : (c : NameClass) → Contains classes c → (n : PatternNumber) × Contains found n × IsOfClass c n
    pub all : (n : PatternNumber) (c : NameClass) → Contains found n → IsOfClass c n → Contains classes c ⊎ HoldsNone c

  -- ---- names that are needed

  -- the test of each of the first patterns is whether it needs the name
  pub record AreTests (n : Name) (tests : List Bool) : Type 0 where
    pub each : (i : ℕ) → i < length tests → (get_or tests i false ≡ true) ↔ Needs n (tree_of t ns i)

  -- each of these patterns needs the name
  abbrev pub AllNeed : Name → List PatternNumber → Type 0
  AllNeed n bodies = All (λ b. Needs n (tree_of t ns b.0)) bodies

  -- these names of the classes are needed
  abbrev pub AreNeeded : List PatternNumber → List NameClass → List Name → Type 0
  AreNeeded bodies classes names = (n : Name) → Contains names n ↔ (Contains classes (name_is n) × AllNeed n bodies)
