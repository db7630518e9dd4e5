-- What the tag of an element may have, by what is left of the innermost open element (RELAX NG Specification, sections
-- 6.2.2, 6.2.6, 6.2.7 and 6.2.8). Attributes have no order: one counts wherever its pattern is in the body of the element.
use Rattle.std.specs.Prelude.{◌≡◌, ◌↔◌, ◌⊎◌, ⊤, ℕ, List, [], All, Contains, true}
use Rattle.rng_model.specs.names.Names.{In, Name, NameClass, name_is}
use Rattle.rng_model.specs.matching.GrammarMatching.{Reading}
use Rattle.rng_model.specs.simple.Tree.{Simple, choice, group, interleave, s_not_allowed, s_empty, s_text, s_leaf, s_attribute, s_list, s_data}
use Rattle.rng_model.specs.simple.Tree.{s_data_except, s_value, s_one_or_more, s_joined}
use Rattle.rng_deriv_laws.specs.plain.Reading.{body_of, has_name}
use Rattle.rng_deriv_laws.specs.plain.Taking.{Same}
use Rattle.rng_expected.specs.Expectations.{SomeBegins}

-- the attribute is in the pattern, and neither in a list nor in another attribute
abbrev pub HasAttribute : Simple ℕ → Simple ℕ → Type 0
HasAttribute s_not_allowed l = ⊥
HasAttribute s_empty l = ⊥
HasAttribute s_text l = ⊥
HasAttribute (s_leaf k) l = ⊥
HasAttribute (s_attribute c p) l = l ≡ s_attribute c p
HasAttribute (s_list p) l = ⊥
HasAttribute (s_data d) l = ⊥
HasAttribute (s_data_except d p) l = ⊥
HasAttribute (s_value d v) l = ⊥
HasAttribute (s_one_or_more p) l = HasAttribute p l
HasAttribute (s_joined k p q) l = HasAttribute p l ⊎ HasAttribute q l

-- an attribute with this name class
abbrev pub HasAttributeOf : Simple ℕ → NameClass → Type 0
HasAttributeOf p c = (content : Simple ℕ) × HasAttribute p (s_attribute c content)

-- whatever matches the pattern has an attribute for which the pattern gives only this name; of notAllowed nothing matches
abbrev pub Needs : Name → Simple ℕ → Type 0
Needs n s_not_allowed = ⊤
Needs n s_empty = ⊥
Needs n s_text = ⊥
Needs n (s_leaf k) = ⊥
Needs n (s_attribute c p) = c ≡ name_is n
Needs n (s_list p) = ⊥
Needs n (s_data d) = ⊥
Needs n (s_data_except d p) = ⊥
Needs n (s_value d v) = ⊥
Needs n (s_one_or_more p) = Needs n p
Needs n (s_joined choice p q) = Needs n p × Needs n q
Needs n (s_joined group p q) = Needs n p ⊎ Needs n q
Needs n (s_joined interleave p q) = Needs n p ⊎ Needs n q

-- no name is in the class
abbrev pub HoldsNone : NameClass → Type 0
HoldsNone c = (q : Name) → ¬ (In c q)

-- some alternative may begin with the element of this number, which may have this name
abbrev pub MayBegin : Reading → List (Simple ℕ) → Name → ℕ → Type 0
MayBegin g now q k = SomeBegins now (λ l. l ≡ s_leaf k) × (has_name g k q ≡ true)

-- the bodies of the elements of this name that may come next, or patterns that take the same
pub record AreBodies (g : Reading) (now : List (Simple ℕ)) (q : Name) (bodies : List (Simple ℕ)) : Type 0 where
  pub each : (b : Simple ℕ) → Contains bodies b → (k : ℕ) × MayBegin g now q k × Same g b (body_of g k)
  pub all : (k : ℕ) → MayBegin g now q k → (b : Simple ℕ) × Contains bodies b × Same g b (body_of g k)

-- the name classes of attributes, and the names that a tag must have
pub record Tag : Type 0 where
  pub attributes : List NameClass
  pub required : List Name

abbrev pub no_tag : Tag
no_tag = record { attributes = []; required = [] }

-- These attributes the patterns have, and each pattern needs these names. A class without names need not be there.
pub record IsTagOf (ps : List (Simple ℕ)) (tag : Tag) : Type 0 where
  pub each : (c : NameClass) → Contains tag.attributes c → (p : Simple ℕ) × Contains ps p × HasAttributeOf p c
  pub all : (p : Simple ℕ) (c : NameClass) → Contains ps p → HasAttributeOf p c → Contains tag.attributes c ⊎ HoldsNone c
  pub required : (n : Name) → Contains tag.required n ↔ (Contains tag.attributes (name_is n) × All (Needs n) ps)

-- These attributes a start of this name may have next, in whichever of the elements that it may begin, and without these
-- names it begins none of them.
pub record IsTag (g : Reading) (now : List (Simple ℕ)) (q : Name) (tag : Tag) : Type 0 where
  pub bodies : List (Simple ℕ)
  pub are : AreBodies g now q bodies
  pub has : IsTagOf bodies tag
