-- What may come next behind a tag, by what is left of the innermost open element (RELAX NG Specification, sections 6.2 and
-- 6.2.7). An element counts where its pattern stands, whether or not some attributes and children match its body, and a
-- datatype whether or not it allows some text.
use Rattle.std.specs.Prelude.{◌≡◌, ◌↔◌, ◌⊎◌, ⊤, ℕ, List, [], Contains, Bool, true, false, Some, slice_get}
use Rattle.rng_model.specs.names.Names.{NameClass}
use Rattle.rng_model.specs.matching.GrammarMatching.{Reading}
use Rattle.rng_model.specs.simple.Grammar.{Grammar}
use Rattle.rng_model.specs.simple.Tree.{Datatype, Simple, choice, group, interleave, s_not_allowed, s_empty, s_text, s_leaf, s_attribute, s_list, s_data}
use Rattle.rng_model.specs.simple.Tree.{s_data_except, s_value, s_one_or_more, s_joined}
use Rattle.rng_deriv_laws.specs.plain.Derivatives.{is_nullable}
use Rattle.rng_deriv_laws.specs.plain.LevelStates.{EndsNow, EndsWith}

-- ---- what a pattern may begin with

-- The leaf is an element, a text, a list, a data or a value, and may take the first item of what the pattern matches.
abbrev pub BeginsWith : Simple ℕ → Simple ℕ → Type 0
BeginsWith s_not_allowed l = ⊥
BeginsWith s_empty l = ⊥
BeginsWith s_text l = l ≡ s_text
BeginsWith (s_leaf k) l = l ≡ s_leaf k
BeginsWith (s_attribute c p) l = ⊥
BeginsWith (s_list p) l = l ≡ s_list p
BeginsWith (s_data d) l = l ≡ s_data d
BeginsWith (s_data_except d p) l = l ≡ s_data_except d p
BeginsWith (s_value d v) l = l ≡ s_value d v
-- 6.2.5
BeginsWith (s_one_or_more p) l = BeginsWith p l
-- 6.2.1
BeginsWith (s_joined choice p q) l = BeginsWith p l ⊎ BeginsWith q l
-- 6.2.2: the second side begins if the first one may match nothing
BeginsWith (s_joined group p q) l = BeginsWith p l ⊎ ((is_nullable p ≡ true) × BeginsWith q l)
-- 6.2.6
BeginsWith (s_joined interleave p q) l = BeginsWith p l ⊎ BeginsWith q l

-- some alternative may begin with such a leaf
abbrev pub SomeBegins : List (Simple ℕ) → (Simple ℕ → Type 0) → Type 0
SomeBegins now Is = (p : Simple ℕ) × (l : Simple ℕ) × Contains now p × BeginsWith p l × Is l

-- ---- leaves

-- an element with this name class
abbrev pub IsElementOf : Grammar → NameClass → Simple ℕ → Type 0
IsElementOf g c l = (k : ℕ) × (body : Simple ℕ) × (l ≡ s_leaf k) × (slice_get g.elements k ≡ Some (c, body))

-- it takes strings, and no elements
abbrev pub IsOfStrings : Simple ℕ → Type 0
IsOfStrings s_not_allowed = ⊥
IsOfStrings s_empty = ⊥
IsOfStrings s_text = ⊤
IsOfStrings (s_leaf k) = ⊥
IsOfStrings (s_attribute c p) = ⊥
IsOfStrings (s_list p) = ⊤
IsOfStrings (s_data d) = ⊤
IsOfStrings (s_data_except d p) = ⊤
IsOfStrings (s_value d v) = ⊤
IsOfStrings (s_one_or_more p) = ⊥
IsOfStrings (s_joined k p q) = ⊥

-- the value with this datatype and this text
abbrev pub IsValueOf : Datatype × List ℕ → Simple ℕ → Type 0
IsValueOf v l = l ≡ s_value v.0 v.1

-- a data of this datatype, with an except or without
abbrev pub IsDataOf : Datatype → Simple ℕ → Type 0
IsDataOf d l = (l ≡ s_data d) ⊎ ((except : Simple ℕ) × (l ≡ s_data_except d except))

-- ---- the end of the innermost element

-- what is left may end, whether there is a child element or not; an element with no child and no text has the empty
-- string (section 6.2.7)
abbrev pub Ends : Reading → Bool → Simple ℕ → Type 0
Ends g true p = EndsNow g p
Ends g false p = EndsWith g [] p

-- ---- what may come next

pub record Next : Type 0 where
  pub elements : List NameClass
  pub text : Bool
  pub values : List (Datatype × List ℕ)
  pub datatypes : List Datatype

-- nothing may come
abbrev pub nothing : Next
nothing = record { elements = []; text = false; values = []; datatypes = [] }

-- this is all that may come next, by the alternatives for what remains of the innermost open element
pub record IsExpected (g : Grammar) (now : List (Simple ℕ)) (next : Next) : Type 0 where
  pub elements : (c : NameClass) → Contains next.elements c ↔ SomeBegins now (IsElementOf g c)
  pub text : (next.text ≡ true) ↔ SomeBegins now IsOfStrings
  pub values : (v : Datatype × List ℕ) → Contains next.values v ↔ SomeBegins now (IsValueOf v)
  pub datatypes : (d : Datatype) → Contains next.datatypes d ↔ SomeBegins now (IsDataOf d)
