-- Documents: element trees with expanded names (RELAX NG Specification, section 2), the names of their attributes, and
-- how members of a pattern share out attributes and items.
use Rattle.std.specs.Prelude.{◌≡◌, ℕ, List, [], ◌∷◌, ◌++◌, Bool, true, ◌≢◌}
use Rattle.rng_model.specs.names.Names.{Name}
use Rattle.rng_model.specs.simple.Tree.{Connector, group, interleave}

pub record Attribute : Type 0 where
  pub name : Name
  pub content : List ℕ

-- a string, or an element with its attributes and children
mutual
  pub data Item : Type 0 where
    a_text : List ℕ → Item
    an_element : Name → List Attribute → Items → Item

  pub data Items : Type 0 where
    no_items : Items
    item_and : Item → Items → Items

abbrev pub list_of : Items → List Item
list_of no_items = []
list_of (item_and n ns) = n ∷ list_of ns

-- zs is an interleaving of xs and ys (RELAX NG Specification, section 6.2.6)
pub data Interleaves {A : Type 0} : List A → List A → List A → Type 0 where
  done : Interleaves [] [] []
  left : {x : A} {xs ys zs : List A} → Interleaves xs ys zs → Interleaves (x ∷ xs) ys (x ∷ zs)
  right : {y : A} {xs ys zs : List A} → Interleaves xs ys zs → Interleaves xs (y ∷ ys) (y ∷ zs)

-- what two members take is the whole: one after the other for `,`, in any order for `&`
pub data Shares {A : Type 0} : Connector → List A → List A → List A → Type 0 where
  in_order : {ms ns os : List A} → ms ++ ns ≡ os → Shares group ms ns os
  in_any_order : {ms ns os : List A} → Interleaves ms ns os → Shares interleave ms ns os

-- each item is a string
pub data AllTexts : List Item → Type 0 where
  no_texts : AllTexts []
  text_and : {s : List ℕ} {ns : List Item} → AllTexts ns → AllTexts (a_text s ∷ ns)

-- some name occurs in both lists
pub data SharesName : List Attribute → List Attribute → Type 0 where
  same : {a b : Attribute} {xs ys : List Attribute} → a.name ≡ b.name → SharesName (a ∷ xs) (b ∷ ys)
  later_left : {a : Attribute} {xs ys : List Attribute} → SharesName xs ys → SharesName (a ∷ xs) ys
  later_right : {b : Attribute} {xs ys : List Attribute} → SharesName xs ys → SharesName xs (b ∷ ys)

-- an item with an optional blank string on either side (RELAX NG Specification, section 6.2.7)
pub data Padded (blank : List ℕ → Bool) : Item → List Item → Type 0 where
  alone : {n : Item} → Padded blank n (n ∷ [])
  before : {n : Item} {s : List ℕ} → blank s ≡ true → Padded blank n (a_text s ∷ n ∷ [])
  after : {n : Item} {s : List ℕ} → blank s ≡ true → Padded blank n (n ∷ a_text s ∷ [])
  both_sides : {n : Item} {s t : List ℕ} → blank s ≡ true → blank t ≡ true → Padded blank n (a_text s ∷ n ∷ a_text t ∷ [])

-- ---- the attributes of one element

-- no attribute has this name
pub data HasNoName (name : Name) : List Attribute → Type 0 where
  nothing_named : HasNoName name []
  another_name : {a : Attribute} {attrs : List Attribute} → a.name ≢ name → HasNoName name attrs → HasNoName name (a ∷ attrs)

-- no two attributes have the same name (Namespaces in XML 1.0, section 6.3)
pub data Distinct : List Attribute → Type 0 where
  none : Distinct []
  one_more : {a : Attribute} {attrs : List Attribute} → HasNoName a.name attrs → Distinct attrs → Distinct (a ∷ attrs)
