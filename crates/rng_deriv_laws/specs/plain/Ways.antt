-- The meaning of lists of ways, and when they are the ways of a pattern. Lists that `item_ways` does not make (with
-- equal leaves joined, or with lists opened to the right) may be the ways of a pattern too. `proofs/ItemWays` and
-- `proofs/AttributeWays` have a law for each kind of pattern.
use Rattle.std.specs.Prelude.{◌⊎◌, ℕ, List, [], ◌∷◌}
use Rattle.rng_model.specs.simple.Tree.{Simple, s_not_allowed, s_empty, s_text, s_leaf, s_attribute, s_list, s_data, s_data_except, s_value, s_one_or_more}
use Rattle.rng_model.specs.simple.Tree.{s_joined}
use Rattle.rng_model.specs.matching.Document.{Attribute, Item, Distinct}
use Rattle.rng_model.specs.matching.GrammarMatching.{Reading}
use Rattle.rng_deriv_laws.specs.plain.Taking.{Takes, WeaklyTakes}
use Rattle.rng_deriv_laws.specs.plain.Blanks.{IsBare}
use Rattle.rng_deriv_laws.specs.plain.Derivatives.{Way}

module _ (g : Reading) where
  -- some leaf takes the item, and its rest takes the other items
  abbrev pub TakesItem : List Way → Item → List Item → Type 0
  TakesItem [] n ns = ⊥
  TakesItem (w ∷ ws) n ns = (Takes g w.leaf [] (n ∷ []) × Takes g w.rest [] ns) ⊎ TakesItem ws n ns

  -- some leaf takes the attribute, and its rest takes the other attributes with the items
  abbrev pub TakesAttribute : List Way → Attribute → List Attribute → List Item → Type 0
  TakesAttribute [] a xs ns = ⊥
  TakesAttribute (w ∷ ws) a xs ns = (Takes g w.leaf (a ∷ []) [] × Takes g w.rest xs ns) ⊎ TakesAttribute ws a xs ns

  -- some body weakly takes the attributes and children, and its rest takes the items that follow
  abbrev pub Opens : List Attribute → List Item → List Item → List Way → Type 0
  Opens xs kids ns [] = ⊥
  Opens xs kids ns (w ∷ ws) = (WeaklyTakes g w.leaf xs kids × Takes g w.rest [] ns) ⊎ Opens xs kids ns ws

  -- p takes an item of the kind, followed by others, exactly if some way does; blank strings beside elements are
  -- removed already
  pub record AreItemWays (Kind : Item → Type 0) (p : Simple ℕ) (ws : List Way) : Type 0 where
    pub to : (n : Item) (ns : List Item) → Kind n → IsBare (n ∷ ns) → Takes g p [] (n ∷ ns) → TakesItem ws n ns
    pub back : (n : Item) (ns : List Item) → TakesItem ws n ns → Takes g p [] (n ∷ ns)

  -- p takes an attribute of the kind, and others, with items, exactly if some way does
  pub record AreAttributeWays (Kind : Attribute → Type 0) (p : Simple ℕ) (ws : List Way) : Type 0 where
    pub to : (a : Attribute) (xs : List Attribute) (ns : List Item) → Kind a → Takes g p (a ∷ xs) ns → TakesAttribute ws a xs ns
    pub back : (a : Attribute) (xs : List Attribute) (ns : List Item) → Distinct (a ∷ xs) → TakesAttribute ws a xs ns → Takes g p (a ∷ xs) ns

-- each way's leaf satisfies P, and its rest satisfies Q
abbrev pub EachWay : (Simple ℕ → Type 0) → (Simple ℕ → Type 0) → List Way → Type 0
EachWay P Q [] = Unit {0}
EachWay P Q (w ∷ ws) = (P w.leaf × Q w.rest) × EachWay P Q ws

-- the leaves that may take an item
abbrev pub IsItemLeaf : Simple ℕ → Type 0
IsItemLeaf s_not_allowed = ⊥
IsItemLeaf s_empty = ⊥
IsItemLeaf s_text = Unit {0}
IsItemLeaf (s_leaf k) = Unit {0}
IsItemLeaf (s_attribute c p) = ⊥
IsItemLeaf (s_list p) = Unit {0}
IsItemLeaf (s_data d) = Unit {0}
IsItemLeaf (s_data_except d p) = Unit {0}
IsItemLeaf (s_value d v) = Unit {0}
IsItemLeaf (s_one_or_more p) = ⊥
IsItemLeaf (s_joined k p q) = ⊥

-- the leaves that may take an attribute
abbrev pub IsAttributeLeaf : Simple ℕ → Type 0
IsAttributeLeaf s_not_allowed = ⊥
IsAttributeLeaf s_empty = ⊥
IsAttributeLeaf s_text = ⊥
IsAttributeLeaf (s_leaf k) = ⊥
IsAttributeLeaf (s_attribute c p) = Unit {0}
IsAttributeLeaf (s_list p) = ⊥
IsAttributeLeaf (s_data d) = ⊥
IsAttributeLeaf (s_data_except d p) = ⊥
IsAttributeLeaf (s_value d v) = ⊥
IsAttributeLeaf (s_one_or_more p) = ⊥
IsAttributeLeaf (s_joined k p q) = ⊥
