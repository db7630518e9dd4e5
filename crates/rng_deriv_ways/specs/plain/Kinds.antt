-- What comes first, and what may take it.
use Rattle.std.specs.Prelude.{◌≡◌, ℕ, ◌+◌, ◌*◌, Bool, true, false}
use Rattle.rng_model.specs.names.Names.{Name}
use Rattle.rng_model.specs.simple.Tree.{Simple, Connector, choice, group, interleave, s_not_allowed, s_empty, s_text, s_leaf, s_attribute, s_list, s_data}
use Rattle.rng_model.specs.simple.Tree.{s_data_except, s_value}
use Rattle.rng_model.specs.simple.Tree.{s_one_or_more, s_joined}
use Rattle.rng_model.specs.matching.Document.{Attribute, Item, a_text, an_element}
use Rattle.rng_model.specs.names.NameViews.{name_of}
use Rattle.rng_names.specs.plain.Holding.{holds}
use Rattle.rng_model.specs.matching.GrammarMatching.{Reading}
use Rattle.rng_deriv_laws.specs.plain.Reading.{has_name}
use Rattle.rng_deriv_laws.specs.plain.Restricted.{IsRestricted, HasTexts}
use Rattle.rng_deriv_laws.specs.plain.Ways.{IsItemLeaf, IsAttributeLeaf}
use Rattle.rng_deriv_ways.specs.declared.way.Kind.{Kind}
use Rattle.rng_deriv_ways.specs.declared.way.Kind.TheVariants as kinds
use Rattle.rng_deriv_ways.specs.declared.way.Joint.{Joint}
use Rattle.rng_deriv_ways.specs.declared.way.Joint.TheVariants as joints
use Rattle.rng_deriv_ways.specs.declared.way.Place.{Place}
use Rattle.rng_deriv_ways.specs.declared.way.Place.TheVariants as places

abbrev pub IsElementNamed : Name → Item → Type 0
IsElementNamed q (a_text s) = ⊥
IsElementNamed q (an_element r xs kids) = r ≡ q

abbrev pub IsText : Item → Type 0
IsText (a_text s) = Unit {0}
IsText (an_element r xs kids) = ⊥

abbrev pub IsNamed : Name → Attribute → Type 0
IsNamed q a = a.name ≡ q

-- the leaf is of a sort that takes items, or attributes
abbrev pub IsLeafOf : Kind → Simple ℕ → Type 0
IsLeafOf (kinds.Element q) p = IsItemLeaf p
IsLeafOf (kinds.Attribute q) p = IsAttributeLeaf p
IsLeafOf kinds.Text p = IsItemLeaf p

-- the restrictions that patterns obey at a place (RELAX NG Specification, sections 7.1.2 to 7.1.4)
abbrev pub Obeys : Place → Simple ℕ → Type 0
Obeys places.Content p = IsRestricted p
Obeys places.List p = HasTexts (λ q. ⊥) p

abbrev pub connector_of : Joint → Connector
connector_of joints.Group = group
connector_of joints.Interleave = interleave

-- either side may come first: attributes have no order
abbrev pub HasNoOrder : Kind → Joint → Type 0
HasNoOrder (kinds.Element q) joints.Group = ⊥
HasNoOrder (kinds.Element q) joints.Interleave = Unit {0}
HasNoOrder (kinds.Attribute q) joint = Unit {0}
HasNoOrder kinds.Text joints.Group = ⊥
HasNoOrder kinds.Text joints.Interleave = Unit {0}

-- it is not an attribute
abbrev pub IsOfItems : Kind → Type 0
IsOfItems (kinds.Element q) = Unit {0}
IsOfItems (kinds.Attribute q) = ⊥
IsOfItems kinds.Text = Unit {0}

-- it is not a joined pattern and not a repetition
abbrev pub IsAlone : Simple ℕ → Type 0
IsAlone s_not_allowed = Unit {0}
IsAlone s_empty = Unit {0}
IsAlone s_text = Unit {0}
IsAlone (s_leaf k) = Unit {0}
IsAlone (s_attribute c p) = Unit {0}
IsAlone (s_list p) = Unit {0}
IsAlone (s_data d) = Unit {0}
IsAlone (s_data_except d p) = Unit {0}
IsAlone (s_value d v) = Unit {0}
IsAlone (s_one_or_more p) = ⊥
IsAlone (s_joined k p q) = ⊥

-- a leaf may take something of this kind, by its name or because it is a text
abbrev pub takes_kind : Reading → Kind → Simple ℕ → Bool
takes_kind g (kinds.Element q) (s_leaf k) = has_name g k (name_of q.now)
takes_kind g (kinds.Attribute q) (s_attribute c p) = holds c (name_of q.now)
takes_kind g kinds.Text s_text = true
takes_kind g kinds.Text (s_list p) = true
takes_kind g kinds.Text (s_data d) = true
takes_kind g kinds.Text (s_data_except d p) = true
takes_kind g kinds.Text (s_value d v) = true
takes_kind g _ _ = false

-- what is left after a leaf
abbrev pub rest_of_leaf : Simple ℕ → Simple ℕ
rest_of_leaf s_text = s_text
rest_of_leaf _ = s_empty

-- It is greater than that of each side. Reassociating a group to the right decreases it.
abbrev pub weight : Simple ℕ → ℕ
weight s_not_allowed = 1
weight s_empty = 1
weight s_text = 1
weight (s_leaf k) = 1
weight (s_attribute c p) = 1
weight (s_list p) = 1
weight (s_data d) = 1
weight (s_data_except d p) = 1
weight (s_value d v) = 1
weight (s_one_or_more p) = weight p + 1
weight (s_joined group p q) = 2 * weight p + weight q + 1
weight (s_joined interleave p q) = weight p + weight q + 1
weight (s_joined choice p q) = weight p + weight q + 1
