-- Leaves: those that may take something of a kind, and their ways.
use Rattle.std.proofs.Common.{◌≡◌, ℕ, List, [], ◌∷◌, refl, subst, true, false}
use Rattle.rng_model.proofs.Truths.{not_both}
use Rattle.rng_model.specs.names.Names.{Name}
use Rattle.rng_model.specs.simple.Tree.{Simple, s_not_allowed, s_empty, s_text, s_leaf, s_attribute, s_list, s_data, s_data_except}
use Rattle.rng_model.specs.simple.Tree.{s_value, s_one_or_more, s_joined}
use Rattle.rng_model.specs.matching.Document.{Attribute, Item, text_and}
use Rattle.rng_model.specs.matching.Document as document
use Rattle.rng_names.specs.plain.Holding.{holds}
use Rattle.rng_model.specs.matching.GrammarMatching.{Reading}
use Rattle.rng_deriv_laws.specs.plain.Reading.{has_name}
use Rattle.rng_deriv_laws.specs.plain.Taking.{Takes}
use Rattle.rng_deriv_laws.specs.plain.Taking as t
use Rattle.rng_deriv_laws.specs.plain.Blanks.{IsBare, cons, strings_alone, no_blanks}
use Rattle.rng_deriv_laws.specs.plain.Derivatives.{Way, item_ways, attribute_ways}
use Rattle.rng_deriv_laws.specs.plain.Ways.{AreItemWays, AreAttributeWays, IsItemLeaf, IsAttributeLeaf}
use Rattle.rng_deriv_laws.proofs.ItemWays.{item_ways-are}
use Rattle.rng_deriv_laws.proofs.AttributeWays.{attribute_ways-are}
use Rattle.rng_deriv_laws.proofs.KeptRestrictions.{item_ways-keep, attribute_ways-keep}
use Rattle.rng_model.specs.names.NameViews.{name_of}
use Rattle.rng_deriv_ways.specs.plain.Kinds.{IsAlone, IsElementNamed, IsLeafOf, IsNamed, IsText, Obeys, rest_of_leaf, takes_kind}
use Rattle.rng_deriv_ways.specs.plain.Ways.{AreKept, AreWays}
use Rattle.rng_deriv_ways.specs.declared.way.Kind.{Kind}
use Rattle.rng_deriv_ways.specs.declared.way.Kind.TheVariants as kinds
use Rattle.rng_deriv_ways.specs.declared.way.Place.{Place}
use Rattle.rng_deriv_ways.proofs.KeptRestrictions.{Obeys-hereditary}

-- a leaf, with what is left after it
abbrev pub leaf_way : Simple ℕ → Way
leaf_way p = record { leaf = p; rest = rest_of_leaf p }

pub is_leaf : (g : Reading) (kind : Kind) (p : Simple ℕ) → takes_kind g kind p ≡ true → IsLeafOf kind p
is_leaf g (kinds.Element q) s_not_allowed e = absurd (cc)
is_leaf g (kinds.Element q) s_empty e = absurd (cc)
is_leaf g (kinds.Element q) s_text e = tt
is_leaf g (kinds.Element q) (s_leaf k) e = tt
is_leaf g (kinds.Element q) (s_attribute c p) e = absurd (cc)
is_leaf g (kinds.Element q) (s_list p) e = tt
is_leaf g (kinds.Element q) (s_data d) e = tt
is_leaf g (kinds.Element q) (s_data_except d p) e = tt
is_leaf g (kinds.Element q) (s_value d v) e = tt
is_leaf g (kinds.Element q) (s_one_or_more p) e = absurd (cc)
is_leaf g (kinds.Element q) (s_joined j p r) e = absurd (cc)
is_leaf g (kinds.Attribute q) s_not_allowed e = absurd (cc)
is_leaf g (kinds.Attribute q) s_empty e = absurd (cc)
is_leaf g (kinds.Attribute q) s_text e = absurd (cc)
is_leaf g (kinds.Attribute q) (s_leaf k) e = absurd (cc)
is_leaf g (kinds.Attribute q) (s_attribute c p) e = tt
is_leaf g (kinds.Attribute q) (s_list p) e = absurd (cc)
is_leaf g (kinds.Attribute q) (s_data d) e = absurd (cc)
is_leaf g (kinds.Attribute q) (s_data_except d p) e = absurd (cc)
is_leaf g (kinds.Attribute q) (s_value d v) e = absurd (cc)
is_leaf g (kinds.Attribute q) (s_one_or_more p) e = absurd (cc)
is_leaf g (kinds.Attribute q) (s_joined j p r) e = absurd (cc)
is_leaf g kinds.Text s_not_allowed e = absurd (cc)
is_leaf g kinds.Text s_empty e = absurd (cc)
is_leaf g kinds.Text s_text e = tt
is_leaf g kinds.Text (s_leaf k) e = tt
is_leaf g kinds.Text (s_attribute c p) e = absurd (cc)
is_leaf g kinds.Text (s_list p) e = tt
is_leaf g kinds.Text (s_data d) e = tt
is_leaf g kinds.Text (s_data_except d p) e = tt
is_leaf g kinds.Text (s_value d v) e = tt
is_leaf g kinds.Text (s_one_or_more p) e = absurd (cc)
is_leaf g kinds.Text (s_joined j p r) e = absurd (cc)

item_leaf : (p : Simple ℕ) → IsItemLeaf p → item_ways p ≡ leaf_way p ∷ []
item_leaf s_not_allowed h = absurd h
item_leaf s_empty h = absurd h
item_leaf s_text h = refl
item_leaf (s_leaf k) h = refl
item_leaf (s_attribute c p) h = absurd h
item_leaf (s_list p) h = refl
item_leaf (s_data d) h = refl
item_leaf (s_data_except d p) h = refl
item_leaf (s_value d v) h = refl
item_leaf (s_one_or_more p) h = absurd h
item_leaf (s_joined j p r) h = absurd h

pub attribute_leaf : (p : Simple ℕ) → IsAttributeLeaf p → attribute_ways p ≡ leaf_way p ∷ []
attribute_leaf s_not_allowed h = absurd h
attribute_leaf s_empty h = absurd h
attribute_leaf s_text h = absurd h
attribute_leaf (s_leaf k) h = absurd h
attribute_leaf (s_attribute c p) h = refl
attribute_leaf (s_list p) h = absurd h
attribute_leaf (s_data d) h = absurd h
attribute_leaf (s_data_except d p) h = absurd h
attribute_leaf (s_value d v) h = absurd h
attribute_leaf (s_one_or_more p) h = absurd h
attribute_leaf (s_joined j p r) h = absurd h

pub leaf_law : (g : Reading) (kind : Kind) (p : Simple ℕ) → IsLeafOf kind p → AreWays g kind p (leaf_way p ∷ [])
leaf_law g (kinds.Element q) p h = subst (λ ws. AreItemWays g (IsElementNamed (name_of q.now)) p ws) (item_leaf p h) (item_ways-are g _ p)
leaf_law g (kinds.Attribute q) p h = λ well.
    subst (λ ws. AreAttributeWays g (IsNamed (name_of q.now)) p ws) (attribute_leaf p h) (attribute_ways-are g _ p well)
leaf_law g kinds.Text p h = subst (λ ws. AreItemWays g IsText p ws) (item_leaf p h) (item_ways-are g _ p)

pub leaf_kept : (kind : Kind) (place : Place) (p : Simple ℕ) → IsLeafOf kind p → Obeys place p → AreKept kind place (leaf_way p ∷ [])
leaf_kept (kinds.Element q) place p h o = subst (AreKept (kinds.Element q) place) (item_leaf p h) (item_ways-keep (Obeys place) (Obeys-hereditary place) p o)
leaf_kept (kinds.Attribute q) place p h o =
    subst (AreKept (kinds.Attribute q) place) (attribute_leaf p h) (attribute_ways-keep (Obeys place) (Obeys-hereditary place) p o)
leaf_kept kinds.Text place p h o = subst (AreKept kinds.Text place) (item_leaf p h) (item_ways-keep (Obeys place) (Obeys-hereditary place) p o)

-- ---- other patterns that are not joined and not repetitions take nothing of the kind first

module _ (g : Reading) where
  no_items : (Kind : Item → Type 0) (p : Simple ℕ) → ((n : Item) (ns : List Item) → Kind n → IsBare (n ∷ ns) → Takes g p [] (n ∷ ns) → ⊥)
      → AreItemWays g Kind p []
  no_items Kind p none = record { to = λ n ns kind bare d. absurd (none n ns kind bare d); back = λ n ns h. absurd h }

  no_attributes : (Kind : Attribute → Type 0) (p : Simple ℕ) → ((a : Attribute) (xs : List Attribute) (ns : List Item) → Kind a → Takes g p (a ∷ xs) ns → ⊥)
      → AreAttributeWays g Kind p []
  no_attributes Kind p none = record { to = λ a xs ns kind d. absurd (none a xs ns kind d); back = λ a xs ns u h. absurd h }

  other_name : (q : Name) (k : ℕ) → has_name g k q ≡ false → (n : Item) (ns : List Item) → IsElementNamed q n → IsBare (n ∷ ns)
      → Takes g (s_leaf k) [] (n ∷ ns) → ⊥
  other_name q k e n ns kind bare (t.element_is i w document.alone) = not_both (subst (λ r. has_name g k r ≡ true) kind i) e
  other_name q k e n ns kind bare (t.element_is i w (document.before b)) = absurd kind
  other_name q k e n ns kind bare (t.element_is i w (document.after b)) = not_both (subst (λ r. has_name g k r ≡ true) kind i) e
  other_name q k e n ns kind bare (t.element_is i w (document.both_sides b c)) = absurd kind

  no_text_leaf : (k : ℕ) (n : Item) (ns : List Item) → IsText n → IsBare (n ∷ ns) → Takes g (s_leaf k) [] (n ∷ ns) → ⊥
  no_text_leaf k n ns kind bare (t.element_is i w document.alone) = absurd kind
  no_text_leaf k n ns kind (strings_alone (text_and all)) (t.element_is i w (document.before b)) = elim all [ ]
  no_text_leaf k n ns kind (no_blanks (cons p all)) (t.element_is i w (document.before {s = s} b)) = not_both b p
  no_text_leaf k n ns kind bare (t.element_is i w (document.after b)) = absurd kind
  no_text_leaf k n ns kind (strings_alone (text_and all)) (t.element_is i w (document.both_sides b c)) = elim all [ ]
  no_text_leaf k n ns kind (no_blanks (cons p all)) (t.element_is i w (document.both_sides {s = s} b c)) = not_both b p

  no_element_text : (q : Name) (n : Item) (ns : List Item) → IsElementNamed q n → Takes g s_text [] (n ∷ ns) → ⊥
  no_element_text q n ns kind (t.text_is (text_and all)) = absurd kind

  no_element_list : (q : Name) (p : Simple ℕ) (n : Item) (ns : List Item) → IsElementNamed q n → Takes g (s_list p) [] (n ∷ ns) → ⊥
  no_element_list q p n ns kind (t.list_is e d) = absurd kind

  no_element_data : (q : Name) (d : _) (n : Item) (ns : List Item) → IsElementNamed q n → Takes g (s_data d) [] (n ∷ ns) → ⊥
  no_element_data q d n ns kind (t.data_is e) = absurd kind

  no_element_except : (q : Name) (d : _) (p : Simple ℕ) (n : Item) (ns : List Item) → IsElementNamed q n → Takes g (s_data_except d p) [] (n ∷ ns) → ⊥
  no_element_except q d p n ns kind (t.data_but e f) = absurd kind

  no_element_value : (q : Name) (d : _) (v : List ℕ) (n : Item) (ns : List Item) → IsElementNamed q n → Takes g (s_value d v) [] (n ∷ ns) → ⊥
  no_element_value q d v n ns kind (t.value_is e) = absurd kind

  other_attribute : (q : Name) (c : _) (p : Simple ℕ) → holds c q ≡ false → (a : Attribute) (xs : List Attribute) (ns : List Item) → IsNamed q a
      → Takes g (s_attribute c p) (a ∷ xs) ns → ⊥
  other_attribute q c p e a xs ns kind (t.attribute_is i w) = not_both (subst (λ r. holds c r ≡ true) kind i) e

  pub no_law : (kind : Kind) (p : Simple ℕ) → IsAlone p → takes_kind g kind p ≡ false → AreWays g kind p []
  no_law (kinds.Element q) s_not_allowed h e = no_items _ s_not_allowed (λ n ns kind bare d. elim d [ ])
  no_law (kinds.Element q) s_empty h e = no_items _ s_empty (λ n ns kind bare d. elim d [ ])
  no_law (kinds.Element q) s_text h e = no_items _ s_text (λ n ns kind bare d. no_element_text _ n ns kind d)
  no_law (kinds.Element q) (s_leaf k) h e = no_items _ (s_leaf k) (other_name (name_of q.now) k e)
  no_law (kinds.Element q) (s_attribute c p) h e = no_items _ (s_attribute c p) (λ n ns kind bare d. elim d [ ])
  no_law (kinds.Element q) (s_list p) h e = no_items _ (s_list p) (λ n ns kind bare d. no_element_list _ p n ns kind d)
  no_law (kinds.Element q) (s_data d) h e = no_items _ (s_data d) (λ n ns kind bare i. no_element_data _ d n ns kind i)
  no_law (kinds.Element q) (s_data_except d p) h e = no_items _ (s_data_except d p) (λ n ns kind bare i. no_element_except _ d p n ns kind i)
  no_law (kinds.Element q) (s_value d v) h e = no_items _ (s_value d v) (λ n ns kind bare i. no_element_value _ d v n ns kind i)
  no_law (kinds.Element q) (s_one_or_more p) h e = absurd h
  no_law (kinds.Element q) (s_joined j p r) h e = absurd h
  no_law (kinds.Attribute q) s_not_allowed h e = λ well. no_attributes _ s_not_allowed (λ a xs ns kind d. elim d [ ])
  no_law (kinds.Attribute q) s_empty h e = λ well. no_attributes _ s_empty (λ a xs ns kind d. elim d [ ])
  no_law (kinds.Attribute q) s_text h e = λ well. no_attributes _ s_text (λ a xs ns kind d. elim d [ ])
  no_law (kinds.Attribute q) (s_leaf k) h e = λ well. no_attributes _ (s_leaf k) (λ a xs ns kind d. elim d [ ])
  no_law (kinds.Attribute q) (s_attribute c p) h e = λ well. no_attributes _ (s_attribute c p) (other_attribute (name_of q.now) c p e)
  no_law (kinds.Attribute q) (s_list p) h e = λ well. no_attributes _ (s_list p) (λ a xs ns kind d. elim d [ ])
  no_law (kinds.Attribute q) (s_data d) h e = λ well. no_attributes _ (s_data d) (λ a xs ns kind d. elim d [ ])
  no_law (kinds.Attribute q) (s_data_except d p) h e = λ well. no_attributes _ (s_data_except d p) (λ a xs ns kind d. elim d [ ])
  no_law (kinds.Attribute q) (s_value d v) h e = λ well. no_attributes _ (s_value d v) (λ a xs ns kind d. elim d [ ])
  no_law (kinds.Attribute q) (s_one_or_more p) h e = absurd h
  no_law (kinds.Attribute q) (s_joined j p r) h e = absurd h
  no_law kinds.Text s_not_allowed h e = no_items _ s_not_allowed (λ n ns kind bare d. elim d [ ])
  no_law kinds.Text s_empty h e = no_items _ s_empty (λ n ns kind bare d. elim d [ ])
  no_law kinds.Text s_text h e = absurd (cc)
  no_law kinds.Text (s_leaf k) h e = no_items _ (s_leaf k) (no_text_leaf k)
  no_law kinds.Text (s_attribute c p) h e = no_items _ (s_attribute c p) (λ n ns kind bare d. elim d [ ])
  no_law kinds.Text (s_list p) h e = absurd (cc)
  no_law kinds.Text (s_data d) h e = absurd (cc)
  no_law kinds.Text (s_data_except d p) h e = absurd (cc)
  no_law kinds.Text (s_value d v) h e = absurd (cc)
  no_law kinds.Text (s_one_or_more p) h e = absurd h
  no_law kinds.Text (s_joined j p r) h e = absurd h
