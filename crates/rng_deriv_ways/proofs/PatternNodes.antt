-- Patterns of a table, one by one: the leaves, and the patterns that take something of a kind.
use Rattle.std.proofs.Common.{◌≡◌, ℕ, List, [], ◌∷◌, map, slice_get, refl, sym, ap, ◌∙◌, subst, arith, false, Option, Some, None}
use Rattle.rng_model.specs.simple.Tree.{Simple, s_not_allowed, s_empty, s_text, s_leaf, s_attribute, s_list, s_data, s_data_except}
use Rattle.rng_model.specs.simple.Tree.{s_value, s_one_or_more, s_joined}
use Rattle.rng_model.specs.names.Names.{NameClass}
use Rattle.rng_model.specs.simple.Table.{Table}
use Rattle.rng_model.specs.declared.simple.Simple as row
use Rattle.rng_model.specs.declared.simple.Simple.TheVariants as simple
use Rattle.rng_model.specs.matching.GrammarMatching.{Reading}
use Rattle.rng_deriv_table.specs.views.Node.{Node, node_of}
use Rattle.rng_deriv_table.specs.views.Node as node
use Rattle.rng_deriv_table.specs.views.PatternTable.{ArePartsBelow, IsPatternTable}
use Rattle.rng_deriv_table.specs.views.Trees.{attribute_found, data_found, tree_of, tree_over}
use Rattle.rng_deriv_table.specs.declared.pattern.Pattern.{Pattern}
use Rattle.rng_deriv_table.specs.declared.pattern.Pattern.TheVariants as pattern
use Rattle.rng_deriv_table.proofs.Trees.{tree_of-over_parts}
use Rattle.rng_deriv_ways.specs.plain.Kinds.{IsAlone, rest_of_leaf, takes_kind}
use Rattle.rng_deriv_ways.specs.declared.way.Kind.{Kind}
use Rattle.rng_deriv_ways.specs.declared.way.Kind.TheVariants as kinds

-- a pattern of the table over its parts
pub is_over : (t : Table) (ns : List Node) (i : ℕ) (p q : Pattern) → IsPatternTable ns → slice_get ns i ≡ Some (node_of p) → p ≡ q
    → tree_of t ns i ≡ tree_over t (tree_of t ns) (node_of q)
is_over t ns i p q kept found e =
    let at : slice_get ns i ≡ Some (node_of q) = found ∙ ap (λ x. Some (node_of x)) e in
    tree_of-over_parts t ns i (node_of q) (kept.falls i (node_of q) at) at

pub parts_there : (ns : List Node) (i : ℕ) (p q : Pattern) → IsPatternTable ns → slice_get ns i ≡ Some (node_of p) → p ≡ q
    → ArePartsBelow i (node_of q)
parts_there ns i p q kept found e = kept.falls i (node_of q) (found ∙ ap (λ x. Some (node_of x)) e)

-- ---- what look-ups find

-- a pattern that one string matches
pub data IsStringLeaf : Simple ℕ → Type 0 where
  a_list : {p : Simple ℕ} → IsStringLeaf (s_list p)
  a_datatype : {d : _} → IsStringLeaf (s_data d)
  an_except : {d : _} {p : Simple ℕ} → IsStringLeaf (s_data_except d p)
  a_value : {d : _} {v : List ℕ} → IsStringLeaf (s_value d v)

pub found_string : (t : Table) (o : Option row.Simple) → IsStringLeaf (data_found t o)
found_string t None = a_list
found_string t (Some simple.NotAllowed) = a_list
found_string t (Some simple.Empty) = a_list
found_string t (Some simple.Text) = a_list
found_string t (Some (simple.Element e)) = a_list
found_string t (Some (simple.Attribute class body)) = a_list
found_string t (Some (simple.List body)) = a_list
found_string t (Some (simple.Data datatype)) = a_datatype
found_string t (Some (simple.DataExcept datatype except)) = an_except
found_string t (Some (simple.Value value)) = a_value
found_string t (Some (simple.OneOrMore body)) = a_list
found_string t (Some (simple.Group a b)) = a_list
found_string t (Some (simple.Interleave a b)) = a_list
found_string t (Some (simple.Choice a b)) = a_list

pub data IsAttribute : Simple ℕ → Type 0 where
  an_attribute : {c : NameClass} {p : Simple ℕ} → IsAttribute (s_attribute c p)

pub found_attribute : (t : Table) (o : Option row.Simple) → IsAttribute (attribute_found t o)
found_attribute t None = an_attribute
found_attribute t (Some simple.NotAllowed) = an_attribute
found_attribute t (Some simple.Empty) = an_attribute
found_attribute t (Some simple.Text) = an_attribute
found_attribute t (Some (simple.Element e)) = an_attribute
found_attribute t (Some (simple.Attribute class body)) = an_attribute
found_attribute t (Some (simple.List body)) = an_attribute
found_attribute t (Some (simple.Data datatype)) = an_attribute
found_attribute t (Some (simple.DataExcept datatype except)) = an_attribute
found_attribute t (Some (simple.Value value)) = an_attribute
found_attribute t (Some (simple.OneOrMore body)) = an_attribute
found_attribute t (Some (simple.Group a b)) = an_attribute
found_attribute t (Some (simple.Interleave a b)) = an_attribute
found_attribute t (Some (simple.Choice a b)) = an_attribute

string_rest : {p : Simple ℕ} → IsStringLeaf p → rest_of_leaf p ≡ s_empty
string_rest a_list = refl
string_rest a_datatype = refl
string_rest an_except = refl
string_rest a_value = refl

string_alone : {p : Simple ℕ} → IsStringLeaf p → IsAlone p
string_alone a_list = tt
string_alone a_datatype = tt
string_alone an_except = tt
string_alone a_value = tt

attribute_rest : {p : Simple ℕ} → IsAttribute p → rest_of_leaf p ≡ s_empty
attribute_rest an_attribute = refl

attribute_alone : {p : Simple ℕ} → IsAttribute p → IsAlone p
attribute_alone an_attribute = tt

-- a string leaf takes the kinds that a text takes
pub string_kind : (g : Reading) (kind : Kind) {p : Simple ℕ} → IsStringLeaf p → takes_kind g kind s_text ≡ takes_kind g kind p
string_kind g (kinds.Element q) a_list = refl
string_kind g (kinds.Element q) a_datatype = refl
string_kind g (kinds.Element q) an_except = refl
string_kind g (kinds.Element q) a_value = refl
string_kind g (kinds.Attribute q) a_list = refl
string_kind g (kinds.Attribute q) a_datatype = refl
string_kind g (kinds.Attribute q) an_except = refl
string_kind g (kinds.Attribute q) a_value = refl
string_kind g kinds.Text a_list = refl
string_kind g kinds.Text a_datatype = refl
string_kind g kinds.Text an_except = refl
string_kind g kinds.Text a_value = refl

-- ---- patterns that are not leaves

abbrev pub IsNoLeaf : Simple ℕ → Type 0
IsNoLeaf s_not_allowed = Unit {0}
IsNoLeaf s_empty = Unit {0}
IsNoLeaf s_text = ⊥
IsNoLeaf (s_leaf k) = ⊥
IsNoLeaf (s_attribute c p) = ⊥
IsNoLeaf (s_list p) = ⊥
IsNoLeaf (s_data d) = ⊥
IsNoLeaf (s_data_except d p) = ⊥
IsNoLeaf (s_value d v) = ⊥
IsNoLeaf (s_one_or_more p) = Unit {0}
IsNoLeaf (s_joined k p q) = Unit {0}

takes_no_kind : (g : Reading) (kind : Kind) (p : Simple ℕ) → IsNoLeaf p → false ≡ takes_kind g kind p
takes_no_kind g (kinds.Element q) s_not_allowed h = refl
takes_no_kind g (kinds.Element q) s_empty h = refl
takes_no_kind g (kinds.Element q) s_text h = absurd h
takes_no_kind g (kinds.Element q) (s_leaf k) h = absurd h
takes_no_kind g (kinds.Element q) (s_attribute c p) h = absurd h
takes_no_kind g (kinds.Element q) (s_list p) h = absurd h
takes_no_kind g (kinds.Element q) (s_data d) h = absurd h
takes_no_kind g (kinds.Element q) (s_data_except d p) h = absurd h
takes_no_kind g (kinds.Element q) (s_value d v) h = absurd h
takes_no_kind g (kinds.Element q) (s_one_or_more p) h = refl
takes_no_kind g (kinds.Element q) (s_joined j p r) h = refl
takes_no_kind g (kinds.Attribute q) s_not_allowed h = refl
takes_no_kind g (kinds.Attribute q) s_empty h = refl
takes_no_kind g (kinds.Attribute q) s_text h = absurd h
takes_no_kind g (kinds.Attribute q) (s_leaf k) h = absurd h
takes_no_kind g (kinds.Attribute q) (s_attribute c p) h = absurd h
takes_no_kind g (kinds.Attribute q) (s_list p) h = absurd h
takes_no_kind g (kinds.Attribute q) (s_data d) h = absurd h
takes_no_kind g (kinds.Attribute q) (s_data_except d p) h = absurd h
takes_no_kind g (kinds.Attribute q) (s_value d v) h = absurd h
takes_no_kind g (kinds.Attribute q) (s_one_or_more p) h = refl
takes_no_kind g (kinds.Attribute q) (s_joined j p r) h = refl
takes_no_kind g kinds.Text s_not_allowed h = refl
takes_no_kind g kinds.Text s_empty h = refl
takes_no_kind g kinds.Text s_text h = absurd h
takes_no_kind g kinds.Text (s_leaf k) h = absurd h
takes_no_kind g kinds.Text (s_attribute c p) h = absurd h
takes_no_kind g kinds.Text (s_list p) h = absurd h
takes_no_kind g kinds.Text (s_data d) h = absurd h
takes_no_kind g kinds.Text (s_data_except d p) h = absurd h
takes_no_kind g kinds.Text (s_value d v) h = absurd h
takes_no_kind g kinds.Text (s_one_or_more p) h = refl
takes_no_kind g kinds.Text (s_joined j p r) h = refl

abbrev pub IsCompound : Pattern → Type 0
IsCompound pattern.NotAllowed = Unit {0}
IsCompound pattern.Empty = Unit {0}
IsCompound pattern.Text = ⊥
IsCompound (pattern.Choice ms) = Unit {0}
IsCompound (pattern.Group a b) = Unit {0}
IsCompound (pattern.Interleave a b) = Unit {0}
IsCompound (pattern.OneOrMore a) = Unit {0}
IsCompound (pattern.Element e) = ⊥
IsCompound (pattern.Attribute a) = ⊥
IsCompound (pattern.Data d) = ⊥

-- a pattern of another kind than a leaf
pub other_compound : (p : Pattern) → (p ≡ pattern.Text → ⊥) → ((d : _) → p ≡ pattern.Data d → ⊥) → ((e : _) → p ≡ pattern.Element e → ⊥)
    → ((a : _) → p ≡ pattern.Attribute a → ⊥) → IsCompound p
other_compound pattern.NotAllowed h i j k = tt
other_compound pattern.Empty h i j k = tt
other_compound pattern.Text h i j k = absurd (h refl)
other_compound (pattern.Choice ms) h i j k = tt
other_compound (pattern.Group a b) h i j k = tt
other_compound (pattern.Interleave a b) h i j k = tt
other_compound (pattern.OneOrMore a) h i j k = tt
other_compound (pattern.Element e) h i j k = absurd (j e refl)
other_compound (pattern.Attribute a) h i j k = absurd (k a refl)
other_compound (pattern.Data d) h i j k = absurd (i d refl)

choice_compound : (t : Table) (f : ℕ → Simple ℕ) (ms : List ℕ) (i : ℕ) → ArePartsBelow i (node.choice ms) → IsNoLeaf (tree_over t f (node.choice ms))
choice_compound t f [] i h = absurd (omega (arith, h.0))
choice_compound t f (m ∷ []) i h = absurd (omega (arith, h.0))
choice_compound t f (m ∷ n ∷ ms) i h = tt

pub compound_over : (t : Table) (f : ℕ → Simple ℕ) (p : Pattern) (i : ℕ) → ArePartsBelow i (node_of p) → IsCompound p → IsNoLeaf (tree_over t f (node_of p))
compound_over t f pattern.NotAllowed i h k = tt
compound_over t f pattern.Empty i h k = tt
compound_over t f pattern.Text i h k = absurd k
compound_over t f (pattern.Choice ms) i h k = choice_compound t f (map (λ m. m.0) ms.items) i h
compound_over t f (pattern.Group a b) i h k = tt
compound_over t f (pattern.Interleave a b) i h k = tt
compound_over t f (pattern.OneOrMore a) i h k = tt
compound_over t f (pattern.Element e) i h k = absurd k
compound_over t f (pattern.Attribute a) i h k = absurd k
compound_over t f (pattern.Data d) i h k = absurd k

pub takes_nothing : (g : Reading) (kind : Kind) (t : Table) (ns : List Node) (i : ℕ) (p q : Pattern) → IsPatternTable ns → slice_get ns i ≡ Some (node_of p)
    → p ≡ q → IsCompound q → false ≡ takes_kind g kind (tree_of t ns i)
takes_nothing g kind t ns i p q kept found e compound =
    subst (λ s. false ≡ takes_kind g kind s) (sym (is_over t ns i p q kept found e))
    (takes_no_kind g kind _ (compound_over t (tree_of t ns) q i (parts_there ns i p q kept found e) compound))

-- ---- leaves

rest_over : (t : Table) (f : ℕ → Simple ℕ) (p : Pattern) (i : ℕ) → ArePartsBelow i (node_of p) → (p ≡ pattern.Text → ⊥)
    → rest_of_leaf (tree_over t f (node_of p)) ≡ s_empty
rest_over t f pattern.NotAllowed i h k = refl
rest_over t f pattern.Empty i h k = refl
rest_over t f pattern.Text i h k = absurd (k refl)
rest_over t f (pattern.Choice ms) i h k = choice_rest (map (λ m. m.0) ms.items) h where
  choice_rest : (ms : List ℕ) → ArePartsBelow i (node.choice ms) → rest_of_leaf (tree_over t f (node.choice ms)) ≡ s_empty
  choice_rest [] h = absurd (omega (arith, h.0))
  choice_rest (m ∷ []) h = absurd (omega (arith, h.0))
  choice_rest (m ∷ n ∷ ms) h = refl
rest_over t f (pattern.Group a b) i h k = refl
rest_over t f (pattern.Interleave a b) i h k = refl
rest_over t f (pattern.OneOrMore a) i h k = refl
rest_over t f (pattern.Element e) i h k = refl
rest_over t f (pattern.Attribute a) i h k = attribute_rest (found_attribute t (slice_get t.patterns a.0))
rest_over t f (pattern.Data d) i h k = string_rest (found_string t (slice_get t.patterns d.0))

pub rest_is_empty : (t : Table) (ns : List Node) (i : ℕ) (p : Pattern) → IsPatternTable ns → slice_get ns i ≡ Some (node_of p) → (p ≡ pattern.Text → ⊥)
    → rest_of_leaf (tree_of t ns i) ≡ s_empty
rest_is_empty t ns i p kept found other =
    ap rest_of_leaf (is_over t ns i p p kept found refl) ∙ rest_over t (tree_of t ns) p i (parts_there ns i p p kept found refl) other

abbrev pub IsSingle : Pattern → Type 0
IsSingle pattern.NotAllowed = Unit {0}
IsSingle pattern.Empty = Unit {0}
IsSingle pattern.Text = Unit {0}
IsSingle (pattern.Choice ms) = ⊥
IsSingle (pattern.Group a b) = ⊥
IsSingle (pattern.Interleave a b) = ⊥
IsSingle (pattern.OneOrMore a) = ⊥
IsSingle (pattern.Element e) = Unit {0}
IsSingle (pattern.Attribute a) = Unit {0}
IsSingle (pattern.Data d) = Unit {0}

-- a pattern of another kind than those with parts
pub other_single : (p : Pattern) → ((ms : _) → p ≡ pattern.Choice ms → ⊥) → ((a b : _) → p ≡ pattern.Group a b → ⊥)
    → ((a b : _) → p ≡ pattern.Interleave a b → ⊥) → ((a : _) → p ≡ pattern.OneOrMore a → ⊥) → IsSingle p
other_single pattern.NotAllowed h i j k = tt
other_single pattern.Empty h i j k = tt
other_single pattern.Text h i j k = tt
other_single (pattern.Choice ms) h i j k = absurd (h ms refl)
other_single (pattern.Group a b) h i j k = absurd (i a b refl)
other_single (pattern.Interleave a b) h i j k = absurd (j a b refl)
other_single (pattern.OneOrMore a) h i j k = absurd (k a refl)
other_single (pattern.Element e) h i j k = tt
other_single (pattern.Attribute a) h i j k = tt
other_single (pattern.Data d) h i j k = tt

single_over : (t : Table) (f : ℕ → Simple ℕ) (p : Pattern) → IsSingle p → IsAlone (tree_over t f (node_of p))
single_over t f pattern.NotAllowed k = tt
single_over t f pattern.Empty k = tt
single_over t f pattern.Text k = tt
single_over t f (pattern.Choice ms) k = absurd k
single_over t f (pattern.Group a b) k = absurd k
single_over t f (pattern.Interleave a b) k = absurd k
single_over t f (pattern.OneOrMore a) k = absurd k
single_over t f (pattern.Element e) k = tt
single_over t f (pattern.Attribute a) k = attribute_alone (found_attribute t (slice_get t.patterns a.0))
single_over t f (pattern.Data d) k = string_alone (found_string t (slice_get t.patterns d.0))

pub single_alone : (t : Table) (ns : List Node) (i : ℕ) (p q : Pattern) → IsPatternTable ns → slice_get ns i ≡ Some (node_of p) → p ≡ q → IsSingle q
    → IsAlone (tree_of t ns i)
single_alone t ns i p q kept found e single =
    subst IsAlone (sym (is_over t ns i p q kept found e)) (single_over t (tree_of t ns) q single)
