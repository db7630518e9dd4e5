-- The tree of a pattern shows its kind.
use Rattle.std.proofs.Common.{◌≡◌, ℕ, refl, sym, ap, ◌∙◌, Bool, true, false, List, [], ◌∷◌, Option, Some, None, slice_get, arith, subst}
use Rattle.rng_model.specs.simple.Tree as tree
use Rattle.rng_model.specs.simple.Table.{Table}
use Rattle.rng_model.specs.declared.simple.Simple.{Simple}
use Rattle.rng_model.specs.declared.simple.Simple.TheVariants as simple
use Rattle.rng_deriv_table.specs.views.Node.{Node, node_of}
use Rattle.rng_deriv_table.specs.views.Node as node
use Rattle.rng_deriv_table.specs.views.PatternTable.{ArePartsBelow, IsPatternTable}
use Rattle.rng_deriv_laws.specs.plain.Derivatives.{is_empty, is_not_allowed}
use Rattle.rng_deriv_table.specs.plain.Reduced.{is_choice, AreReduced, HasAllowedMembers, MayBeMember}
use Rattle.rng_deriv_table.specs.views.Trees.{attribute_found, data_found, tree_of, tree_over}
use Rattle.rng_deriv_table.specs.declared.pattern.Pattern.{Pattern}
use Rattle.rng_deriv_table.specs.declared.pattern.Pattern.TheVariants as pattern
use Rattle.rng_deriv_table.proofs.Alternatives.{member_allowed, members_allowed}
use Rattle.rng_deriv_table.proofs.Trees.{tree_of-over_parts}

-- the grammar's attribute, list, data or value is not notAllowed, empty or a choice
attribute_there : (t : Table) (o : Option Simple) → (is_not_allowed (attribute_found t o) ≡ false)
    × (is_empty (attribute_found t o) ≡ false) × (is_choice (attribute_found t o) ≡ false)
attribute_there t None = (refl, refl, refl)
attribute_there t (Some simple.NotAllowed) = (refl, refl, refl)
attribute_there t (Some simple.Empty) = (refl, refl, refl)
attribute_there t (Some simple.Text) = (refl, refl, refl)
attribute_there t (Some (simple.Element e)) = (refl, refl, refl)
attribute_there t (Some (simple.Attribute class body)) = (refl, refl, refl)
attribute_there t (Some (simple.List body)) = (refl, refl, refl)
attribute_there t (Some (simple.Data datatype)) = (refl, refl, refl)
attribute_there t (Some (simple.DataExcept datatype except)) = (refl, refl, refl)
attribute_there t (Some (simple.Value value)) = (refl, refl, refl)
attribute_there t (Some (simple.OneOrMore body)) = (refl, refl, refl)
attribute_there t (Some (simple.Group a b)) = (refl, refl, refl)
attribute_there t (Some (simple.Interleave a b)) = (refl, refl, refl)
attribute_there t (Some (simple.Choice a b)) = (refl, refl, refl)

data_there : (t : Table) (o : Option Simple) → (is_not_allowed (data_found t o) ≡ false) × (is_empty (data_found t o) ≡ false)
    × (is_choice (data_found t o) ≡ false)
data_there t None = (refl, refl, refl)
data_there t (Some simple.NotAllowed) = (refl, refl, refl)
data_there t (Some simple.Empty) = (refl, refl, refl)
data_there t (Some simple.Text) = (refl, refl, refl)
data_there t (Some (simple.Element e)) = (refl, refl, refl)
data_there t (Some (simple.Attribute class body)) = (refl, refl, refl)
data_there t (Some (simple.List body)) = (refl, refl, refl)
data_there t (Some (simple.Data datatype)) = (refl, refl, refl)
data_there t (Some (simple.DataExcept datatype except)) = (refl, refl, refl)
data_there t (Some (simple.Value value)) = (refl, refl, refl)
data_there t (Some (simple.OneOrMore body)) = (refl, refl, refl)
data_there t (Some (simple.Group a b)) = (refl, refl, refl)
data_there t (Some (simple.Interleave a b)) = (refl, refl, refl)
data_there t (Some (simple.Choice a b)) = (refl, refl, refl)

abbrev pub is_not_allowed_node : Node → Bool
is_not_allowed_node node.not_allowed = true
is_not_allowed_node _ = false

abbrev pub is_empty_node : Node → Bool
is_empty_node node.empty = true
is_empty_node _ = false

abbrev pub is_choice_node : Node → Bool
is_choice_node (node.choice ms) = true
is_choice_node _ = false

kind_over : (t : Table) (f : ℕ → tree.Simple ℕ) (n : Node) (i : ℕ) → ArePartsBelow i n
    → (is_not_allowed (tree_over t f n) ≡ is_not_allowed_node n) × (is_empty (tree_over t f n) ≡ is_empty_node n)
    × (is_choice (tree_over t f n) ≡ is_choice_node n)
kind_over t f node.not_allowed i h = (refl, refl, refl)
kind_over t f node.empty i h = (refl, refl, refl)
kind_over t f node.text i h = (refl, refl, refl)
kind_over t f (node.choice []) i h = absurd (omega (arith, h.0))
kind_over t f (node.choice (m ∷ [])) i h = absurd (omega (arith, h.0))
kind_over t f (node.choice (m ∷ n ∷ ms)) i h = (refl, refl, refl)
kind_over t f (node.group a b) i h = (refl, refl, refl)
kind_over t f (node.interleave a b) i h = (refl, refl, refl)
kind_over t f (node.one_or_more a) i h = (refl, refl, refl)
kind_over t f (node.element e) i h = (refl, refl, refl)
kind_over t f (node.attribute a) i h = attribute_there t (slice_get t.patterns a)
kind_over t f (node.data_at d) i h = data_there t (slice_get t.patterns d)

module _ (t : Table) (ns : List Node) (i : ℕ) (n : Node) (kept : IsPatternTable ns) (found : slice_get ns i ≡ Some n) where
  is_over : tree_of t ns i ≡ tree_over t (tree_of t ns) n
  is_over = tree_of-over_parts t ns i n (kept.falls i n found) found

  pub not_allowed_shows : is_not_allowed (tree_of t ns i) ≡ is_not_allowed_node n
  not_allowed_shows = ap is_not_allowed is_over ∙ (kind_over t (tree_of t ns) n i (kept.falls i n found)).0

  pub empty_shows : is_empty (tree_of t ns i) ≡ is_empty_node n
  empty_shows = ap is_empty is_over ∙ (kind_over t (tree_of t ns) n i (kept.falls i n found)).1

  pub choice_shows : is_choice (tree_of t ns i) ≡ is_choice_node n
  choice_shows = ap is_choice is_over ∙ (kind_over t (tree_of t ns) n i (kept.falls i n found)).2

-- a pattern of another kind
pub not_not_allowed : (p : Pattern) → (p ≡ pattern.NotAllowed → ⊥) → false ≡ is_not_allowed_node (node_of p)
not_not_allowed pattern.NotAllowed h = absurd (h refl)
not_not_allowed pattern.Empty h = refl
not_not_allowed pattern.Text h = refl
not_not_allowed (pattern.Choice ms) h = refl
not_not_allowed (pattern.Group a b) h = refl
not_not_allowed (pattern.Interleave a b) h = refl
not_not_allowed (pattern.OneOrMore a) h = refl
not_not_allowed (pattern.Element e) h = refl
not_not_allowed (pattern.Attribute a) h = refl
not_not_allowed (pattern.Data d) h = refl

pub not_empty : (p : Pattern) → (p ≡ pattern.Empty → ⊥) → false ≡ is_empty_node (node_of p)
not_empty pattern.NotAllowed h = refl
not_empty pattern.Empty h = absurd (h refl)
not_empty pattern.Text h = refl
not_empty (pattern.Choice ms) h = refl
not_empty (pattern.Group a b) h = refl
not_empty (pattern.Interleave a b) h = refl
not_empty (pattern.OneOrMore a) h = refl
not_empty (pattern.Element e) h = refl
not_empty (pattern.Attribute a) h = refl
not_empty (pattern.Data d) h = refl

pub not_choice : (p : Pattern) → ((ms : _) → p ≡ pattern.Choice ms → ⊥) → false ≡ is_choice_node (node_of p)
not_choice pattern.NotAllowed h = refl
not_choice pattern.Empty h = refl
not_choice pattern.Text h = refl
not_choice (pattern.Choice ms) h = absurd (h ms refl)
not_choice (pattern.Group a b) h = refl
not_choice (pattern.Interleave a b) h = refl
not_choice (pattern.OneOrMore a) h = refl
not_choice (pattern.Element e) h = refl
not_choice (pattern.Attribute a) h = refl
not_choice (pattern.Data d) h = refl

-- a pattern that is not notAllowed or a choice may be a member of a choice
pub may_be_member : (t : Table) (ns : List Node) (i : ℕ) (p : Pattern) → IsPatternTable ns → slice_get ns i ≡ Some (node_of p) → (p ≡ pattern.NotAllowed → ⊥)
    → ((ms : _) → p ≡ pattern.Choice ms → ⊥) → MayBeMember (tree_of t ns i)
may_be_member t ns i p kept found h k = record {
  not_not_allowed = not_allowed_shows t ns i (node_of p) kept found ∙ sym (not_not_allowed p h);
  not_choice = choice_shows t ns i (node_of p) kept found ∙ sym (not_choice p k);
}

-- a pattern that is not notAllowed allows something
allowed_over : (t : Table) (f : ℕ → tree.Simple ℕ) (n : Node) (i : ℕ) → ArePartsBelow i n → AreReduced f n → is_not_allowed_node n ≡ false
    → HasAllowedMembers (tree_over t f n)
allowed_over t f (node.choice []) i h reduced e = absurd (omega (arith, h.0))
allowed_over t f (node.choice (m ∷ ms)) i h reduced e = members_allowed f m ms reduced
allowed_over t f n i h reduced e =
    let kind = kind_over t f n i h in member_allowed (tree_over t f n) (record { not_not_allowed = kind.0 ∙ e; not_choice = kind.2 })

pub allowed_there : (t : Table) (ns : List Node) (i : ℕ) (p : Pattern) → IsPatternTable ns → slice_get ns i ≡ Some (node_of p) → (p ≡ pattern.NotAllowed → ⊥)
    → HasAllowedMembers (tree_of t ns i)
allowed_there t ns i p kept found h =
    let below = kept.falls i (node_of p) found in
    subst HasAllowedMembers (sym (tree_of-over_parts t ns i (node_of p) below found))
    (allowed_over t (tree_of t ns) (node_of p) i below (kept.reduced t i (node_of p) found) (sym (not_not_allowed p h)))
