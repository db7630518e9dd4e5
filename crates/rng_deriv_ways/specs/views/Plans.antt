-- Plans of patterns: what is left of them, by the outcome of the tests of leaves.
use Rattle.std.specs.Prelude.{◌≡◌, ◌⊎◌, ℕ, ◌<◌, ◌↔◌, List, [], ◌∷◌, ◌++◌, All, Bool, IfSome, String, true, false, Some, length, slice_get, string_bytes}
use Rattle.std.specs.Global.{Global}
use Rattle.std.specs.HashMap.{HashMap, get, get_by_text}
use Rattle.std.specs.List.{Contains}
use Rattle.smallvec.specs.SmallVec.{SmallVec}
use Rattle.rng_names.specs.plain.Keys.{Keys, key_of}
use Rattle.rng_model.specs.datatypes.Texts.{collapse}
use Rattle.rng_model.specs.matching.Document.{Attribute, Item, a_text}
use Rattle.rng_model.specs.matching.GrammarMatching.{reading_of, Reading}
use Rattle.rng_model.specs.names.NameViews.{name_of}
use Rattle.rng_model.specs.simple.Table.{Table}
use Rattle.rng_model.specs.simple.Tree.{Simple}
use Rattle.rng_deriv_laws.specs.plain.Taking.{Takes}
use Rattle.rng_deriv_table.specs.plain.Reduced.{HasAlternative}
use Rattle.rng_deriv_table.specs.views.Choices.{IsAlternativeOf, SomeTakes}
use Rattle.rng_deriv_table.specs.views.Node.{Node}
use Rattle.rng_deriv_table.specs.views.Trees.{tree_of}
use Rattle.rng_deriv_table.specs.declared.pattern.PatternNumber.{PatternNumber}
use Rattle.rng_deriv_ways.specs.contracts.plans.AskedPartialEq.TheImpl as same
use Rattle.rng_deriv_ways.specs.plain.Ways.{AreWaysOf}
use Rattle.rng_deriv_ways.specs.declared.plans.Asked.{Asked}
use Rattle.rng_deriv_ways.specs.declared.plans.Asked.TheVariants as asked
use Rattle.rng_deriv_ways.specs.declared.plans.Outcome.{Outcome}
use Rattle.rng_deriv_ways.specs.declared.plans.Plan.{Plan}
use Rattle.rng_deriv_ways.specs.declared.plans.ValueIndex.{ValueIndex}
use Rattle.rng_deriv_ways.specs.declared.way.Kind.{Kind}
use Rattle.rng_deriv_ways.specs.declared.way.Kind.TheVariants as kinds
use Rattle.rng_deriv_ways.specs.declared.way.LeafWay.{LeafWay}

-- ---- what the tests of leaves say

-- the tests of these leaves say whether a leaf took what came first
abbrev pub IsTold : List PatternNumber → List Bool → PatternNumber → Bool → Type 0
IsTold leaves taken leaf b = (i : ℕ) × (slice_get leaves i ≡ Some leaf) × (slice_get taken i ≡ Some b)

-- these are the rests of the ways whose leaves took what came first, in order, where the tests say it of all ways
pub data AreRestsBy : List PatternNumber → List Bool → List LeafWay → List PatternNumber → Type 0 where
  no_ways : {leaves : List PatternNumber} {taken : List Bool} {ws : List LeafWay} {rests : List PatternNumber} → ws ≡ [] → rests ≡ []
      → AreRestsBy leaves taken ws rests
  one_taken : {leaves : List PatternNumber} {taken : List Bool} {ws : List LeafWay} {rests : List PatternNumber} {vs : List LeafWay}
      {more : List PatternNumber} (w : LeafWay) → AreRestsBy leaves taken ws rests → IsTold leaves taken w.leaf true → vs ≡ ws ++ w ∷ []
      → more ≡ rests ++ w.rest ∷ [] → AreRestsBy leaves taken vs more
  one_left_out : {leaves : List PatternNumber} {taken : List Bool} {ws : List LeafWay} {rests : List PatternNumber} {vs : List LeafWay}
      (w : LeafWay) → AreRestsBy leaves taken ws rests → IsTold leaves taken w.leaf false → vs ≡ ws ++ w ∷ [] → AreRestsBy leaves taken vs rests

-- the pattern of this number in the later table is a choice of those of the earlier one
pub record IsChoiceOf (t : Table) (before after : List Node) (members : List PatternNumber) (n : PatternNumber) : Type 0 where
  pub inside : n.0 < length after
  pub alternatives : (s : Simple ℕ) → HasAlternative (tree_of t after n.0) s → IsAlternativeOf (tree_of t before) members s
  pub takes : (g : Reading) (xs : List Attribute) (ns : List Item) → Takes g (tree_of t after n.0) xs ns ↔ SomeTakes g (tree_of t before) members xs ns

-- what is left by these ways, whatever came first, if the tests of these leaves say this
pub record IsOutcome (t : Table) (ns : List Node) (ws : List LeafWay) (leaves : List PatternNumber) (taken : List Bool) (rest : PatternNumber) : Type 0 where
  pub rests : List PatternNumber
  pub are : AreRestsBy leaves taken ws rests
  pub inside : All (λ (m : PatternNumber). m.0 < length ns) rests
  pub choice : IsChoiceOf t ns ns rests rest

-- ---- ways by the texts of values

-- the way is kept for this text
abbrev pub IsKeptFor : {Y Z : Type 0} → HashMap (String Y) (SmallVec LeafWay) Z → String Y → LeafWay → Type 0
IsKeptFor by_text text w = (vs : SmallVec LeafWay) × (get_by_text by_text (string_bytes text) ≡ Some vs) × Contains vs.items w

-- the leaf takes no strings but those that are this text, once blanks are collapsed (XML Schema Part 2, section 4.3.6)
pub record TakesOnly (t : Table) (ns : List Node) (text : List ℕ) (leaf : PatternNumber) : Type 0 where
  pub inside : leaf.0 < length ns
  pub only : (s : List ℕ) → Takes (reading_of t) (tree_of t ns leaf.0) [] (a_text s ∷ []) → collapse s ≡ text

-- The index has these ways and no others. A way that is not among the others is kept for the only text that its leaf
-- takes.
pub record IsIndex (t : Table) (ns : List Node) (ws : List LeafWay) (index : ValueIndex) : Type 0 where
  pub others : (w : LeafWay) → Contains index.others.items w → Contains ws w
  pub kept : (text : String Global) (w : LeafWay) → IsKeptFor index.by_text text w → Contains ws w
  pub all : (w : LeafWay) → Contains ws w → Contains index.others.items w
      ⊎ ((text : String Global) × IsKeptFor index.by_text text w × TakesOnly t ns (string_bytes text) w.leaf)

-- ---- plans

-- all outcomes of a plan are right, and so is the index of its ways
pub record IsPlan (t : Table) (ns : List Node) (plan : Plan) : Type 0 where
  pub leaves : All (λ (m : PatternNumber). m.0 < length ns) plan.leaves.items
  pub values : IfSome plan.values (λ index. IsIndex t ns plan.ways.items index.value)
  pub outcomes : (o : Outcome) → Contains plan.outcomes.items o → IsOutcome t ns plan.ways.items plan.leaves.items o.taken.items o.rest

-- this plan is known for the pattern
abbrev pub HasPlan : {Z : Type 0} → HashMap Asked Plan Z → Asked → Plan → Type 0
HasPlan plans a plan = get same.ghosts.eq plans a ≡ Some plan

-- the number of the pattern that is asked
abbrev pub number_of : Asked → ℕ
number_of (asked.Text n) = n.0
number_of (asked.Attribute n k) = n.0

-- something of this kind comes first: a string, or an attribute whose name has the key
abbrev pub IsKindAsked : Keys → Asked → Kind → Type 0
IsKindAsked keys (asked.Text n) (kinds.Element q) = ⊥
IsKindAsked keys (asked.Text n) (kinds.Attribute q) = ⊥
IsKindAsked keys (asked.Text n) kinds.Text = Unit {0}
IsKindAsked keys (asked.Attribute n k) (kinds.Element q) = ⊥
IsKindAsked keys (asked.Attribute n k) (kinds.Attribute q) = key_of keys (name_of q.now) ≡ k.0
IsKindAsked keys (asked.Attribute n k) kinds.Text = ⊥

-- the plan is right for the pattern
pub record IsPlanFor (t : Table) (keys : Keys) (ns : List Node) (a : Asked) (plan : Plan) : Type 0 where
  pub inside : number_of a < length ns
  pub ways : (kind : Kind) → IsKindAsked keys a kind → AreWaysOf t ns kind (tree_of t ns (number_of a)) plan.ways.items
  pub right : IsPlan t ns plan

-- all plans are right
abbrev pub ArePlans : {Z : Type 0} → Table → Keys → List Node → HashMap Asked Plan Z → Type 0
ArePlans t keys ns plans = (a : Asked) (plan : Plan) → HasPlan plans a plan → IsPlanFor t keys ns a plan
