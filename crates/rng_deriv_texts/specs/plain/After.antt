-- What is left of a pattern after a string or an attribute.
use Rattle.std.specs.Prelude.{◌≡◌, ◌↔◌, ℕ, ◌<◌, List, [], ◌∷◌, Bool, true, All, Option, Some, length}
use Rattle.rng_model.specs.simple.Tree.{Simple}
use Rattle.rng_model.specs.matching.Document.{Attribute, Item, a_text, Distinct}
use Rattle.rng_model.specs.simple.Table.{Table}
use Rattle.rng_model.specs.documents.EventViews.{attribute_of}
use Rattle.rng_model.specs.declared.simple.PatternId.{PatternId}
use Rattle.rng_model.specs.declared.simple.Simple as rows
use Rattle.rng_model.specs.declared.simple.Simple.TheVariants as kinds_of_rows
use Rattle.rng_model.specs.matching.GrammarMatching.{Reading, reading_of}
use Rattle.rng_deriv_laws.specs.plain.Taking.{Takes}
use Rattle.rng_deriv_laws.specs.plain.Blanks.{IsBare}
use Rattle.rng_deriv_laws.specs.plain.LevelStates.{IsAfterTag}
use Rattle.rng_deriv_laws.specs.plain.Restricted.{IsRestricted}
use Rattle.rng_deriv_laws.specs.plain.Derivatives as tree
use Rattle.rng_deriv_laws.specs.plain.Ways.{EachWay, IsItemLeaf, IsAttributeLeaf}
use Rattle.rng_deriv_table.specs.views.Choices.{SomeTakes}
use Rattle.rng_deriv_table.specs.views.Node.{Node}
use Rattle.rng_deriv_table.specs.views.Trees.{tree_of}
use Rattle.rng_deriv_table.specs.declared.pattern.PatternNumber.{PatternNumber}
use Rattle.rng_deriv_ways.specs.plain.Kinds.{Obeys}
use Rattle.rng_deriv_ways.specs.plain.Ways.{AreInside, Offers, ways_by}
use Rattle.rng_deriv_ways.specs.declared.way.Place.{Place}
use Rattle.rng_deriv_ways.specs.declared.way.Place.TheVariants as places
use Rattle.rng_deriv_ways.specs.declared.way.LeafWay.{LeafWay}
use Rattle.rng_deriv_texts.specs.declared.first.First.{First}
use Rattle.rng_deriv_texts.specs.declared.first.First.TheVariants as firsts

-- ---- what comes first

abbrev pub attributes_of : First → List Attribute
attributes_of (firsts.Text place s) = []
attributes_of (firsts.Attribute a) = attribute_of a.now ∷ []

abbrev pub items_of : First → List Item
items_of (firsts.Text place s) = a_text s.now ∷ []
items_of (firsts.Attribute a) = []

abbrev pub place_of : First → Place
place_of (firsts.Text place s) = place
place_of (firsts.Attribute a) = places.Content

-- the leaf is of a sort that may take it
abbrev pub IsLeafFor : First → Simple ℕ → Type 0
IsLeafFor (firsts.Text place s) p = IsItemLeaf p
IsLeafFor (firsts.Attribute a) p = IsAttributeLeaf p

-- these attributes and items are those that p takes after it
abbrev pub AreThoseBehind : Reading → First → Simple ℕ → (List Attribute → List Item → Type 0) → Type 0
AreThoseBehind g (firsts.Text place s) p Those = (ns : List Item) → IsBare (a_text s.now ∷ ns) → Those [] ns ↔ Takes g p [] (a_text s.now ∷ ns)
AreThoseBehind g (firsts.Attribute a) p Those = (xs : List Attribute) (ns : List Item) → Distinct (attribute_of a.now ∷ xs)
    → Those xs ns ↔ Takes g p (attribute_of a.now ∷ xs) ns

-- ---- what is left after it

-- the pattern of the second number is what is left of the first one's, if that obeys the place
pub record IsLeft (t : Table) (old new : List Node) (first : First) (number rest : PatternNumber) : Type 0 where
  pub inside : rest.0 < length new
  pub law : Obeys (place_of first) (tree_of t old number.0)
      → AreThoseBehind (reading_of t) first (tree_of t old number.0) (Takes (reading_of t) (tree_of t new rest.0))
  pub kept : Obeys (place_of first) (tree_of t old number.0) → Obeys (place_of first) (tree_of t new rest.0)

-- each leaf may take it, and leaves and rests obey what they have to obey
abbrev pub AreFor : First → List tree.Way → Type 0
AreFor first ws = EachWay (λ l. IsLeafFor first l × Obeys (place_of first) l) (Obeys (place_of first)) ws

-- the numbered ways are those by which a pattern takes it
pub record AreWaysFor (t : Table) (ns : List Node) (first : First) (p : Simple ℕ) (ways : List LeafWay) : Type 0 where
  pub inside : AreInside ns ways
  pub law : Obeys (place_of first) p
      → AreThoseBehind (reading_of t) first p (Offers (reading_of t) (ways_by (tree_of t ns) ways) (attributes_of first) (items_of first))
  pub kept : Obeys (place_of first) p → AreFor first (ways_by (tree_of t ns) ways)

-- the test is whether a leaf takes it
abbrev pub TellsTaken : Reading → First → Simple ℕ → Bool → Type 0
TellsTaken g first l b = IsLeafFor first l → Obeys (place_of first) l → (b ≡ true) ↔ Takes g l (attributes_of first) (items_of first)

-- the pattern that a look-up in the grammar found is no list, unless it is tried in a list (RELAX NG Specification,
-- section 7.1.3)
abbrev pub IsNoListIn : Place → Option rows.Simple → Type 0
IsNoListIn place row = (body : PatternId) → place ≡ places.Content → row ≡ Some (kinds_of_rows.List body) → ⊥

-- the rests of the ways whose leaves take it
pub record AreRests (t : Table) (old new : List Node) (first : First) (ways : List LeafWay) (rests : List PatternNumber) : Type 0 where
  pub inside : All (λ m. m.0 < length new) rests
  pub takes : AreFor first (ways_by (tree_of t old) ways) → (xs : List Attribute) (ns : List Item) → SomeTakes (reading_of t) (tree_of t new) rests xs ns
      ↔ Offers (reading_of t) (ways_by (tree_of t old) ways) (attributes_of first) (items_of first) xs ns
  pub kept : AreFor first (ways_by (tree_of t old) ways) → All (λ m. Obeys (place_of first) (tree_of t new m.0)) rests

-- The pattern of the second number takes alone what the first one's takes with the attributes of a tag, if that is
-- restricted. It is then restricted itself.
pub record IsLeftOfTag (t : Table) (old new : List Node) (xs : List Attribute) (number rest : PatternNumber) : Type 0 where
  pub inside : rest.0 < length new
  pub law : IsRestricted (tree_of t old number.0) → IsAfterTag (reading_of t) xs (tree_of t old number.0) (tree_of t new rest.0)
  pub kept : IsRestricted (tree_of t old number.0) → IsRestricted (tree_of t new rest.0)
