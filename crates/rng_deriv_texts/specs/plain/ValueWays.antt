-- Which ways are tested, where a text is compared with many values.
use Rattle.std.specs.Prelude.{◌≡◌, ◌⊎◌, ℕ, List, String, true}
use Rattle.std.specs.HashMap.{HashMap}
use Rattle.std.specs.List.{Contains}
use Rattle.smallvec.specs.SmallVec.{SmallVec}
use Rattle.rng_model.specs.datatypes.Texts.{collapse}
use Rattle.rng_model.specs.datatypes.Datatypes.{Meaning, are_equal_by}
use Rattle.rng_model.specs.matching.Document.{Attribute, Item}
use Rattle.rng_model.specs.matching.GrammarMatching.{reading_of}
use Rattle.rng_model.specs.simple.Table.{Table}
use Rattle.rng_deriv_laws.specs.plain.Taking.{Takes}
use Rattle.rng_deriv_table.specs.views.Node.{Node}
use Rattle.rng_deriv_table.specs.views.Trees.{tree_of}
use Rattle.rng_deriv_ways.specs.views.Plans.{IsKeptFor}
use Rattle.rng_deriv_ways.specs.declared.way.LeafWay.{LeafWay}
use Rattle.rng_deriv_texts.specs.plain.After.{attributes_of, items_of}
use Rattle.rng_deriv_texts.specs.declared.first.First.{First}

-- texts that have one value are one text once their blanks are collapsed (XML Schema Part 2, section 4.3.6)
abbrev pub ComparesTexts : Meaning → Type 0
ComparesTexts meaning = (v w : List ℕ) → are_equal_by meaning v w ≡ true → collapse w ≡ collapse v

-- the way was kept for the text, or it is this one
abbrev pub IsKeptOrIs : {Y Z : Type 0} → HashMap (String Y) (SmallVec LeafWay) Z → String Y → LeafWay → LeafWay → Type 0
IsKeptOrIs by_text text way w = IsKeptFor by_text text w ⊎ (w ≡ way)

-- these few of some ways are all whose leaves take these attributes and items
pub record AreNarrowedFor (t : Table) (ns : List Node) (xs : List Attribute) (ks : List Item) (ws few : List LeafWay) : Type 0 where
  pub within : (w : LeafWay) → Contains few w → Contains ws w
  pub all : (w : LeafWay) → Contains ws w → Takes (reading_of t) (tree_of t ns w.leaf.0) xs ks → Contains few w

-- these few of some ways are all whose leaves take what comes first
abbrev pub AreNarrowed : Table → List Node → First → List LeafWay → List LeafWay → Type 0
AreNarrowed t ns first ws few = AreNarrowedFor t ns (attributes_of first) (items_of first) ws few
