-- Patterns after a start tag.
use Rattle.std.specs.Prelude.{◌≡◌, ◌↔◌, ℕ, ◌<◌, [], ◌∷◌, List, length, slice_get, Option, Some, None}
use Rattle.rng_model.specs.names.Names.{Name}
use Rattle.rng_model.specs.simple.Tree.{Simple}
use Rattle.rng_model.specs.matching.Document.{Attribute, Item, Items, an_element, list_of}
use Rattle.rng_model.specs.simple.Table.{Table, tree_at}
use Rattle.rng_model.specs.simple.TableRules.{IsTable}
use Rattle.rng_model.specs.declared.simple.PatternId.{PatternId}
use Rattle.rng_deriv_laws.specs.plain.Taking.{Takes, Same}
use Rattle.rng_deriv_laws.specs.plain.Restricted.{IsRestricted, IsRestrictedBody}
use Rattle.rng_deriv_laws.specs.plain.Blanks.{IsBare}
use Rattle.rng_deriv_laws.specs.plain.LevelStates.{IsBodyNamed}
use Rattle.rng_model.specs.matching.GrammarMatching.{Reading, reading_of}
use Rattle.rng_deriv_laws.specs.plain.Reading.{body_of}
use Rattle.rng_deriv_laws.specs.plain.Derivatives as tree
use Rattle.rng_deriv_laws.specs.plain.Derivatives.{bodies_of, started}
use Rattle.rng_deriv_laws.specs.plain.Ways.{EachWay, Opens}
use Rattle.rng_deriv_table.specs.plain.AskedFor.{IsAskedFor}
use Rattle.rng_deriv_table.specs.views.Node.{Node}
use Rattle.rng_deriv_table.specs.views.Taking.{AreTaken, tree_by}
use Rattle.rng_deriv_table.specs.views.Trees.{tree_of}
use Rattle.rng_deriv_table.specs.declared.pattern.PatternNumber.{PatternNumber}
use Rattle.rng_deriv_ways.specs.plain.Kinds.{Obeys}
use Rattle.rng_deriv_ways.specs.plain.Ways.{AreInside, ways_by}
use Rattle.rng_deriv_ways.specs.declared.way.Place.{Place}
use Rattle.rng_deriv_ways.specs.declared.way.LeafWay.{LeafWay}

-- the patterns of the grammar that are asked for are in the table, with these numbers
pub record IsReady (t : Table) (ns : List Node) (numbers : List PatternNumber) : Type 0 where
  pub grammar : IsTable t
  pub long : length numbers ≡ length t.patterns
  pub taken : AreTaken t ns numbers
  -- and obey in the table what they obey in the grammar
  pub kept : (place : Place) (id : PatternId) → id.0 < length numbers → IsAskedFor t id.0 → Obeys place (tree_at t.patterns id) → Obeys place (tree_by t ns numbers id)

-- the bodies of elements, as they are in the table, obey the restrictions
abbrev pub HasRestrictedBodies : Table → List Node → List PatternNumber → Type 0
HasRestrictedBodies t ns numbers = (k : ℕ) (e : _) → slice_get t.elements k ≡ Some e → IsRestrictedBody (tree_by t ns numbers e.1)

-- the body of an element with this name obeys the restrictions
pub record IsRestrictedBodyNamed (g : Reading) (q : Name) (b : Simple ℕ) : Type 0 where
  pub restricted : IsRestricted b
  pub body : IsBodyNamed g q b

-- the body of an element whose leaf has this tree: the one with this number, or none
abbrev pub IsBodyOf : Table → List Node → List PatternNumber → Simple ℕ → Name → Option PatternNumber → Type 0
IsBodyOf t ns numbers leaf q None = (r : Simple ℕ) (ws : List tree.Way) → started (reading_of t) leaf r q ws ≡ ws
IsBodyOf t ns numbers leaf q (Some b) = (b.0 < length ns)
    × ((k : ℕ) × ((r : Simple ℕ) (ws : List tree.Way) → started (reading_of t) leaf r q ws ≡ record { leaf = body_of (reading_of t) k; rest = r } ∷ ws)
    × Same (reading_of t) (tree_of t ns b.0) (body_of (reading_of t) k)
    × (HasRestrictedBodies t ns numbers → IsRestrictedBodyNamed (reading_of t) q (tree_of t ns b.0)))

-- The bodies, each with what is left after the element, by which p takes an element with this name (RELAX NG
-- Specification, section 6.2.7). Blank strings beside elements are removed first.
pub record AreStarts (t : Table) (ns : List Node) (numbers : List PatternNumber) (p : Simple ℕ) (q : Name) (starts : List LeafWay) : Type 0 where
  pub inside : AreInside ns starts
  pub to : IsRestricted p → (xs : List Attribute) (kids : Items) (ms : List Item) → IsBare (an_element q xs kids ∷ ms)
      → Takes (reading_of t) p [] (an_element q xs kids ∷ ms) → Opens (reading_of t) xs (list_of kids) ms (ways_by (tree_of t ns) starts)
  pub back : (xs : List Attribute) (kids : Items) (ms : List Item) → Opens (reading_of t) xs (list_of kids) ms (ways_by (tree_of t ns) starts)
      → Takes (reading_of t) p [] (an_element q xs kids ∷ ms)
  pub kept : IsRestricted p → HasRestrictedBodies t ns numbers → EachWay (IsRestrictedBodyNamed (reading_of t) q) IsRestricted (ways_by (tree_of t ns) starts)

-- the starts open what the bodies of the ways open
pub record AreBodies (t : Table) (ns : List Node) (numbers : List PatternNumber) (q : Name) (ways starts : List LeafWay) : Type 0 where
  pub inside : AreInside ns starts
  pub opens : (xs : List Attribute) (kids ms : List Item) → Opens (reading_of t) xs kids ms (ways_by (tree_of t ns) starts)
      ↔ Opens (reading_of t) xs kids ms (bodies_of (reading_of t) q (ways_by (tree_of t ns) ways))
  pub kept : HasRestrictedBodies t ns numbers → EachWay (λ p. Unit {0}) IsRestricted (ways_by (tree_of t ns) ways)
      → EachWay (IsRestrictedBodyNamed (reading_of t) q) IsRestricted (ways_by (tree_of t ns) starts)
