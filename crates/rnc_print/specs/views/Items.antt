-- Items of a grammar, as the code keeps them.
use Rattle.std.specs.Prelude.{◌≡◌, ℕ, ◌<◌, ◌==◌, Bool, false, List, ◌++◌, length, map, Option, Some, None, codes, decimal}
use Rattle.std.specs.List.{AllByRecursion, filter_map, position_or_len}
use Rattle.rng_model.specs.simple.Table.{Table, tree_at}
use Rattle.rng_model.specs.simple.TableRules.{IsTable}
use Rattle.rng_model.specs.declared.simple.ElementId.{ElementId}
use Rattle.rncv_model.specs.printed.Items.{with_new}
use Rattle.rncv_model.specs.printed.Items as text
use Rattle.rnc_print.specs.plain.PatternCodes.{number_at}
use Rattle.rnc_print.specs.views.TreeNumbers.{AreTreeNumbers}
use Rattle.rnc_print.specs.declared.items.Item.{Item}
use Rattle.rnc_print.specs.declared.items.Item.TheVariants as variants
use Rattle.rnc_print.specs.declared.items.Items.{Items}

-- the view of the item
abbrev pub item_at : Table → Item → text.PrintedItem
item_at t (variants.Element e) = text.element e.0
item_at t (variants.Pattern p) = text.pattern (tree_at t.patterns p)

-- the item is in the tables
abbrev pub IsInside : Table → Item → Type 0
IsInside t (variants.Element e) = e.0 < length t.elements
IsInside t (variants.Pattern p) = p.0 < length t.patterns

abbrev pub element_of : Item → Option ElementId
element_of (variants.Element e) = Some e
element_of (variants.Pattern p) = None

-- the number of the pattern's tree
abbrev pub tree_number : List ℕ → Item → Option ℕ
tree_number numbers (variants.Element e) = None
tree_number numbers (variants.Pattern p) = Some (number_at numbers p)

-- the elements among the items, and the numbers of the patterns among them
pub record AreIndexed (items : Items) : Type 0 where
  pub elements : items.elements.keys ≡ filter_map element_of items.all.items
  pub trees : items.trees.keys ≡ filter_map (tree_number items.numbers.items) items.all.items

-- items of the tables, whose patterns have numbers that distinguish their trees
pub record AreItems (t : Table) (items : Items) : Type 0 where
  pub table : IsTable t
  pub numbered : AreTreeNumbers t items.numbers.items
  pub inside : AllByRecursion (IsInside t) items.all.items
  pub indexed : AreIndexed items

-- the views of the items, in the order in which they are first written
abbrev pub items_seen : Table → Items → List text.PrintedItem
items_seen t items = map (item_at t) items.all.items

-- they are the same element, or their patterns have the same number
abbrev pub same_number : List ℕ → Item → Item → Bool
same_number numbers (variants.Element d) (variants.Element e) = d.0 == e.0
same_number numbers (variants.Element d) (variants.Pattern q) = false
same_number numbers (variants.Pattern p) (variants.Element e) = false
same_number numbers (variants.Pattern p) (variants.Pattern q) = number_at numbers p == number_at numbers q

-- the items with one more, unless it is already there
pub record AreWith (old : Items) (x : Item) (new : Items) : Type 0 where
  pub numbers : new.numbers.items ≡ old.numbers.items
  pub all : new.all.items ≡ with_new (same_number old.numbers.items) old.all.items x
  pub indexed : AreIndexed new

-- the name of an item by its number among those of its kind
abbrev pub numbered_name : Items → Item → List ℕ
numbered_name items (variants.Element e) = codes "e" ++ decimal (position_or_len (λ d. e.0 == d.0) items.elements.keys)
numbered_name items (variants.Pattern p) = codes "p" ++ decimal (position_or_len (λ n. number_at items.numbers.items p == n) items.trees.keys)
