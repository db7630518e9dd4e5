-- What an item of the code is, without its place in memory.
use Rattle.std.specs.Prelude.{List, [], ◌∷◌, map, string_bytes}
use Rattle.rng_model.specs.declared.document.Item.{Item, fold-Item}
use Rattle.rng_model.specs.declared.document.Item.TheOpen.{Item-F}
use Rattle.rng_model.specs.matching.Document as document
use Rattle.rng_model.specs.names.NameViews.{name_of}
use Rattle.rng_model.specs.documents.EventViews.{attribute_of}

abbrev pub items_of : List document.Item → document.Items
items_of [] = document.no_items
items_of (n ∷ ns) = document.item_and n (items_of ns)

-- one level of an item, with each child already as its tree
abbrev pub item_step : Item-F document.Item → document.Item
item_step (Item-F.Text s) = document.a_text (string_bytes s)
item_step (Item-F.Element name attrs children) = document.an_element (name_of name) (map attribute_of attrs.items) (items_of children.items)

abbrev pub item_of : Item → document.Item
item_of = fold-Item document.Item item_step
