-- What the names that are kept are, and the name and the attributes of a tag.
use Rattle.std.specs.Prelude.{◌≡◌, ℕ, List, Option, Some, None, map, slice_get, take}
use Rattle.rng_model.specs.names.Names as names
use Rattle.rng_model.specs.names.NameViews.{name_of}
use Rattle.rng_model.specs.declared.name.Name.{Name}
use Rattle.rng_model.specs.documents.EventViews.{attribute_of}
use Rattle.rng_model.specs.matching.Document as document
use Rattle.element_events.specs.declared.attributes.Attributes.{Attributes}
use Rattle.element_events.specs.declared.good_name.GoodName.{GoodName}
use Rattle.element_events.specs.declared.tag.Tag.{Tag}

abbrev pub known_or : Option GoodName → Name → names.Name
known_or None other = name_of other
known_or (Some known) other = name_of known.name

-- the name at a place, or the other name if there is none
abbrev pub name_at : Option ℕ → List GoodName → Name → names.Name
name_at None all other = name_of other
name_at (Some place) all other = known_or (slice_get all place) other

-- the name is at this place
abbrev pub IsAt : names.Name → List GoodName → ℕ → Type 0
IsAt name all place = (other : Name) → name_at (Some place) all other ≡ name

abbrev pub tag_name : Tag → names.Name
tag_name t = name_at t.place t.known.names.items t.own

-- those behind them are no attributes of the tag
abbrev pub attributes_in : Attributes → List document.Attribute
attributes_in a = map attribute_of (take a.count a.slots.items)
