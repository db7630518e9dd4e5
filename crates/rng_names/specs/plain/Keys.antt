-- Keys of names, and when they serve a grammar.
use Rattle.std.specs.Prelude.{◌≡◌, ◌↔◌, ℕ, Box, List, [], position, slice_get, slice_index_or, Some}
use Rattle.std.specs.Global.{Global}
use Rattle.std.specs.Map.{lookup}
use Rattle.std.specs.Option.{unwrap_or}
use Rattle.std.specs.Str.{bytes_eq}
use Rattle.rng_model.specs.names.Names.{Name, NameClass, In}
use Rattle.rng_model.specs.simple.Table.{Table}
use Rattle.rng_model.specs.names.NameViews.{class_of}
use Rattle.rng_model.specs.declared.name.NameClass as declared
use Rattle.rng_model.specs.declared.simple.PatternId.{PatternId}
use Rattle.rng_model.specs.declared.simple.Simple.TheVariants as simple
use Rattle.rng_names.specs.plain.Holding.{pair, same_name}

-- names with places, and for each namespace that is written the place that its other names have
pub record Places : Type 0 where
  pub names : List Name
  pub others : List (List ℕ × ℕ)

-- the place of a name: its own, or that of the other names of its namespace, or 0, the place of all others
abbrev pub place_of : Places → Name → ℕ
place_of places q = unwrap_or (position (same_name q) places.names) (unwrap_or (lookup (bytes_eq q.ns) places.others) 0)

-- the name at a place
abbrev pub name_there : Places → ℕ → Name
name_there places k = slice_index_or places.names k (pair [] [])

-- the representative of each key, the places of names, and the key of each place
pub record Keys : Type 0 where
  pub names : List Name
  pub places : Places
  pub keys : List ℕ

-- the key of a name: that of its place
abbrev pub key_of : Keys → Name → ℕ
key_of keys q = slice_index_or keys.keys (place_of keys.places q) 0

-- the representative of a key
abbrev pub name_at : Keys → ℕ → Name
name_at keys k = slice_index_or keys.names k (pair [] [])

-- the class holds a name exactly if it holds the representative of its key (RELAX NG Specification, section 6.1)
abbrev pub Serves : Keys → NameClass → Type 0
Serves keys c = (q : Name) → In c q ↔ In c (name_at keys (key_of keys q))

-- a name class of the grammar: that of an element, or of an attribute
pub data IsClassOf (t : Table) (c : NameClass) : Type 0 where
  of_element : (k : ℕ) (e : declared.NameClass × PatternId) → slice_get t.elements k ≡ Some e → c ≡ class_of e.0 → IsClassOf t c
  of_attribute : (k : ℕ) (class : Box declared.NameClass Global) (body : PatternId) → slice_get t.patterns k ≡ Some (simple.Attribute class body)
      → c ≡ class_of class.value → IsClassOf t c

-- the keys serve each class of the grammar
abbrev pub KeysServe : Table → Keys → Type 0
KeysServe t keys = (c : NameClass) → IsClassOf t c → Serves keys c
