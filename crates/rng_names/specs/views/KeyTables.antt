-- The tables in which keys are looked up, made from what is written.
use Rattle.std.specs.Prelude.{◌≡◌, ◌<◌, ℕ, List, length, map, slice_get, Option, Some}
use Rattle.std.specs.Map.{lookup, update}
use Rattle.std.specs.Str.{bytes_eq}
use Rattle.rng_model.specs.names.Names.{Name, NameClass}
use Rattle.rng_model.specs.names.NameViews.{name_of}
use Rattle.rng_names.specs.plain.Holding.{pair}
use Rattle.rng_names.specs.plain.Keys.{Keys, Places, Serves, name_there}
use Rattle.rng_names.specs.plain.Regions.{sorted_in}
use Rattle.rng_names.specs.plain.SharedKeys.{AreLed, AreShared}
use Rattle.rng_names.specs.plain.WrittenNames.{IsMeasured, Written, seen_numbers, written_in}
use Rattle.rng_names.specs.declared.key_tables.Tables.{Tables}
use Rattle.rng_names.specs.declared.places.Places as declared
use Rattle.rng_names.specs.declared.written_names.WrittenNames.{WrittenNames}

-- the view of places
abbrev pub places_in : declared.Places → Places
places_in p = record { names = map name_of p.names.keys; others = seen_numbers p.namespaces.entries }

-- the keys in the tables
abbrev pub keys_in : Tables → Keys
keys_in t = record { names = map (name_there (places_in t.places)) t.shared.leaders.items; places = places_in t.places; keys = t.shared.keys.items }

-- each place that is looked up is there
pub record ArePlaces (places : Places) : Type 0 where
  pub first : 0 < length places.names
  pub others : (u : List ℕ) (k : ℕ) → lookup (bytes_eq u) places.others ≡ Some k → k < length places.names

-- each place has a key, and each key has a representative, whose place has it
pub record AreTables (t : Tables) : Type 0 where
  pub places : ArePlaces (places_in t.places)
  pub shared : AreShared (places_in t.places).names t.shared

-- the other names of the namespace have a place
abbrev pub HasOthers : Places → List ℕ → Type 0
HasOthers places u = (k : ℕ) × (lookup (bytes_eq u) places.others ≡ Some k)

-- names keep their places
abbrev pub KeepsNames : List Name → List Name → Type 0
KeepsNames old new = (k : ℕ) (q : Name) → slice_get old k ≡ Some q → slice_get new k ≡ Some q

-- a place for the other names of a namespace is added, that of a name with more bytes than these
pub record AddsOthers (old : Places) (new : Places) (u : List ℕ) (bytes : ℕ) : Type 0 where
  pub names : KeepsNames old.names new.names
  pub place : ℕ
  pub local : List ℕ
  pub at : slice_get new.names place ≡ Some (pair u local)
  pub longer : bytes < length local
  pub others : (v : List ℕ) → lookup (bytes_eq v) new.others ≡ update bytes_eq (λ w. lookup (bytes_eq w) old.others) u (Some place) v

-- the place has a name of the namespace whose local name is longer than each that is written in it
pub record StandsBeyond (w : Written) (places : Places) (k : ℕ) (u : List ℕ) : Type 0 where
  pub local : List ℕ
  pub at : slice_get places.names k ≡ Some (pair u local)
  pub longer : (bytes : ℕ) → IsMeasured w u bytes → bytes < length local

-- the names that are written have places, and each namespace that is written has a place for its other names
pub record IsTold (w : Written) (places : Places) : Type 0 where
  pub names : KeepsNames w.names places.names
  pub others : (u : List ℕ) (k : ℕ) → lookup (bytes_eq u) places.others ≡ Some k → StandsBeyond w places k u
  pub all : (u : List ℕ) (bytes : ℕ) → IsMeasured w u bytes → HasOthers places u

-- the tables are those of what is written
pub record AreMade (w : WrittenNames) (t : Tables) : Type 0 where
  pub told : IsTold (written_in w) (places_in t.places)
  pub shared : AreShared (places_in t.places).names t.shared
  pub led : AreLed (places_in t.places).names (sorted_in w.names).regions t.shared

-- the keys serve each of these classes
abbrev pub ServesAll : Keys → List (Option NameClass) → Type 0
ServesAll keys classes = (k : ℕ) (c : NameClass) → slice_get classes k ≡ Some (Some c) → Serves keys c
