-- Names that are written in classes, and their regions. A region is a class without its excepts, or an except without its
-- own.
use Rattle.std.specs.Prelude.{◌≡◌, ◌≢◌, ◌⊎◌, ◌≤◌, ◌<◌, ◌+◌, ◌++◌, ◌∷◌, [], ℕ, List, true, length, map, slice_get, slice_set, Option, Some}
use Rattle.rng_model.specs.names.Names.{Name, NameClass}
use Rattle.rng_model.specs.names.NameViews.{name_of}
use Rattle.rng_names.specs.plain.Holding.{holds, pair}
use Rattle.rng_names.specs.declared.names_by_region.NamesByRegion.{NamesByRegion}

-- names, for each the only region in which it is written, or 0, and the number of the last region
pub record Sorted : Type 0 where
  pub names : List Name
  pub regions : List ℕ
  pub last : ℕ

abbrev pub sorted_in : NamesByRegion → Sorted
sorted_in n = record { names = map name_of n.names.keys; regions = n.regions.items; last = n.last }

-- the name is written only in the region with this number
pub record IsIn (w : Sorted) (r : ℕ) (q : Name) : Type 0 where
  pub place : ℕ
  pub name : slice_get w.names place ≡ Some q
  pub region : slice_get w.regions place ≡ Some r

-- the name is none of them
abbrev pub IsNew : Sorted → Name → Type 0
IsNew w q = (k : ℕ) → slice_get w.names k ≡ Some q → ⊥

-- each name has a region, and the region with this number is not after the last one
pub record HasBegun (w : Sorted) (r : ℕ) : Type 0 where
  pub count : length w.regions ≡ length w.names
  pub within : (s : ℕ) (q : Name) → IsIn w s q → s ≤ w.last
  pub begun : r ≤ w.last

-- a region of this number begins, a new one unless it is 0
pub record Begins (old : Sorted) (new : Sorted) (r : ℕ) : Type 0 where
  pub names : new.names ≡ old.names
  pub regions : new.regions ≡ old.regions
  pub last : old.last ≤ new.last
  pub begun : r ≤ new.last
  pub fresh : 0 < r → old.last < r

-- names stay, and names of a region are old, or they are new and the region is this one or begins
pub record Extends (r : ℕ) (old : Sorted) (new : Sorted) : Type 0 where
  pub begun : HasBegun new r
  pub last : old.last ≤ new.last
  pub stays : (k : ℕ) (q : Name) → slice_get old.names k ≡ Some q → slice_get new.names k ≡ Some q
  pub names : (s : ℕ) (q : Name) → 0 < s → IsIn new s q → IsIn old s q ⊎ (IsNew old q × ((s ≡ r) ⊎ (old.last < s)))

-- the class holds all or none of the names of a namespace that are written only in one region, except this one
abbrev pub HoldsAlike : Sorted → ℕ → NameClass → Type 0
HoldsAlike w r c = (s : ℕ) (u l m : List ℕ) → 0 < s → s ≢ r → IsIn w s (pair u l) → IsIn w s (pair u m) → holds c (pair u l) ≡ holds c (pair u m)

-- the names of a class are added, which is a part of the region: it holds all names that are new in the region
pub record AddsPart (r : ℕ) (c : NameClass) (old : Sorted) (new : Sorted) : Type 0 where
  pub extends : Extends r old new
  pub alike : HoldsAlike new r c
  pub held : (q : Name) → 0 < r → IsIn new r q → IsIn old r q ⊎ (holds c q ≡ true)

-- the name has this place among the names, and no other; a new one has the next place
pub record Puts (old : List Name) (new : List Name) (q : Name) (place : ℕ) : Type 0 where
  pub stays : (k : ℕ) (p : Name) → slice_get old k ≡ Some p → slice_get new k ≡ Some p
  pub there : slice_get new place ≡ Some q
  pub only : (k : ℕ) → slice_get new k ≡ Some q → k ≡ place
  pub count : ((place < length old) × (length new ≡ length old)) ⊎ ((place ≡ length old) × (length new ≡ length old + 1))

-- the region of a place that has one becomes 0, and the next place gets this one
pub record NotesRegion (old : List ℕ) (new : List ℕ) (place : ℕ) (region : ℕ) : Type 0 where
  pub again : place < length old → new ≡ slice_set old place 0
  pub once : length old ≤ place → new ≡ old ++ region ∷ []

-- the names of these classes are added, and each class holds all or none of the names of a namespace that are written
-- only in one region
pub record AreSorted (old : Sorted) (new : Sorted) (classes : List (Option NameClass)) : Type 0 where
  pub extends : Extends 0 old new
  pub alike : (k : ℕ) (c : NameClass) → slice_get classes k ≡ Some (Some c) → HoldsAlike new 0 c
