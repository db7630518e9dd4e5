-- What is written in name classes, as it is collected.
use Rattle.std.specs.Prelude.{◌≡◌, ◌≤◌, ℕ, List, true, length, map, slice_get, Some}
use Rattle.std.specs.Map.{lookup}
use Rattle.std.specs.Str.{bytes_eq}
use Rattle.rng_model.specs.names.Names.{Name, NameClass}
use Rattle.rng_model.specs.names.NameViews.{name_of, namespace_bytes}
use Rattle.rng_model.specs.declared.namespace.Namespace.{Namespace}
use Rattle.rng_model.specs.declared.name.Name as declared
use Rattle.rng_names.specs.plain.Written.{writes_name, writes_ns}
use Rattle.rng_names.specs.declared.written_names.WrittenNames.{WrittenNames}

-- the view of namespaces with their numbers
abbrev pub seen_numbers : List (Namespace × ℕ) → List (List ℕ × ℕ)
seen_numbers es = map (λ e. (namespace_bytes e.0, e.1)) es

-- names, and for each namespace the number of bytes in its longest local name
pub record Written : Type 0 where
  pub names : List Name
  pub longest : List (List ℕ × ℕ)

abbrev pub written_as : List declared.Name → List (Namespace × ℕ) → Written
written_as names longest = record { names = map name_of names; longest = seen_numbers longest }

abbrev pub written_in : WrittenNames → Written
written_in w = written_as w.names.names.keys w.longest.entries

-- a local name of this many bytes is not longer than the longest one of the namespace
abbrev pub IsMeasured : Written → List ℕ → ℕ → Type 0
IsMeasured w u bytes = (m : ℕ) × (lookup (bytes_eq u) w.longest ≡ Some m) × (bytes ≤ m)

-- the name is one of them, and not longer than the longest one of its namespace
pub record HasName (w : Written) (q : Name) : Type 0 where
  pub place : ℕ
  pub at : slice_get w.names place ≡ Some q
  pub measured : IsMeasured w q.ns (length q.local)

-- everything that is written in the class is collected
pub record Knows (w : Written) (c : NameClass) : Type 0 where
  pub names : (q : Name) → writes_name c q ≡ true → HasName w q
  pub namespaces : (u : List ℕ) → writes_ns c u ≡ true → IsMeasured w u 0

-- the new names have the places of the old ones, and the longest local names have not become shorter
pub record Grows (old : Written) (new : Written) : Type 0 where
  pub names : (k : ℕ) (q : Name) → slice_get old.names k ≡ Some q → slice_get new.names k ≡ Some q
  pub longest : (u : List ℕ) (bytes : ℕ) → IsMeasured old u bytes → IsMeasured new u bytes
