-- A set of namespaces that has the namespace of each name of a class.
use Rattle.std.specs.Prelude.{◌≡◌, ℕ, List, Bool, true, ◌||◌}
use Rattle.std.specs.List.{list_any}
use Rattle.std.specs.Str.{bytes_eq}
use Rattle.rng_model.specs.names.Names.{Name, NameClass}
use Rattle.rng_names.specs.plain.Holding.{holds}
use Rattle.rng_names.specs.declared.namespaces.Namespaces.{Namespaces}

-- the namespace is one of them
abbrev pub has_ns : Namespaces → List ℕ → Bool
has_ns all u = all.any || list_any (λ k. bytes_eq u k.now) all.listed.keys

-- each name of the class is in one of them
abbrev pub Covers : Namespaces → NameClass → Type 0
Covers all c = (q : Name) → holds c q ≡ true → has_ns all q.ns ≡ true
