-- Names and namespaces in a set.
use Rattle.std.specs.Prelude.{◌≡◌, ◌≤◌, ℕ, List, length, Bool, true, ◌&&◌, Option, Some, None, option_map}
use Rattle.std.specs.Borrow.{Bor}
use Rattle.std.specs.List.{list_any}
use Rattle.std.specs.Option.{option_eq}
use Rattle.std.specs.Str.{bytes_eq}
use Rattle.rng_names.specs.declared.name_set.NameOrNs.{NameOrNs}

-- the same namespace, and the same local name or none in both
abbrev pub same_parts : List ℕ → Option (List ℕ) → List ℕ → Option (List ℕ) → Bool
same_parts u l v m = bytes_eq u v && option_eq bytes_eq l m

-- the view of an optional local name
abbrev pub seen : Option (Bor (List ℕ)) → Option (List ℕ)
seen l = option_map (λ x. x.now) l

-- the view of a name, or of a namespace if there is no local name
abbrev pub seen_key : NameOrNs → List ℕ × Option (List ℕ)
seen_key k = (k.ns.now, seen k.local)

-- the name, or the namespace if there is no local name, is one of these
abbrev pub has : List (List ℕ × Option (List ℕ)) → List ℕ → Option (List ℕ) → Bool
has keys u l = list_any (λ k. same_parts u l k.0 k.1) keys

-- the number of bytes in an optional local name
abbrev pub bytes_of : Option (List ℕ) → ℕ
bytes_of None = 0
bytes_of (Some l) = length l

-- no local name has more bytes than these
abbrev pub IsMeasured : List (List ℕ × Option (List ℕ)) → ℕ → Type 0
IsMeasured keys most = (u : List ℕ) (l : Option (List ℕ)) → has keys u l ≡ true → bytes_of l ≤ most
