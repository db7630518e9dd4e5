-- The declarations of tags: what they declare, which are not allowed, and the namespace that they give a prefix.
use Rattle.std.specs.Prelude.{ℕ, ◌==◌, Bool, true, false, not, ◌&&◌, ◌||◌, List, [], ◌∷◌, length, codes, Option, Some, None, if◌then◌else◌}
use Rattle.std.specs.Str.{bytes_eq}
use Rattle.rng_model.specs.documents.PyxLines.{QName}
use Rattle.rng_model.specs.documents.PyxNamespaces.{WrittenAttribute, xmlns, xmlns_uri}
use Rattle.rng_model.specs.names.Names.{xml_uri}

-- what the open tags declare, the innermost first
abbrev pub Declared : Type 0
Declared = List (List WrittenAttribute)

-- ---- declarations

-- which prefix is declared, or the default namespace (`xmlns` alone declares it)
abbrev pub declared_prefix : Option (List ℕ) → List ℕ → Option (Option (List ℕ))
declared_prefix None local = if bytes_eq local xmlns then Some None else None
declared_prefix (Some p) local = if bytes_eq p xmlns then Some (Some local) else None

abbrev pub declared_by : QName → Option (Option (List ℕ))
declared_by name = declared_prefix name.prefix name.local

abbrev pub forbidden_prefix : List ℕ → List ℕ → Bool
forbidden_prefix p uri = (length uri == 0) || bytes_eq uri xmlns_uri || bytes_eq p xmlns
    || (if bytes_eq p (codes "xml") then not (bytes_eq uri xml_uri) else bytes_eq uri xml_uri)

abbrev pub forbidden_by : Option (Option (List ℕ)) → List ℕ → Bool
forbidden_by None uri = false
forbidden_by (Some None) uri = bytes_eq uri xmlns_uri || bytes_eq uri xml_uri
forbidden_by (Some (Some p)) uri = forbidden_prefix p uri

abbrev pub is_forbidden : WrittenAttribute → Bool
is_forbidden a = forbidden_by (declared_by a.name) a.content

unfoldable pub any_forbidden : List WrittenAttribute → Bool
any_forbidden [] = false
any_forbidden (a ∷ more) = is_forbidden a || any_forbidden more

-- ---- namespaces

abbrev pub same_prefix : Option (List ℕ) → Option (List ℕ) → Bool
same_prefix None None = true
same_prefix None (Some q) = false
same_prefix (Some p) None = false
same_prefix (Some p) (Some q) = bytes_eq p q

abbrev pub declares : Option (Option (List ℕ)) → Option (List ℕ) → Bool
declares None p = false
declares (Some q) p = same_prefix q p

-- the namespace that the tag declares for the prefix, or the default one
unfoldable pub found_in : Option (List ℕ) → List WrittenAttribute → Option (List ℕ)
found_in p [] = None
found_in p (a ∷ more) = if declares (declared_by a.name) p then Some a.content else found_in p more

-- the declarations that hold before any other
abbrev pub beforehand : Option (List ℕ) → Option (List ℕ)
beforehand None = Some []
beforehand (Some p) = if bytes_eq p (codes "xml") then Some xml_uri else None

abbrev pub or_else : {A : Type 0} → Option A → Option A → Option A
or_else None other = other
or_else (Some a) other = Some a

unfoldable pub namespace_of : Declared → Option (List ℕ) → Option (List ℕ)
namespace_of [] p = beforehand p
namespace_of (ds ∷ outer) p = or_else (found_in p ds) (namespace_of outer p)

-- ---- names that occur twice

abbrev pub same_written : QName → QName → Bool
same_written a b = same_prefix a.prefix b.prefix && bytes_eq a.local b.local

unfoldable pub is_written_in : QName → List WrittenAttribute → Bool
is_written_in name [] = false
is_written_in name (a ∷ more) = same_written a.name name || is_written_in name more

unfoldable pub is_written_twice : List WrittenAttribute → Bool
is_written_twice [] = false
is_written_twice (a ∷ more) = is_written_in a.name more || is_written_twice more
