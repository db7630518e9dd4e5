-- The content of a whole tag: its declarations applied, or the first clause that it breaks.
use Rattle.std.specs.Prelude.{ℕ, Bool, false, ◌&&◌, ◌||◌, List, [], ◌∷◌, Option, Some, None, Result, Ok, Err, if◌then◌else◌}
use Rattle.std.specs.Str.{bytes_eq}
use Rattle.rng_model.specs.names.Names.{Name}
use Rattle.rng_model.specs.matching.Document.{Attribute}
use Rattle.rng_model.specs.documents.PyxLines.{QName}
use Rattle.rng_model.specs.documents.PyxNamespaces.{WrittenAttribute}
use Rattle.pyx.specs.plain.Declarations.{Declared, any_forbidden, is_written_twice, namespace_of}

-- ---- names and their namespaces

abbrev pub in_namespace : List ℕ → Option (List ℕ) → Option Name
in_namespace local None = None
in_namespace local (Some uri) = Some (record { ns = uri; local = local })

unfoldable pub element_name : Declared → QName → Option Name
element_name scope name = in_namespace name.local (namespace_of scope name.prefix)

abbrev pub attribute_in : Declared → Option (List ℕ) → List ℕ → Option Name
attribute_in scope None local = Some (record { ns = []; local = local })
attribute_in scope (Some p) local = in_namespace local (namespace_of scope (Some p))

unfoldable pub attribute_name : Declared → QName → Option Name
attribute_name scope name = attribute_in scope name.prefix name.local

abbrev pub and_more : Option Name → List ℕ → Option (List Attribute) → Option (List Attribute)
and_more None content rest = None
and_more (Some name) content None = None
and_more (Some name) content (Some attrs) = Some (record { name = name; content = content } ∷ attrs)

unfoldable pub expanded : Declared → List WrittenAttribute → Option (List Attribute)
expanded scope [] = Some []
expanded scope (a ∷ more) = and_more (attribute_name scope a.name) a.content (expanded scope more)

-- ---- names that occur twice

abbrev pub same_name : Name → Name → Bool
same_name a b = bytes_eq a.local b.local && bytes_eq a.ns b.ns

unfoldable pub is_named_in : Name → List Attribute → Bool
is_named_in name [] = false
is_named_in name (a ∷ more) = same_name a.name name || is_named_in name more

unfoldable pub is_named_twice : List Attribute → Bool
is_named_twice [] = false
is_named_twice (a ∷ more) = is_named_in a.name more || is_named_twice more

-- ---- the tag

-- a start with expanded names
pub record Element : Type 0 where
  pub name : Name
  pub attrs : List Attribute

abbrev pub with_attributes : Name → List WrittenAttribute → Option (List Attribute) → Result Element ℕ
with_attributes name declared None = Err 11
with_attributes name declared (Some attrs) = if is_written_twice declared || is_named_twice attrs then Err 12
    else Ok (record { name = name; attrs = attrs })

abbrev pub with_name : Option Name → List WrittenAttribute → Option (List Attribute) → Result Element ℕ
with_name None declared attrs = Err 11
with_name (Some name) declared attrs = with_attributes name declared attrs

-- A tag with this name, these declarations and these other `A` lines, inside the tags that declare these. Two of the
-- `A` lines have the same name as they are written if two of the declarations have, or if two attributes have the same
-- name.
unfoldable pub tag_read : Declared → QName → List WrittenAttribute → List WrittenAttribute → Result Element ℕ
tag_read outer name declared others = if any_forbidden declared then Err 11
    else with_name (element_name (declared ∷ outer) name) declared (expanded (declared ∷ outer) others)
