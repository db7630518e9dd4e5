-- What a document declares (XML 1.0 Fifth Edition, sections 3.3, 4.2, 4.6 and 5.1), what references refer to (section 4.1), and
-- the attributes of a tag (sections 3.3.2 and 3.3.3).
use Rattle.std.specs.Prelude.{ℕ, ◌==◌, Bool, true, false, not, ◌&&◌, if◌then◌else◌, List, [], ◌∷◌, ◌++◌, Option, Some, None, map, is_some, ◌≡◌, codes}
use Rattle.std.specs.List.{list_any, filter, filter_map, fold, slice_split, join_with_byte}
use Rattle.std.specs.Option.{option_map}
use Rattle.std.specs.Map.{lookup}
use Rattle.std.specs.Str.{bytes_eq}
use Rattle.rng_model.specs.datatypes.Texts.{has_bytes}

-- an entity of one's own, with its replacement text (section 4.5); one of another file; one that is no text
pub data Entity : Type 0 where
  internal : List ℕ → Entity
  external : Entity
  unparsed : Entity

-- an attribute of an element, as it is declared: whether its type is another than CDATA, and its default value
pub record DeclaredAttribute : Type 0 where
  pub element : List ℕ
  pub name : List ℕ
  pub tokenized : Bool
  pub default : Option (List ℕ)

pub record Declared : Type 0 where
  -- general entities and parameter entities by name: the first one of a name is the one that counts
  pub general : List (List ℕ × Entity)
  pub parameter : List (List ℕ × Entity)
  -- the names of general entities that are declared, and not in a parameter entity
  pub in_document : List (List ℕ)
  pub attributes : List DeclaredAttribute
  -- `standalone="yes"`
  pub standalone : Bool
  -- there is an external subset, or there was a reference to a parameter entity
  pub has_more : Bool
  -- there was a reference to a parameter entity that is not read
  pub unread : Bool

-- ---- before the first declaration

-- the entities that need no declaration (section 4.6)
abbrev pub predefined : List (List ℕ × Entity)
predefined = (codes "lt", internal (codes "&#60;")) ∷ (codes "gt", internal (codes "&#62;")) ∷ (codes "amp", internal (codes "&#38;"))
    ∷ (codes "apos", internal (codes "&#39;")) ∷ (codes "quot", internal (codes "&#34;")) ∷ []

abbrev pub is_predefined : List ℕ → Bool
is_predefined name = is_some (lookup (bytes_eq name) predefined)

abbrev pub initially : Bool → Bool → Declared
initially standalone has_subset = record {
  general = predefined;
  parameter = [];
  in_document = map (λ e. e.0) predefined;
  attributes = [];
  standalone = standalone;
  has_more = has_subset;
  unread = false;
}

-- ---- declarations

-- behind a parameter entity that is not read no declaration counts, unless the document is `standalone` (section 5.1)
abbrev pub if_counts : Declared → Declared → Declared
if_counts old new = if old.unread && not old.standalone then old else new

-- inside: in a parameter entity
abbrev pub with_general : Bool → List ℕ → Entity → Declared → Declared
with_general inside name e d = if_counts d (record d {
  general = d.general ++ (name, e) ∷ [];
  in_document = if inside then d.in_document else d.in_document ++ name ∷ [];
})

abbrev pub with_parameter : List ℕ → Entity → Declared → Declared
with_parameter name e d = if_counts d (record d { parameter = d.parameter ++ (name, e) ∷ [] })

abbrev pub is_for : List ℕ → List ℕ → DeclaredAttribute → Bool
is_for element name a = bytes_eq a.element element && bytes_eq a.name name

-- the first declaration of an attribute is the one that counts (section 3.3)
abbrev pub with_attribute : List DeclaredAttribute → DeclaredAttribute → List DeclaredAttribute
with_attribute all a = if list_any (is_for a.element a.name) all then all else all ++ a ∷ []

abbrev pub with_attributes : List DeclaredAttribute → Declared → Declared
with_attributes new d = if_counts d (record d { attributes = fold with_attribute d.attributes new })

-- ---- references to general entities

-- the entity of this name is declared (WFC Entity Declared: if `standalone`, then also outside parameter entities)
pub record IsEntity (d : Declared) (name : List ℕ) (e : Entity) : Type 0 where
  pub declared : lookup (bytes_eq name) d.general ≡ Some e
  pub outside : d.standalone ≡ true → list_any (bytes_eq name) d.in_document ≡ true

-- it is not, and that is no fault (WFC Entity Declared): it may be declared where this processor does not read
pub record IsUnknown (d : Declared) (name : List ℕ) : Type 0 where
  pub undeclared : lookup (bytes_eq name) d.general ≡ None
  pub more : d.has_more ≡ true
  pub not_alone : d.standalone ≡ false

-- ---- attributes of a tag

-- without spaces (U+0020) at both ends, and with one in place of several
abbrev pub collapsed : List ℕ → List ℕ
collapsed value = join_with_byte 0x20 (filter has_bytes (slice_split (λ c. c == 0x20) value))

-- the value by the type of its attribute (section 3.3.3)
abbrev pub typed : Bool → List ℕ → List ℕ
typed tokenized value = if tokenized then collapsed value else value

abbrev pub is_tokenized : Declared → List ℕ → List ℕ → Bool
is_tokenized d element name = list_any (λ a. is_for element name a && a.tokenized) d.attributes

-- the default that this declaration adds to a tag, which has attributes (section 3.3.2)
abbrev pub added : List ℕ → List (List ℕ × List ℕ) → DeclaredAttribute → Option (List ℕ × List ℕ)
added element specified a =
    if bytes_eq a.element element && not (is_some (lookup (bytes_eq a.name) specified)) then option_map (λ value. (a.name, value)) a.default else None

-- all attributes of a tag, by those that are specified in it
abbrev pub all_attributes : Declared → List ℕ → List (List ℕ × List ℕ) → List (List ℕ × List ℕ)
all_attributes d element specified =
    map (λ a. (a.0, typed (is_tokenized d element a.0) a.1)) specified ++ filter_map (added element specified) d.attributes
