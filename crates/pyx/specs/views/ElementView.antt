-- The view of the open elements, and the names that are known among them.
use Rattle.std.specs.Prelude.{◌≡◌, ◌<◌, ◌≤◌, ℕ, List, [], map, reverse, slice_index_or, Result, Ok, Err, Option, Some, None, IfSome, string_bytes}
use Rattle.std.specs.Prelude.{Bool, false, true, ◌∷◌, ◌++◌, length, take, drop}
use Rattle.std.specs.List.{All}
use Rattle.std.specs.Str.{IsCharBoundary}
use Rattle.rng_model.specs.names.Names.{Name}
use Rattle.rng_model.specs.documents.PyxNamespaces.{WrittenAttribute}
use Rattle.rng_model.specs.documents.EventViews.{attribute_of}
use Rattle.rng_model.specs.names.NameViews.{name_of}
use Rattle.rng_model.specs.declared.document.Attr.{Attr}
use Rattle.pyx.specs.declared.fault.LineFault.{LineFault}
use Rattle.pyx.specs.declared.fault.LineFault.TheVariants as faults
use Rattle.pyx.specs.declared.namespaces.written.WrittenAttribute as written
use Rattle.pyx.specs.declared.elements.OpenElement.{OpenElement}
use Rattle.pyx.specs.declared.known.KnownName.{KnownName}
use Rattle.rng_model.specs.documents.PyxLines.{QName}
use Rattle.pyx.specs.plain.LineReader.{is_name}
use Rattle.pyx.specs.plain.WrittenNames.{written_of}
use Rattle.pyx.specs.views.WrittenAttributes.{written_attribute}
use Rattle.pyx.specs.plain.Declarations.{Declared, same_written}
use Rattle.pyx.specs.plain.TagReader.{Element, element_name}
use Rattle.pyx.specs.plain.DocumentReader.{Open}

-- the clause that a fault names; none if memory ran out
abbrev pub clause_of : LineFault → Option ℕ
clause_of faults.Memory = None
clause_of (faults.Clause k) = Some k

-- what was found for a name; P11 is broken if nothing was found
abbrev pub resolved : {A : Type 0} → Option A → Result A ℕ
resolved None = Err 11
resolved (Some a) = Ok a

abbrev pub open_as : List ℕ → List written.WrittenAttribute → Open
open_as name declarations = record { name = written_of name; declared = map written_attribute declarations }

abbrev pub open_with : List ℕ → List WrittenAttribute → Open
open_with name ds = record { name = written_of name; declared = ds }

-- The open elements, the innermost first. All names are in one text, the name of the innermost element last, and an element
-- has the place where its name begins. All declarations are in one list, those of the innermost element first, and an element
-- has the number of its declarations.
abbrev pub stack_in : List OpenElement → List ℕ → List WrittenAttribute → List Open
stack_in [] names ds = []
stack_in (e ∷ outer) names ds = open_with (drop e.start names) (take e.count ds) ∷ stack_in outer (take e.start names) (drop e.count ds)

-- the same from a list in which the innermost element is last
abbrev pub stack_of : List OpenElement → List ℕ → List WrittenAttribute → List Open
stack_of opened names ds = stack_in (reverse opened) names ds

-- the declarations of all these elements, in one list
abbrev pub all_declared : List Open → List WrittenAttribute
all_declared [] = []
all_declared (o ∷ outer) = o.declared ++ all_declared outer

-- ---- names that are known

-- the expanded names, each in its place
abbrev pub names_of : List KnownName → List Name
names_of known = map (λ k. name_of k.name) known

-- the name in a place; it is empty if the place is not there
abbrev pub name_at : List Name → ℕ → Name
name_at names at = slice_index_or names at (record { ns = []; local = [] })

-- the start of an element with these attributes, whose name is in this place
abbrev pub element_at : List Name → List Attr → ℕ → Element
element_at names attrs at = record { name = name_at names at; attrs = map attribute_of attrs }

-- the bytes are a name, or there are none
abbrev pub IsJudged : List ℕ → Type 0
IsJudged bytes = 0 < length bytes → is_name bytes ≡ true

-- The name was not looked up in a later round than this one. If it was looked up in this round, it is a name or empty, and
-- the expanded name that is kept is the one that it has in this scope.
abbrev pub IsKnown : Declared → ℕ → KnownName → Type 0
IsKnown scope round k = (k.round ≤ round) × (k.round ≡ round
    → IsJudged (string_bytes k.written) × (element_name scope (written_of (string_bytes k.written)) ≡ Some (name_of k.name)))

abbrev pub AreKnown : Declared → ℕ → List KnownName → Type 0
AreKnown scope round known = (0 < round) × All (IsKnown scope round) known

-- in this place is the expanded name that this written name has in this scope
abbrev pub IsPlace : Declared → List ℕ → List KnownName → ℕ → Type 0
IsPlace scope written known at = (at < length known) × (element_name scope (written_of written) ≡ Some (name_at (names_of known) at))

-- The text has the names of these elements, of which the innermost is first. It may be cut where each name begins, and each is a
-- name or empty.
abbrev pub AreNamed : List OpenElement → List ℕ → Type 0
AreNamed [] names = Unit {0}
AreNamed (e ∷ outer) names = IsCharBoundary names e.start × (IsJudged (drop e.start names) × AreNamed outer (take e.start names))

-- What is kept: the open elements, their declarations, the text of their names, the place in it where the name of the tag that
-- has begun begins, the place of that name among the known names if it was known then, the round, and the known names.
pub record AreKept (opened : List OpenElement) (ds : List WrittenAttribute) (written : List ℕ) (begun : ℕ) (place : Option ℕ) (round : ℕ)
    (names : List KnownName) : Type 0 where
  pub known : AreKnown (ds ∷ []) round names
  -- each declaration belongs to an element
  pub whole : all_declared (stack_of opened (take begun written) ds) ≡ ds
  pub cut : IsCharBoundary written begun
  pub judged : IsJudged (drop begun written)
  pub placed : IfSome place (IsPlace (ds ∷ []) (drop begun written) names)
  pub named : AreNamed (reverse opened) (take begun written)

-- What contracts see: the open elements, the innermost first, the name of the tag that has begun, and the expanded names that
-- were looked up, each in its place.
pub record Elements : Type 0 where
  pub opened : List Open
  pub begun : List ℕ
  pub names : List Name

-- whether the innermost element has this name
abbrev pub is_innermost : QName → List Open → Bool
is_innermost name [] = false
is_innermost name (o ∷ outer) = same_written o.name name
