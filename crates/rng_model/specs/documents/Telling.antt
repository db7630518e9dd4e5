-- Which calls tell a document, and what its events are.
-- (RELAX NG Specification, section 2; XML 1.0, sections 2.1, 2.2, 2.8 and 3.1; Namespaces in XML 1.0, sections 3 and 6.3)
-- A call has the form of an event: an element starts, a text comes, or the innermost element ends. Its place is its
-- `line`. Its text may be empty, and may be a part of a string.
use Rattle.std.specs.Prelude.{◌≡◌, ⊤, ℕ, ◌+◌, ◌-◌, ◌==◌, Bool, true, ◌&&◌, if◌then◌else◌, List, [], ◌∷◌, ◌++◌}
use Rattle.std.specs.List.{list_all, AllByRecursion}
use Rattle.std.specs.Str.{chars}
use Rattle.rng_model.specs.names.Names.{Name, is_xml_char, is_ncname}
use Rattle.rng_model.specs.datatypes.Texts.{is_blank}
use Rattle.rng_model.specs.matching.Document.{Attribute, Distinct}
use Rattle.rng_model.specs.documents.PyxTrees.{Placed, text_at, element_at, item_of, Event, EventKind, a_start, a_string, an_end, events_of}
use Rattle.rng_model.specs.plain.WellFormed.{IsWellFormed}

-- ---- what a call tells by itself

abbrev pub are_xml_chars : List ℕ → Bool
are_xml_chars s = list_all is_xml_char (chars s)

abbrev pub is_good_name : Name → Bool
is_good_name q = are_xml_chars q.ns && is_ncname (chars q.local)

abbrev pub is_good_attribute : Attribute → Bool
is_good_attribute a = is_good_name a.name && are_xml_chars a.content

-- characters are those of XML, local names are NCNames, and no two attributes of a start have the same name
abbrev pub IsGood : EventKind → Type 0
IsGood (a_start q xs) = (is_good_name q ≡ true) × (list_all is_good_attribute xs ≡ true) × Distinct xs
IsGood (a_string s) = are_xml_chars s ≡ true
IsGood an_end = ⊤

-- ---- the events of calls

-- a text is a string, unless it is empty
abbrev pub string_at : ℕ → List ℕ → List Event
string_at n [] = []
string_at n (c ∷ cs) = record { line = n; kind = a_string (c ∷ cs) } ∷ []

-- what a text tells where so many elements are open: white space outside the root is nothing
abbrev pub text_told : ℕ → List ℕ → List ℕ
text_told depth s = if depth == 0 && is_blank s then [] else s

-- how many elements are open after a call
abbrev pub depth_after : EventKind → ℕ → ℕ
depth_after (a_start q xs) depth = depth + 1
depth_after (a_string s) depth = depth
depth_after an_end depth = depth - 1

-- the text behind which no start or end has come, after a call
abbrev pub text_after : EventKind → ℕ → List ℕ → List ℕ
text_after (a_start q xs) depth text = []
text_after (a_string s) depth text = text ++ text_told depth s
text_after an_end depth text = []

-- the events of a call at this place: a start or an end is behind the string before it, which gets its place
abbrev pub events_at : ℕ → EventKind → List ℕ → List Event
events_at n (a_start q xs) text = string_at n text ++ record { line = n; kind = a_start q xs } ∷ []
events_at n (a_string s) text = []
events_at n an_end text = string_at n text ++ record { line = n; kind = an_end } ∷ []

-- The events of calls, where so many elements are open, and behind this text. Texts that follow each other are one
-- string. At the end of the calls a text has no place.
unfoldable pub events_behind : ℕ → List ℕ → List Event → List Event
events_behind depth text [] = string_at 0 text
events_behind depth text (c ∷ more) = events_at c.line c.kind text ++ events_behind (depth_after c.kind depth) (text_after c.kind depth text) more

abbrev pub events_told : List Event → List Event
events_told calls = events_behind 0 [] calls

-- ---- documents

abbrev pub IsPlacedElement : Placed → Type 0
IsPlacedElement (text_at n s) = ⊥
IsPlacedElement (element_at n q xs kids m) = ⊤

-- the calls tell the document of this tree
pub record TellsDocument (calls : List Event) (tree : Placed) : Type 0 where
  pub good : AllByRecursion (λ c. IsGood c.kind) calls
  pub element : IsPlacedElement tree
  pub formed : IsWellFormed (item_of tree)
  pub events : events_told calls ≡ events_of tree

-- no calls that begin with these tell a document
abbrev pub NoneBegins : List Event → Type 0
NoneBegins calls = (more : List Event) (tree : Placed) → ¬ (TellsDocument (calls ++ more) tree)

-- The calls begin those of a document. The events of each such document begin with these events.
pub record BeginToTell (calls : List Event) (sent : List Event) : Type 0 where
  pub more : List Event
  pub tree : Placed
  pub document : TellsDocument (calls ++ more) tree
  pub events : (behind : List Event) (other : Placed) → TellsDocument (calls ++ behind) other → (rest : List Event) × (events_of other ≡ sent ++ rest)

-- the calls tell exactly one document, and these are its events
pub record TellsTheDocument (calls : List Event) (sent : List Event) : Type 0 where
  pub tree : Placed
  pub document : TellsDocument calls tree
  pub events : events_of tree ≡ sent
  pub only : (other : Placed) → TellsDocument calls other → other ≡ tree
