-- The rows of a table: what they contain, whose names are checked, and between which sides names must not meet.
use Rattle.std.specs.Prelude.{◌≡◌, ◌↔◌, ℕ, List, [], ◌∷◌, ◌++◌, length, map, slice_get, slice_index_or, Option, Some, None, option_map, Contains}
use Rattle.rng_model.specs.simple.Table.{Table}
use Rattle.rng_model.specs.declared.name.NameClass.{NameClass}
use Rattle.rng_model.specs.declared.simple.PatternId.{PatternId}
use Rattle.rng_model.specs.declared.simple.Simple.{Simple}
use Rattle.rng_model.specs.declared.simple.Simple.TheVariants as simple
use Rattle.rng_rules.specs.declared.names_meet.NamesOf.{NamesOf}
use Rattle.rng_rules.specs.declared.names_meet.NamesOf.TheVariants as names_of

-- the rows of the children of a pattern
abbrev pub children : Simple → List ℕ
children simple.NotAllowed = []
children simple.Empty = []
children simple.Text = []
children (simple.Element e) = []
children (simple.Attribute class body) = body.0 ∷ []
children (simple.List body) = body.0 ∷ []
children (simple.Data datatype) = []
children (simple.DataExcept datatype except) = except.0 ∷ []
children (simple.Value value) = []
children (simple.OneOrMore body) = body.0 ∷ []
children (simple.Group a b) = a.0 ∷ (b.0 ∷ [])
children (simple.Interleave a b) = a.0 ∷ (b.0 ∷ [])
children (simple.Choice a b) = a.0 ∷ (b.0 ∷ [])

-- the rows to which a pattern passes in the search for what occurs in it (RELAX NG Specification, section 7.3)
abbrev pub passed : Simple → List ℕ
passed simple.NotAllowed = []
passed simple.Empty = []
passed simple.Text = []
passed (simple.Element e) = []
passed (simple.Attribute class body) = []
passed (simple.List body) = []
passed (simple.Data datatype) = []
passed (simple.DataExcept datatype except) = []
passed (simple.Value value) = []
passed (simple.OneOrMore body) = body.0 ∷ []
passed (simple.Group a b) = a.0 ∷ (b.0 ∷ [])
passed (simple.Interleave a b) = a.0 ∷ (b.0 ∷ [])
passed (simple.Choice a b) = a.0 ∷ (b.0 ∷ [])

-- the name class that a pattern itself has
abbrev pub class_at : NamesOf → List (NameClass × PatternId) → Simple → Option NameClass
class_at names_of.Attributes es (simple.Attribute class body) = Some class.value
class_at names_of.Elements es (simple.Element e) = option_map (λ x. x.0) (slice_get es e.0)
class_at of es p = None

-- the rows of a pattern between which names must not meet
abbrev pub sides_at : NamesOf → Simple → Option (ℕ × ℕ)
sides_at names_of.Attributes (simple.Group a b) = Some (a.0, b.0)
sides_at of (simple.Interleave a b) = Some (a.0, b.0)
sides_at of p = None

-- the row of the start, and those of the bodies
abbrev pub part_rows : Table → List ℕ
part_rows t = map (λ e. e.1.0) t.elements ++ t.start.0 ∷ []

abbrev pub children_at : List Simple → ℕ → List ℕ
children_at ps i = slice_index_or (map children ps) i []

-- the pattern p passes to the row c
abbrev pub Passes : List Simple → ℕ → ℕ → Type 0
Passes ps c p = (r : Simple) × (slice_get ps p ≡ Some r) × Contains (passed r) c

-- for each row those that pass to it
pub record IsAbove (ps : List Simple) (above : List (List ℕ)) : Type 0 where
  pub long : length above ≡ length ps
  pub exact : (c p : ℕ) → Contains (slice_index_or above c []) p ↔ Passes ps c p

-- the name class that a row itself has
abbrev pub class_in : NamesOf → List (NameClass × PatternId) → Option Simple → Option NameClass
class_in of es None = None
class_in of es (Some p) = class_at of es p

-- the row has this name class, of those that are checked
abbrev pub IsLabelled : NamesOf → Table → ℕ → NameClass → Type 0
IsLabelled of t row class = class_in of t.elements (slice_get t.patterns row) ≡ Some class
