-- What distinguishes the patterns of a table: the kind of each, the numbers of its parts, and the code of its label.
use Rattle.std.specs.Prelude.{◌≡◌, ℕ, List, [], ◌∷◌, slice_get, slice_index_or, Some, string_bytes}
use Rattle.rng_labels.specs.plain.LabelCodes.{Part, number, class_code, datatype_code, value_code}
use Rattle.rng_model.specs.datatypes.DatatypeViews.{datatype_of}
use Rattle.rng_model.specs.names.NameViews.{class_of}
use Rattle.rng_model.specs.schema.Patterns.{without_parameters}
use Rattle.rng_model.specs.declared.simple.PatternId.{PatternId}
use Rattle.rng_model.specs.declared.simple.Simple.{Simple}
use Rattle.rng_model.specs.declared.simple.Simple.TheVariants as simple

-- the number of a pattern by its position
abbrev pub number_at : List ℕ → PatternId → ℕ
number_at numbers id = slice_index_or numbers id.0 0

-- the kind of a pattern, and the numbers of its element or of its parts
abbrev pub numbers_of : (PatternId → ℕ) → Simple → ℕ × ℕ × ℕ
numbers_of of simple.NotAllowed = (0, 0, 0)
numbers_of of simple.Empty = (1, 0, 0)
numbers_of of simple.Text = (2, 0, 0)
numbers_of of (simple.Element e) = (3, e.0, 0)
numbers_of of (simple.Attribute class body) = (4, of body, 0)
numbers_of of (simple.List body) = (5, of body, 0)
numbers_of of (simple.Data datatype) = (6, 0, 0)
numbers_of of (simple.DataExcept datatype except) = (7, of except, 0)
numbers_of of (simple.Value value) = (8, 0, 0)
numbers_of of (simple.OneOrMore body) = (9, of body, 0)
numbers_of of (simple.Group a b) = (10, of a, of b)
numbers_of of (simple.Interleave a b) = (11, of a, of b)
numbers_of of (simple.Choice a b) = (12, of a, of b)

-- the code of the label of a pattern: of its name class, its datatype or its value
abbrev pub label_code : Simple → List Part
label_code simple.NotAllowed = []
label_code simple.Empty = []
label_code simple.Text = []
label_code (simple.Element e) = []
label_code (simple.Attribute class body) = class_code (class_of class.value) []
label_code (simple.List body) = []
label_code (simple.Data datatype) = datatype_code (datatype_of datatype.value)
label_code (simple.DataExcept datatype except) = datatype_code (datatype_of datatype.value)
label_code (simple.Value value) =
    value_code (without_parameters (string_bytes value.value.library) (string_bytes value.value.name), string_bytes value.value.text)
label_code (simple.OneOrMore body) = []
label_code (simple.Group a b) = []
label_code (simple.Interleave a b) = []
label_code (simple.Choice a b) = []

abbrev pub coded : ℕ × ℕ × ℕ → List Part → List Part
coded numbers label = number numbers.0 ∷ (number numbers.1 ∷ (number numbers.2 ∷ label))

abbrev pub pattern_code : (PatternId → ℕ) → Simple → List Part
pattern_code of p = coded (numbers_of of p) (label_code p)

-- each code of the first list is at the same place in the second
abbrev pub Stays : List (List Part) → List (List Part) → Type 0
Stays old new = (i : ℕ) (c : List Part) → slice_get old i ≡ Some c → slice_get new i ≡ Some c
