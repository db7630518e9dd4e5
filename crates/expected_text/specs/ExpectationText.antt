-- The text of what may come next, and of what a tag may have (RELAX NG Specification, section 6.2): lines of fields with a
-- space between.
use Rattle.std.specs.Prelude.{ℕ, Bool, true, false, ◌==◌, if◌then◌else◌, List, [], ◌∷◌, ◌++◌, codes, flat_map}
use Rattle.rng_model.specs.names.Names.{Name, NameClass, any_name, any_except, ns_name, ns_except, name_is, one_of, NameClasses, no_classes, class_and}
use Rattle.rng_model.specs.simple.Tree.{Datatype}
use Rattle.rng_expected.specs.Expectations.{Next}
use Rattle.rng_expected.specs.Tags.{Tag}

-- ---- fields

-- `\\`, `\n`, `\r`, `\t` and `\s` for a backslash, a line feed, a carriage return, a tab and a space
abbrev pub escaped : ℕ → List ℕ
escaped c =
    if c == 0x5C then 0x5C ∷ 0x5C ∷ [] else (
    if c == 0xA then 0x5C ∷ codes "n" else (
    if c == 0xD then 0x5C ∷ codes "r" else (
    if c == 0x9 then 0x5C ∷ codes "t" else (
    if c == 0x20 then 0x5C ∷ codes "s" else c ∷ []))))

abbrev pub field : List ℕ → List ℕ
field w = flat_map escaped w

-- ---- name classes

abbrev pub in_braces : List ℕ → List ℕ
in_braces uri = codes "{" ++ (field uri ++ codes "}")

-- every name of this text, except those of the classes with these texts
abbrev pub except_text : List ℕ → List (List ℕ) → List ℕ
except_text w excepted = w ++ (codes " except ( " ++ (flat_map (λ t. t ++ codes " ") excepted ++ codes ")"))

-- the text of a class, or those of the members of a choice, and of their members
abbrev mutual
  pub class_texts : NameClass → List (List ℕ)
  class_texts any_name = codes "*" ∷ []
  class_texts (any_except c) = except_text (codes "*") (class_texts c) ∷ []
  class_texts (ns_name u) = (in_braces u ++ codes "*") ∷ []
  class_texts (ns_except u c) = except_text (in_braces u ++ codes "*") (class_texts c) ∷ []
  class_texts (name_is n) = (in_braces n.ns ++ field n.local) ∷ []
  class_texts (one_of c d cs) = class_texts c ++ (class_texts d ++ member_texts cs)

  pub member_texts : NameClasses → List (List ℕ)
  member_texts no_classes = []
  member_texts (class_and c cs) = class_texts c ++ member_texts cs

-- ---- lines

-- a line with this word for each class
abbrev pub class_lines : List ℕ → NameClass → List ℕ
class_lines word c = flat_map (λ t. word ++ (t ++ 0xA ∷ [])) (class_texts c)

abbrev pub element_lines : NameClass → List ℕ
element_lines = class_lines (codes "element ")

abbrev pub text_line : Bool → List ℕ
text_line true = codes "text" ++ 0xA ∷ []
text_line false = []

-- the library of a value or of a datatype, and its name there
abbrev pub type_fields : Datatype → List ℕ
type_fields d = field d.library ++ (codes " " ++ field d.name)

abbrev pub value_line : Datatype × List ℕ → List ℕ
value_line v = codes "value " ++ (type_fields v.0 ++ (codes " " ++ (field v.1 ++ 0xA ∷ [])))

-- the name of a parameter, and its value
abbrev pub parameter_fields : List ℕ × List ℕ → List ℕ
parameter_fields p = codes " " ++ (field p.0 ++ (codes " " ++ field p.1))

abbrev pub datatype_line : Datatype → List ℕ
datatype_line d = codes "datatype " ++ (type_fields d ++ (flat_map parameter_fields d.parameters ++ 0xA ∷ []))

abbrev pub attribute_lines : NameClass → List ℕ
attribute_lines = class_lines (codes "attribute ")

abbrev pub required_line : Name → List ℕ
required_line n = codes "required " ++ (in_braces n.ns ++ (field n.local ++ 0xA ∷ []))

abbrev pub tag_text : Tag → List ℕ
tag_text tag = flat_map attribute_lines tag.attributes ++ flat_map required_line tag.required

abbrev pub expectation_text : Next → List ℕ
expectation_text next =
    flat_map element_lines next.elements
    ++ (text_line next.text ++ (flat_map value_line next.values ++ flat_map datatype_line next.datatypes))
