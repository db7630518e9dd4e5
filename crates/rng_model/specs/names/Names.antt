-- The characters of names, names, name classes, and which names a class holds. A character is its Unicode number.
use Rattle.std.specs.Prelude.{codes, ⊤, ℕ, List, [], ◌∷◌, Bool, false, ◌&&◌, ◌||◌, not, ◌==◌, nat_le, ◌≡◌, ◌⊎◌}
use Rattle.std.specs.List.{list_any, list_all}
use Rattle.std.specs.Str.{IsUtf8}

-- ---- characters, and NCNames

-- the first and the last of each range of Char (XML 1.0 Fifth Edition, section 2.2)
abbrev pub xml_char_ranges : List (ℕ × ℕ)
xml_char_ranges = (0x9, 0xA) ∷ (0xD, 0xD) ∷ (0x20, 0xD7FF) ∷ (0xE000, 0xFFFD) ∷ (0x10000, 0x10FFFF) ∷ []

-- the ranges of NameStartChar (XML 1.0 Fifth Edition, section 2.3)
abbrev pub name_start_ranges : List (ℕ × ℕ)
name_start_ranges =
    (0x3A, 0x3A) ∷ (0x41, 0x5A) ∷ (0x5F, 0x5F) ∷ (0x61, 0x7A) ∷ (0xC0, 0xD6) ∷ (0xD8, 0xF6) ∷ (0xF8, 0x2FF) ∷ (0x370, 0x37D) ∷
    (0x37F, 0x1FFF) ∷ (0x200C, 0x200D) ∷ (0x2070, 0x218F) ∷ (0x2C00, 0x2FEF) ∷ (0x3001, 0xD7FF) ∷ (0xF900, 0xFDCF) ∷
    (0xFDF0, 0xFFFD) ∷ (0x10000, 0xEFFFF) ∷ []

-- the ranges of NameChar that are not in NameStartChar (XML 1.0 Fifth Edition, section 2.3)
abbrev pub more_name_ranges : List (ℕ × ℕ)
more_name_ranges = (0x2D, 0x2E) ∷ (0x30, 0x39) ∷ (0xB7, 0xB7) ∷ (0x300, 0x36F) ∷ (0x203F, 0x2040) ∷ []

-- the number is in one of the ranges
abbrev pub is_in_ranges : List (ℕ × ℕ) → ℕ → Bool
is_in_ranges ranges c = list_any (λ r. nat_le r.0 c && nat_le c r.1) ranges

abbrev pub is_xml_char : ℕ → Bool
is_xml_char c = is_in_ranges xml_char_ranges c

abbrev pub is_name_start : ℕ → Bool
is_name_start c = is_in_ranges name_start_ranges c

abbrev pub is_name_char : ℕ → Bool
is_name_char c = is_name_start c || is_in_ranges more_name_ranges c

abbrev pub is_colon : ℕ → Bool
is_colon c = c == 0x3A

-- an NCName: a NameStartChar and then NameChars, none of them a colon (Namespaces in XML 1.0, section 3)
abbrev pub is_ncname : List ℕ → Bool
is_ncname [] = false
is_ncname (c ∷ cs) = (is_name_start c && not (is_colon c)) && list_all (λ d. is_name_char d && not (is_colon d)) cs

-- ---- names and name classes

-- an expanded name: a namespace, which is empty if there is none, and a local name, as the bytes of texts (Namespaces
-- in XML 1.0, section 2.1)
pub record Name : Type 0 where
  pub ns : List ℕ
  pub local : List ℕ

-- the namespace of the prefix `xml` (Namespaces in XML 1.0, section 3)
abbrev pub xml_uri : List ℕ
xml_uri = codes "http://www.w3.org/XML/1998/namespace"

-- a name class as it is written; a choice has two members or more (RELAX NG Specification, section 3)
mutual
  pub data NameClass : Type 0 where
    any_name : NameClass
    any_except : NameClass → NameClass
    ns_name : List ℕ → NameClass
    ns_except : List ℕ → NameClass → NameClass
    name_is : Name → NameClass
    one_of : NameClass → NameClass → NameClasses → NameClass

  pub data NameClasses : Type 0 where
    no_classes : NameClasses
    class_and : NameClass → NameClasses → NameClasses

-- a list of classes as the members of a choice
abbrev pub class_list : List NameClass → NameClasses
class_list [] = no_classes
class_list (c ∷ cs) = class_and c (class_list cs)

-- a choice of any number of members: a choice of one member is that member (RELAX NG Specification, section 4.12), a
-- choice of none holds no name
abbrev pub some_of : List NameClass → NameClass
some_of [] = any_except any_name
some_of (c ∷ []) = c
some_of (c ∷ (d ∷ cs)) = one_of c d (class_list cs)

-- the class holds the name (RELAX NG Specification, section 6.1)
abbrev mutual
  pub In : NameClass → Name → Type 0
  In any_name q = ⊤
  In (any_except c) q = ¬ (In c q)
  In (ns_name u) q = q.ns ≡ u
  In (ns_except u c) q = (q.ns ≡ u) × ¬ (In c q)
  In (name_is n) q = q ≡ n
  In (one_of c d cs) q = In c q ⊎ (In d q ⊎ InSome cs q)

  pub InSome : NameClasses → Name → Type 0
  InSome no_classes q = ⊥
  InSome (class_and c cs) q = In c q ⊎ InSome cs q

-- both parts of the name are texts
abbrev pub IsPairOfTexts : Name → Type 0
IsPairOfTexts q = IsUtf8 q.ns × IsUtf8 q.local

-- some name is in both classes (RELAX NG Specification, section 7.3)
abbrev pub Overlap : NameClass → NameClass → Type 0
Overlap c d = (q : Name) × IsPairOfTexts q × In c q × In d q
