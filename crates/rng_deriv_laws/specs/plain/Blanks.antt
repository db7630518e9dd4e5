-- Blank strings among the children of an element (RELAX NG Specification, section 6.2.7).
use Rattle.std.specs.Prelude.{◌≡◌, ℕ, List, [], ◌∷◌, Bool, true, false, cond}
use Rattle.rng_model.specs.matching.Document.{Item, a_text, an_element, AllTexts}
use Rattle.rng_model.specs.datatypes.Texts.{is_blank}

-- P holds of each item
pub data Every {A : Type 0} (P : A → Type 0) : List A → Type 0 where
  nil : Every P []
  cons : {x : A} {xs : List A} → P x → Every P xs → Every P (x ∷ xs)

-- some item is an element
abbrev pub has_element : List Item → Bool
has_element [] = false
has_element (a_text s ∷ ns) = has_element ns
has_element (an_element q xs kids ∷ ns) = true

abbrev pub without_blanks : List Item → List Item
without_blanks [] = []
without_blanks (a_text s ∷ ns) = cond (is_blank s) (without_blanks ns) (a_text s ∷ without_blanks ns)
without_blanks (an_element q xs kids ∷ ns) = an_element q xs kids ∷ without_blanks ns

-- the only string among children without an element, or the empty string if there is none
abbrev pub string_of : List Item → List ℕ
string_of [] = []
string_of (a_text s ∷ ns) = s
string_of (an_element q xs kids ∷ ns) = []

abbrev pub IsNotBlank : Item → Type 0
IsNotBlank (a_text s) = is_blank s ≡ false
IsNotBlank (an_element q xs kids) = Unit {0}

-- only strings, or no blank string: then no string is the padding of an element
pub data IsBare : List Item → Type 0 where
  strings_alone : {ns : List Item} → AllTexts ns → IsBare ns
  no_blanks : {ns : List Item} → Every IsNotBlank ns → IsBare ns
