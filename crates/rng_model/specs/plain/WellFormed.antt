-- Items as they are in documents.
use Rattle.std.specs.Prelude.{⊤, ◌≢◌, ℕ, List, [], ◌∷◌}
use Rattle.rng_model.specs.names.Names.{Name}
use Rattle.rng_model.specs.matching.Document.{Attribute, Item, a_text, an_element, Items, no_items, item_and, list_of, Distinct}

-- no two strings are adjacent
pub data Separate : List Item → Type 0 where
  nothing : Separate []
  string : {s : List ℕ} → Separate (a_text s ∷ [])
  element : {q : Name} {xs : List Attribute} {kids : Items} {ns : List Item} → Separate ns → Separate (an_element q xs kids ∷ ns)
  string_element : {s : List ℕ} {q : Name} {xs : List Attribute} {kids : Items} {ns : List Item} → Separate ns
      → Separate (a_text s ∷ an_element q xs kids ∷ ns)

-- in each element the attributes have distinct names, no string is empty, and no two strings are adjacent (RELAX NG
-- Specification, section 2; Namespaces in XML 1.0, section 6.3)
abbrev mutual
  pub IsWellFormed : Item → Type 0
  IsWellFormed (a_text s) = s ≢ []
  IsWellFormed (an_element q xs kids) = Distinct xs × Separate (list_of kids) × AreWellFormed kids

  pub AreWellFormed : Items → Type 0
  AreWellFormed no_items = ⊤
  AreWellFormed (item_and n ns) = IsWellFormed n × AreWellFormed ns
