-- Documents without some of the blank strings that are beside elements (RELAX NG Specification, section 6.2.7).
use Rattle.std.specs.Prelude.{◌≡◌, ℕ, List, Bool, true}
use Rattle.rng_model.specs.names.Names.{Name}
use Rattle.rng_model.specs.matching.Document.{Attribute, Item, a_text, an_element, Items, no_items, item_and, list_of}
use Rattle.rng_model.specs.datatypes.Texts.{is_blank}
use Rattle.rng_deriv_laws.specs.plain.Blanks.{has_element}

mutual
  -- The second item is the first one, where some blank strings are left out that have an element among their siblings. In
  -- a well-formed document such a string is next to an element.
  pub data LeavesOutBlanks : Item → Item → Type 0 where
    same_string : {s : List ℕ} → LeavesOutBlanks (a_text s) (a_text s)
    same_tag : {q : Name} {xs : List Attribute} {kids rest : Items} → LeaveOutBlanks (has_element (list_of kids)) kids rest
        → LeavesOutBlanks (an_element q xs kids) (an_element q xs rest)

  -- the same of siblings; the truth value says whether an element is among all of them
  pub data LeaveOutBlanks : Bool → Items → Items → Type 0 where
    no_more : {b : Bool} → LeaveOutBlanks b no_items no_items
    kept : {b : Bool} {n m : Item} {ns ms : Items} → LeavesOutBlanks n m → LeaveOutBlanks b ns ms → LeaveOutBlanks b (item_and n ns) (item_and m ms)
    left_out : {s : List ℕ} {ns ms : Items} → is_blank s ≡ true → LeaveOutBlanks true ns ms → LeaveOutBlanks true (item_and (a_text s) ns) ms
