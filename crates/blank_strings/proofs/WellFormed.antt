-- A well-formed document stays so without blank strings that are beside elements.
use Rattle.std.proofs.Common.{Bool}
use Rattle.rng_model.specs.matching.Document.{Item, a_text, an_element, Items, no_items, item_and, list_of}
use Rattle.rng_model.specs.plain.WellFormed.{Separate, IsWellFormed, AreWellFormed}
use Rattle.rng_model.specs.plain.WellFormed as w
use Rattle.blank_strings.specs.LeftOut.{LeavesOutBlanks, LeaveOutBlanks, same_string, same_tag, no_more, kept, left_out}

separate : {b : Bool} (ns : Items) {ms : Items} → LeaveOutBlanks b ns ms → Separate (list_of ns) → Separate (list_of ms)
separate no_items no_more apart = w.nothing
separate (item_and (a_text s) no_items) (kept same_string no_more) apart = w.string
separate (item_and (a_text s) no_items) (left_out p no_more) apart = w.nothing
separate (item_and (a_text s) (item_and (a_text u) ns)) o apart = elim apart [ ]
separate (item_and (a_text s) (item_and (an_element q xs kids) ns)) (kept same_string (kept (same_tag i) o)) (w.string_element apart) =
    w.string_element (separate ns o apart)
separate (item_and (a_text s) (item_and (an_element q xs kids) ns)) (left_out p (kept (same_tag i) o)) (w.string_element apart) =
    w.element (separate ns o apart)
separate (item_and (an_element q xs kids) ns) (kept (same_tag i) o) (w.element apart) = w.element (separate ns o apart)

mutual
  pub formed : {n m : Item} → LeavesOutBlanks n m → IsWellFormed n → IsWellFormed m
  formed same_string f = f
  formed (same_tag {kids = kids} o) f = (f.0, separate kids o f.1, all_formed o f.2)

  all_formed : {b : Bool} {ns ms : Items} → LeaveOutBlanks b ns ms → AreWellFormed ns → AreWellFormed ms
  all_formed no_more f = tt
  all_formed (kept i o) f = (formed i f.0, all_formed o f.1)
  all_formed (left_out p o) f = all_formed o f.1
