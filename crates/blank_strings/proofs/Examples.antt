-- Small cases of what may be left out.
use Rattle.std.proofs.Common.{◌≡◌, [], ◌∷◌, codes, refl, false}
use Rattle.rng_model.specs.names.Names.{Name}
use Rattle.rng_model.specs.matching.Document.{Item, a_text, an_element, Items, no_items, item_and}
use Rattle.rng_model.specs.documents.PyxTrees.{Event, a_start, a_string, an_end}
use Rattle.element_events.specs.views.Told.{call}
use Rattle.blank_strings.specs.LeftOut.{LeavesOutBlanks, same_string, same_tag, no_more, kept, left_out}
use Rattle.blank_strings.specs.LeftOutCalls.{no_text, text_and, LeaveOutTexts, last_texts, texts_stay, texts_out}

abbrev name : Name
name = record { ns = []; local = codes "a" }

abbrev blank : Item
blank = a_text (codes " ")

abbrev around : Items → Item
around kids = an_element name [] kids

-- `<a> <a/> </a>` without its blanks is `<a><a/></a>`
both_sides : LeavesOutBlanks (around (item_and blank (item_and (around no_items) (item_and blank no_items)))) (around (item_and (around no_items) no_items))
both_sides = same_tag (left_out refl (kept (same_tag no_more) (left_out refl no_more)))

-- `<a> </a>` keeps its blank, which is the only child
only_child : (e : Item) → LeavesOutBlanks (around (item_and blank no_items)) e → e ≡ around (item_and blank no_items)
only_child e (same_tag (kept same_string no_more)) = refl

-- the same in calls, where the second blank string comes in two texts
abbrev starts : Event
starts = call 1 (a_start name [])

abbrev text : Event
text = call 1 (a_string (codes " "))

abbrev ends : Event
ends = call 1 an_end

in_calls : LeaveOutTexts false (starts ∷ text ∷ starts ∷ ends ∷ text ∷ text ∷ ends ∷ []) (starts ∷ starts ∷ ends ∷ ends ∷ [])
in_calls =
    texts_stay [] 1 (a_start name []) no_text tt
    (texts_out (text ∷ []) 1 (a_start name []) (text_and refl no_text) tt
    (texts_stay [] 1 an_end no_text tt (texts_out (text ∷ text ∷ []) 1 an_end (text_and refl (text_and refl no_text)) refl (last_texts no_text))))
