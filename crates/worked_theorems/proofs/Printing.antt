-- The printed text of a simple grammar (docs/use/LANGUAGE.md, "The simple form, printed").
use Rattle.std.proofs.Common.{◌≡◌, ℕ, List, [], ◌∷◌, ◌++◌, codes, refl, sym, ap, true≢false, arith}
use Rattle.std.specs.Prelude.{flat_map, decimal}
use Rattle.std.proofs.lemmas.Fmt.{decimal_digit}
use Rattle.rng_model.specs.names.Names.{NameClass, name_is}
use Rattle.rng_model.specs.simple.Tree.{Simple, choice, group, s_empty, s_text, s_leaf, s_attribute, s_joined}
use Rattle.rng_model.specs.simple.Grammar.{Grammar}
use Rattle.rncv_model.specs.printed.Items.{IsReached, at_start, in_line, PrintedItem, element, pattern, same_item, named_item, mentions, IsItemsOf}
use Rattle.rncv_model.specs.printed.PrintedText.{text_of, IsPrinted}

abbrev named : List ℕ → NameClass
named local = name_is (record { ns = []; local = local })

-- `attribute to { text }`
abbrev to : Simple ℕ
to = s_attribute (named (codes "to")) s_text

abbrev to_and_title : Simple ℕ
to_and_title = s_joined group to (s_leaf 1)

abbrev body_or_nothing : Simple ℕ
body_or_nothing = s_joined choice s_empty (s_leaf 2)

abbrev content : Simple ℕ
content = s_joined group to_and_title body_or_nothing

-- the simple form of `element letter { attribute to { text }, element title { text }, element body { text }? }`
abbrev letter : Grammar
letter = record {
  start = s_leaf 0;
  elements = (named (codes "letter"), content) ∷ (named (codes "title"), s_text) ∷ (named (codes "body"), s_text) ∷ [];
}

abbrev lines : List (List ℕ) → List ℕ
lines all = flat_map (λ l. l ++ 10 ∷ []) all

-- what has a line of its own, in the order in which the names are first written
abbrev items : List PrintedItem
items = element 0 ∷ pattern content ∷ pattern to_and_title ∷ pattern body_or_nothing ∷ pattern to ∷ element 1 ∷ element 2 ∷ []

abbrev Reached : PrintedItem → Type 0
Reached i = IsReached same_item (named_item letter.start) (mentions letter) i

letter_reached : Reached (element 0)
letter_reached = at_start (0, omega arith, refl)

content_reached : Reached (pattern content)
content_reached = in_line letter_reached (0, omega arith, refl)

to_and_title_reached : Reached (pattern to_and_title)
to_and_title_reached = in_line content_reached (0, omega arith, refl)

body_or_nothing_reached : Reached (pattern body_or_nothing)
body_or_nothing_reached = in_line content_reached (1, omega arith, refl)

to_reached : Reached (pattern to)
to_reached = in_line to_and_title_reached (0, omega arith, refl)

title_reached : Reached (element 1)
title_reached = in_line to_and_title_reached (1, omega arith, refl)

body_reached : Reached (element 2)
body_reached = in_line body_or_nothing_reached (0, omega arith, refl)

-- they are the numbering: e0, then p0 to p3, then e1 and e2 (docs/use/LANGUAGE.md, "The simple form, printed")
in_written_order : IsItemsOf letter items
in_written_order = record {
  in_order = refl;
  reached = (letter_reached, (content_reached, (to_and_title_reached, (body_or_nothing_reached, (to_reached, (title_reached, (body_reached, tt)))))));
}

-- the same in another order is no numbering: the name of `p0` is written before the names in its line
abbrev unordered : List PrintedItem
unordered = element 0 ∷ pattern to_and_title ∷ pattern content ∷ pattern body_or_nothing ∷ pattern to ∷ element 1 ∷ element 2 ∷ []

abbrev second : List PrintedItem → PrintedItem
second (i ∷ j ∷ is) = j
second is = element 0

other_order : ¬ (IsItemsOf letter unordered)
other_order n = true≢false (sym (ap (λ is. same_item (second is) (pattern content)) n.in_order))

zero_text : decimal 0 ≡ codes "0"
zero_text = decimal_digit 0 (omega arith)

one_text : decimal 1 ≡ codes "1"
one_text = decimal_digit 1 (omega arith)

two_text : decimal 2 ≡ codes "2"
two_text = decimal_digit 2 (omega arith)

three_text : decimal 3 ≡ codes "3"
three_text = decimal_digit 3 (omega arith)

-- the printed text of the grammar is eight lines
abbrev eight_lines : List ℕ
eight_lines = lines (
    codes "start = e0" ∷
    codes "e0 = element letter { p0 }" ∷
    codes "p0 = p1, p2" ∷
    codes "p1 = p3, e1" ∷
    codes "p2 = empty | e2" ∷
    codes "p3 = attribute to { text }" ∷
    codes "e1 = element title { text }" ∷
    codes "e2 = element body { text }" ∷ [])

letter_is_printed : IsPrinted letter eight_lines
letter_is_printed = record { items = items; numbered = in_written_order; is = the_text } where
  the_text : eight_lines ≡ text_of letter items
  the_text = rw (zero_text, one_text, two_text, three_text) refl
