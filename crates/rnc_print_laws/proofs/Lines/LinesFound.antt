-- A name finds its line.
use Rattle.std.proofs.Common.{◌≡◌, ◌∙◌, refl, sym, ap, subst, ℕ, ◌+◌, ◌<◌, ◌^◌, Bool, true, false, List, [], ◌∷◌, ◌++◌, length, map, Option, Some, None, arith}
use Rattle.std.specs.Str.{bytes_eq}
use Rattle.std.proofs.lemmas.Bool.{false_from_ne_true, or_left}
use Rattle.rng_model.proofs.Texts.{bytes_same, bytes_itself}
use Rattle.rng_model.specs.names.Lists.{Among, here, there}
use Rattle.rng_model.specs.simple.Tree.{Tree, Connector}
use Rattle.rng_model.specs.simple.Grammar.{Grammar}
use Rattle.rng_model.specs.schema.Patterns.{Point, pattern_tree}
use Rattle.rng_model.specs.schema.Schema.{Schema, Component, Definition, main_start, same_component_name, trees_named, combining_connector, nested, body_among}
use Rattle.rng_model.specs.schema.Schema.{body}
use Rattle.rncv_model.specs.printed.Items.{has, place_in, PrintedItem, same_item, IsItemsOf}
use Rattle.rncv_model.specs.printed.PrintedText.{item_name}
use Rattle.rnc_print.proofs.FailedTests.{false_true}
use Rattle.rnc_print.proofs.SameTests.{item_exact, item_itself}
use Rattle.rnc_print.proofs.Numberings.{AreNew, has_left, has_right}
use Rattle.rnc_print_laws.specs.plain.LinesSchema.{reference_pattern, item_pattern, item_line, lines_components, IsSchemaOfLines}
use Rattle.rnc_print_laws.proofs.Lines.ListedLines.{each_once}
use Rattle.rnc_print_laws.proofs.Lines.ItemNames.{names_apart}

-- the number of the line of an item; the line of the start has the number 0
abbrev pub line_number : List PrintedItem → PrintedItem → ℕ
line_number items i = 1 + place_in same_item items i

abbrev pub AreItemsNew : List PrintedItem → List PrintedItem → Type 0
AreItemsNew = AreNew same_item item_exact item_itself

-- what is new after others is none of them
new_among : (w xs : List PrintedItem) (i : PrintedItem) → AreItemsNew w xs → Among i xs → has same_item w i ≡ false
new_among w [] i n a = elim a [ ]
new_among w (x ∷ xs) i n here = n.0
new_among w (x ∷ xs) i n (there a) =
    let later = new_among (w ++ x ∷ []) xs i n.1 a in
    false_from_ne_true (has same_item w i) (λ e. false_true (sym later ∙ has_left same_item item_exact item_itself w (x ∷ []) i e))

pub not_again : (w xs : List PrintedItem) (x : PrintedItem) → AreItemsNew (w ++ x ∷ []) xs → Among x xs → ⊥
not_again w xs x n a =
    let last = has_right same_item item_exact item_itself w (x ∷ []) x (or_left (same_item x x) false (item_itself x)) in
    false_true (sym (new_among (w ++ x ∷ []) xs x n a) ∙ last)

pub in_rest : (i j : PrintedItem) (js : List PrintedItem) → same_item i j ≡ false → Among i (j ∷ js) → Among i js
in_rest i j js e here = absurd (false_true (sym e ∙ item_itself i))
in_rest i j js e (there b) = b

-- the trees of a component with the name, and of one with another name
with_name : (y : Option (List ℕ)) (n : ℕ) (c : Component) (cs : List Component) → same_component_name y c.name ≡ true
    → trees_named y n (c ∷ cs) ≡ pattern_tree (n ∷ []) c.pattern ∷ trees_named y (n + 1) cs
with_name y n c cs e = rw e refl

without_name : (y : Option (List ℕ)) (n : ℕ) (c : Component) (cs : List Component) → same_component_name y c.name ≡ false
    → trees_named y n (c ∷ cs) ≡ trees_named y (n + 1) cs
without_name y n c cs e = rw e refl

one_tree_is : (k : Connector) (ts : List (Tree Point)) (t : Tree Point) → ts ≡ t ∷ [] → nested k ts ≡ Some t
one_tree_is k ts t e = ap (nested k) e

module _ (g : Grammar) (items : List PrintedItem) where
  abbrev rows : List PrintedItem → List Component
  rows js = map (item_line g items) js

  none_named : (y : List ℕ) (n : ℕ) (js : List PrintedItem) → ((j : PrintedItem) → Among j js → item_name items j ≡ y → ⊥) → trees_named (Some y) n (rows js) ≡ []
  none_named y n [] h = refl
  none_named y n (j ∷ js) h =
      without_name (Some y) n (item_line g items j) (rows js)
      (false_from_ne_true (bytes_eq y (item_name items j)) (λ e. h j here (sym (bytes_same y (item_name items j) e))))
      ∙ none_named y (n + 1) js (λ i a. h i (there a))

  no_start : (n : ℕ) (js : List PrintedItem) → trees_named None n (rows js) ≡ []
  no_start n [] = refl
  no_start n (j ∷ js) = no_start (n + 1) js

  module _ (numbered : IsItemsOf g items) (few : length items < 2 ^ 64) where
    abbrev line_tree : ℕ → PrintedItem → Tree Point
    line_tree n i = pattern_tree (n ∷ []) (item_pattern g items i)

    one_named : (i : PrintedItem) (n : ℕ) (w js : List PrintedItem) → AreItemsNew w js → ((j : PrintedItem) → Among j js → Among j items) → Among i js
        → trees_named (Some (item_name items i)) n (rows js) ≡ line_tree (n + place_in same_item js i) i ∷ []
    one_named i n w [] new inside a = elim a [ ]
    one_named i n w (j ∷ js) new inside a =
        by_test (λ b. one_named i (n + 1) (w ++ j ∷ []) js new.1 (λ k c. inside k (there c)) b) (same_item i j) refl
      where
        name_of : item_name items i ≡ item_name items j → i ≡ j
        name_of e = names_apart items few i j (inside i a) (inside j here) e

        by_test : (Among i js → trees_named (Some (item_name items i)) (n + 1) (rows js) ≡ line_tree ((n + 1) + place_in same_item js i) i ∷ [])
            → (b : Bool) → same_item i j ≡ b → trees_named (Some (item_name items i)) n (rows (j ∷ js)) ≡ line_tree (n + place_in same_item (j ∷ js) i) i ∷ []
        by_test rest_named true e =
            let is : i ≡ j = item_exact i j e in
            let name : bytes_eq (item_name items i) (item_name items j) ≡ true =
            subst (λ (k : PrintedItem). bytes_eq (item_name items i) (item_name items k) ≡ true) is (bytes_itself (item_name items i)) in
            let none = none_named (item_name items i) (n + 1) js (λ k b f. not_again w js j new.1
            (subst (λ (x : PrintedItem). Among x js) (names_apart items few k i (inside k (there b)) (inside i a) f ∙ is) b)) in
            let place : n ≡ n + place_in same_item (j ∷ js) i = rw e (omega arith) in
            with_name (Some (item_name items i)) n (item_line g items j) (rows js) name
            ∙ ap (λ (ts : List (Tree Point)). line_tree n j ∷ ts) none
            ∙ ap (λ (k : PrintedItem). line_tree n k ∷ []) (sym is)
            ∙ ap (λ (m : ℕ). line_tree m i ∷ []) place
        by_test rest_named false e =
            let name = false_from_ne_true (bytes_eq (item_name items i) (item_name items j))
            (λ f. false_true (sym e ∙
            subst (λ (k : PrintedItem). same_item i k ≡ true) (name_of (bytes_same (item_name items i) (item_name items j) f)) (item_itself i))) in
            let place : (n + 1) + place_in same_item js i ≡ n + place_in same_item (j ∷ js) i = rw e (omega arith) in
            without_name (Some (item_name items i)) n (item_line g items j) (rows js) name
            ∙ rest_named (in_rest i j js e a)
            ∙ ap (λ (m : ℕ). line_tree m i ∷ []) place

    module _ (r : Schema) (lines : IsSchemaOfLines g items r) where
      -- the definition that the name of an item refers to
      abbrev pub of_item : PrintedItem → Definition
      of_item i = record { place = []; name = Some (item_name items i) }

      pub item_found : (i : PrintedItem) → Among i items → body r (of_item i) ≡ Some (line_tree (line_number items i) i)
      unfolding body
      item_found i a =
          ap (body_among (Some (item_name items i))) lines.components
          ∙ one_tree_is (combining_connector (Some (item_name items i)) (lines_components g items)) _ (line_tree (line_number items i) i)
          (one_named i 1 [] items (each_once g items numbered) (λ j b. b) a)

      abbrev start_tree : Tree Point
      start_tree = pattern_tree (0 ∷ []) (reference_pattern items g.start)

      pub start_found : body r (main_start r) ≡ Some start_tree
      unfolding body
      start_found =
          ap (λ x. body_among None (r.components x)) lines.main
          ∙ ap (body_among None) lines.components
          ∙ one_tree_is (combining_connector None (lines_components g items)) _ start_tree (ap (λ (ts : List (Tree Point)). start_tree ∷ ts) (no_start 1 items))
