-- Small documents, computed by the matcher. For each one, a wrong derivative gives another result.
use Rattle.std.proofs.Common.{◌≡◌, ℕ, ◌+◌, List, [], ◌∷◌, refl, Bool, true, false}
use Rattle.std.specs.Str.{bytes_eq}
use Rattle.rng_model.specs.names.Names.{Name, NameClass, any_name, name_is}
use Rattle.rng_model.specs.simple.Tree.{Simple, Datatype, choice, group, interleave, s_not_allowed, s_empty, s_text, s_leaf, s_attribute}
use Rattle.rng_model.specs.simple.Tree.{s_data_except, s_value, s_one_or_more, s_joined}
use Rattle.rng_model.specs.matching.Document.{Attribute, Item, a_text, an_element, Items, no_items, item_and}
use Rattle.rng_model.specs.documents.PyxTrees.{a_start}
use Rattle.rng_model.specs.datatypes.Texts.{TextTests}
use Rattle.rng_model.specs.matching.GrammarMatching.{Reading}
use Rattle.rng_deriv_laws.specs.plain.States.{is_never}
use Rattle.rng_deriv_laws.specs.plain.Events.{events_of_items, new, run, is_valid}

abbrev name : ℕ → Name
name k = record { ns = []; local = k ∷ [] }

-- one datatype that allows every text; texts are equal by their bytes
abbrev string_type : Datatype
string_type = record { library = []; name = []; parameters = [] }

-- elements with the names 0, 1, .. and these bodies; the start is the first
abbrev elements_from : ℕ → List (Simple ℕ) → List (NameClass × Simple ℕ)
elements_from k [] = []
elements_from k (p ∷ ps) = (name_is (name k), p) ∷ elements_from (k + 1) ps

abbrev by_bytes : TextTests
by_bytes = record { allows = λ d s. true; equals = λ d v s. bytes_eq v s; pieces = λ s. s ∷ [] }

abbrev with_bodies : List (Simple ℕ) → Reading
with_bodies ps = record { grammar = record { start = s_leaf 0; elements = elements_from 0 ps }; tests = by_bytes }

abbrev leaf : ℕ → Item
leaf k = an_element (name k) [] no_items

abbrev items : List Item → Items
items [] = no_items
items (n ∷ ns) = item_and n (items ns)

-- the root, with attributes of these names and these children, is valid
abbrev is_root_valid : Reading → List ℕ → List Item → Bool
is_root_valid g xs ns = is_valid g (events_of_items (item_and (an_element (name 0) (attributes xs) (items ns)) no_items)) where
  attributes : List ℕ → List Attribute
  attributes [] = []
  attributes (x ∷ xs) = record { name = name x; content = [] } ∷ attributes xs

abbrev between_members : Reading
between_members = with_bodies (s_joined interleave (s_joined group (s_leaf 1) (s_leaf 2)) (s_leaf 3) ∷ s_empty ∷ s_empty ∷ s_empty ∷ [])

-- `(b, c) & d`: an interleave is more than a choice of the two orders of its sides
member_between : is_root_valid between_members [] (leaf 1 ∷ leaf 3 ∷ leaf 2 ∷ []) ≡ true
member_between = refl

order_of_the_group : is_root_valid between_members [] (leaf 2 ∷ leaf 3 ∷ leaf 1 ∷ []) ≡ false
order_of_the_group = refl

-- .. and the document is invalid at the start of c
invalid_at_c : is_never (run between_members (new (s_leaf 0)) (a_start (name 0) [] ∷ a_start (name 2) [] ∷ [])).state ≡ true
invalid_at_c = refl

-- each copy of a repetition takes one attribute, in any order
copies : is_root_valid (with_bodies (s_one_or_more (s_attribute any_name s_text) ∷ [])) (1 ∷ 2 ∷ []) [] ≡ true
copies = refl

abbrev two_attributes : Reading
two_attributes = with_bodies (s_joined group (s_attribute (name_is (name 1)) s_text) (s_attribute (name_is (name 2)) s_text) ∷ [])

two_orders : is_root_valid two_attributes (2 ∷ 1 ∷ []) [] ≡ true
two_orders = refl

-- a required attribute is missing at the end of the tag
attribute_missing : is_never (run (with_bodies (s_attribute any_name s_text ∷ [])) (new (s_leaf 0)) (a_start (name 0) [] ∷ [])).state ≡ true
attribute_missing = refl

-- after a side that is not nullable, nothing of the second side is taken
past_a_side : is_root_valid (with_bodies (s_joined group (s_leaf 1) (s_leaf 2) ∷ s_empty ∷ s_empty ∷ [])) [] (leaf 2 ∷ []) ≡ false
past_a_side = refl

-- a blank string beside an element is not content; a blank string that is the only child is data
beside_an_element : is_root_valid (with_bodies (s_leaf 1 ∷ s_empty ∷ [])) [] (a_text (32 ∷ []) ∷ leaf 1 ∷ a_text (32 ∷ []) ∷ []) ≡ true
beside_an_element = refl

only_child : is_root_valid (with_bodies (s_value string_type (32 ∷ []) ∷ [])) [] (a_text (32 ∷ []) ∷ []) ≡ true
only_child = refl

-- .. and empty content matches it as well
only_child_of_empty : is_root_valid (with_bodies (s_empty ∷ [])) [] (a_text (32 ∷ []) ∷ []) ≡ true
only_child_of_empty = refl

-- no string counts as the empty string
no_string : is_root_valid (with_bodies (s_value string_type [] ∷ [])) [] [] ≡ true
no_string = refl

-- the text matches no alternative of the except
abbrev with_an_except : Reading
with_an_except = with_bodies (s_data_except string_type (s_joined choice (s_value string_type (1 ∷ [])) (s_value string_type (2 ∷ []))) ∷ [])

second_of_an_except : is_root_valid with_an_except [] (a_text (2 ∷ []) ∷ []) ≡ false
second_of_an_except = refl

not_in_the_except : is_root_valid with_an_except [] (a_text (3 ∷ []) ∷ []) ≡ true
not_in_the_except = refl

-- with a start that is notAllowed, the state is `never` before the first event
nothing_starts : is_never (new s_not_allowed).state ≡ true
nothing_starts = refl

-- `text` continues through strings and elements
abbrev with_mixed : Reading
with_mixed = with_bodies (s_joined interleave s_text (s_leaf 1) ∷ s_empty ∷ [])

mixed : is_root_valid with_mixed [] (a_text (1 ∷ []) ∷ leaf 1 ∷ a_text (1 ∷ []) ∷ []) ≡ true
mixed = refl
