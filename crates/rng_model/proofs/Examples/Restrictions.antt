-- Small grammars in the simple syntax that each break one restriction.
use Rattle.std.proofs.Common.{ℕ, List, [], ◌∷◌, codes, refl}
use Rattle.std.proofs.lemmas.Str.{IsUtf8-from_is_utf8}
use Rattle.std.specs.Str.{chars, is_utf8}
use Rattle.rng_model.specs.names.Lists.{here}
use Rattle.rng_model.specs.names.Names.{Name, NameClass, any_name, name_is, Overlap}
use Rattle.rng_model.specs.simple.Tree as tree
use Rattle.rng_model.specs.simple.Tree.{Datatype, Simple, s_empty, s_text, s_leaf, s_attribute, s_list, s_data_except, s_value, s_one_or_more, s_joined}
use Rattle.rng_model.specs.simple.Grammar.{Grammar, itself, of_list, of_attribute, of_except, of_one_or_more, of_left}
use Rattle.rng_model.specs.restrictions.Contents.{attribute_attribute, repeated_group_attribute, list_text, data_empty, start_text, HasContent, of_both}
use Rattle.rng_model.specs.restrictions.Contents.{of_text, of_value, ContentType, grouped}
use Rattle.rng_model.specs.restrictions.Restrictions.{any, BreaksRestriction}
use Rattle.rng_model.specs.restrictions.Restrictions as restrictions

abbrev plain : List ℕ → Name
plain local = record { ns = []; local = local }

abbrev named : List ℕ → NameClass
named local = name_is (plain local)

-- one element with this body, which is also the start
abbrev one_element : Simple ℕ → Grammar
one_element body = record { start = s_leaf 0; elements = (named (codes "a"), body) ∷ [] }

abbrev token_type : Datatype
token_type = record { library = []; name = codes "token"; parameters = [] }

abbrev attribute_x : Simple ℕ
attribute_x = s_attribute (named (codes "x")) s_text

x_twice : Overlap (named (codes "x")) (named (codes "x"))
unfolding chars is_utf8 lib.Utf8.encode
x_twice = (plain (codes "x"), (IsUtf8-from_is_utf8 [] refl, IsUtf8-from_is_utf8 (codes "x") refl), refl, refl)

-- `element a { attribute x { attribute x { text } } }`
s18 : BreaksRestriction (one_element (s_attribute (named (codes "x")) attribute_x)) 18
s18 = restrictions.in_path (restrictions.a_body here) (_, attribute_attribute, (_, itself, refl, (attribute_x, (_, of_attribute, itself), refl, tt)))

-- `element a { (attribute x { text }, text)+ }`
s19 : BreaksRestriction (one_element (s_one_or_more (s_joined tree.group attribute_x s_text))) 19
s19 = restrictions.in_path (restrictions.a_body here) (
  _,
  repeated_group_attribute,
  (_, itself, refl, (s_joined tree.group attribute_x s_text, (_, of_one_or_more, itself), refl, (attribute_x, (_, of_left, itself), refl, tt))),
)

-- `element a { list { text } }`
s20 : BreaksRestriction (one_element (s_list s_text)) 20
s20 = restrictions.in_path (restrictions.a_body here) (_, list_text, (_, itself, refl, (s_text, (_, of_list, itself), refl, tt)))

-- `element a { token - empty }`
s21 : BreaksRestriction (one_element (s_data_except token_type s_empty)) 21
s21 = restrictions.in_path (restrictions.a_body here) (_, data_empty, (_, itself, refl, (s_empty, (_, of_except, itself), refl, tt)))

-- `text`
s22 : BreaksRestriction (record { start = s_text; elements = [] }) 22
s22 = restrictions.in_start (_, start_text, (s_text, itself, refl, tt))

-- `element a { text, "x" }`
abbrev text_and_value : Simple ℕ
text_and_value = s_joined tree.group s_text (s_value token_type (codes "x"))

text_and_value_have_no_type : (t : ContentType) → HasContent text_and_value t → ⊥
text_and_value_have_no_type t (of_both ordered of_text of_value groupable) = elim groupable [ ]

s23 : BreaksRestriction (one_element text_and_value) 23
s23 = restrictions.in_content here (record { not_whole = λ e. cc; no_type = text_and_value_have_no_type })

-- `element a { attribute x { text }, attribute x { text } }`
s24 : BreaksRestriction (one_element (s_joined tree.group attribute_x attribute_x)) 24
s24 = restrictions.in_attribute_names (restrictions.a_body here) (record {
  connector = tree.group;
  left = attribute_x;
  right = attribute_x;
  stands = itself;
  is_no_choice = grouped;
  first_class = named (codes "x");
  first_body = s_text;
  second_class = named (codes "x");
  second_body = s_text;
  occurs_left = itself;
  occurs_right = itself;
  overlap = x_twice;
})

-- `element a { attribute * { text } }`
s25 : BreaksRestriction (one_element (s_attribute any_name s_text)) 25
s25 = restrictions.in_wildcard (restrictions.a_body here) (record { class = any_name; body = s_text; stands = itself; wildcard = any })

-- `element a { text & text }`
s27 : BreaksRestriction (one_element (s_joined tree.interleave s_text s_text)) 27
s27 = restrictions.in_text (restrictions.a_body here) (record {
  left = s_text;
  right = s_text;
  stands = itself;
  occurs_left = itself;
  occurs_right = itself;
})

-- `element x { element x { .. } & element x { .. } }`: the element inside itself
s26 : BreaksRestriction (record { start = s_leaf 0; elements = (named (codes "x"), s_joined tree.interleave (s_leaf 0) (s_leaf 0)) ∷ [] }) 26
s26 = restrictions.in_element_names (restrictions.a_body here) (record {
  left = s_leaf 0;
  right = s_leaf 0;
  stands = itself;
  first = 0;
  second = 0;
  occurs_left = itself;
  occurs_right = itself;
  first_class = named (codes "x");
  second_class = named (codes "x");
  is_first = (s_joined tree.interleave (s_leaf 0) (s_leaf 0), refl);
  is_second = (s_joined tree.interleave (s_leaf 0) (s_leaf 0), refl);
  overlap = x_twice;
})
