-- Worked texts.
use Rattle.std.proofs.Common.{◌≡◌, ℕ, List, [], ◌∷◌, ◌++◌, refl, flat_map, codes}
use Rattle.std.specs.Prelude.{decimal}
use Rattle.std.proofs.Common.{arith}
use Rattle.std.proofs.lemmas.Fmt.{decimal_digit}
use Rattle.rng_model.specs.names.Names.{NameClass, any_except, ns_except, name_is, one_of, no_classes}
use Rattle.rng_model.specs.simple.Tree.{Datatype, choice, group, Simple, s_not_allowed, s_empty, s_text, s_leaf, s_attribute, s_data, s_data_except, s_value}
use Rattle.rng_model.specs.simple.Tree.{s_one_or_more, s_joined}
use Rattle.rng_model.specs.simple.Grammar.{Grammar}
use Rattle.rncv_model.specs.printed.NumberingSteps.{numbered, numbered_from}
use Rattle.rncv_model.specs.printed.Items.{PrintedItem, element, same_item, named_item, mentions}
use Rattle.rncv_model.specs.printed.PrintedText.{text_of}
use Rattle.rncv_model.specs.printed.Words.{literal, class_text}

-- the items as the steps give them
abbrev items_by : ℕ → Grammar → List PrintedItem
items_by steps g = numbered same_item steps (named_item g.start) (mentions g)

-- `decimal` does not compute
zero_text : decimal 0 ≡ codes "0"
zero_text = decimal_digit 0 (omega arith)

one_text : decimal 1 ≡ codes "1"
one_text = decimal_digit 1 (omega arith)

two_text : decimal 2 ≡ codes "2"
two_text = decimal_digit 2 (omega arith)

three_text : decimal 3 ≡ codes "3"
three_text = decimal_digit 3 (omega arith)

four_text : decimal 4 ≡ codes "4"
four_text = decimal_digit 4 (omega arith)

-- lines, each with its LF
abbrev lines : List (List ℕ) → List ℕ
lines ws = flat_map (λ w. w ++ 0xA ∷ []) ws

abbrev local_name : List ℕ → NameClass
local_name w = name_is (record { ns = []; local = w })

abbrev plain_type : List ℕ → Datatype
plain_type w = record { library = []; name = w; parameters = [] }

-- element a { attribute x { text }?, element b { empty }* }
abbrev row_1 : Grammar
row_1 = record {
  start = s_leaf 0;
  elements = (
    local_name (codes "a"),
    s_joined group (s_joined choice s_empty (s_attribute (local_name (codes "x")) s_text)) (s_joined choice s_empty (s_one_or_more (s_leaf 1))),
  ) ∷
      (local_name (codes "b"), s_empty) ∷ [];
}

row_1_text : text_of row_1 (items_by 10 row_1) ≡ lines (
    codes "start = e0" ∷ codes "e0 = element a { p0 }" ∷ codes "p0 = p1, p2" ∷ codes "p1 = empty | p3" ∷ codes "p2 = empty | p4" ∷
    codes "p3 = attribute x { text }" ∷ codes "p4 = e1+" ∷ codes "e1 = element b { empty }" ∷ [])
unfolding numbered numbered_from
row_1_text = rw (zero_text, one_text, two_text, three_text, four_text) refl

-- default namespace = "u"  element a { string - "x" }
abbrev row_2 : Grammar
row_2 = record {
  start = s_leaf 0;
  elements = (
    name_is (record { ns = codes "u"; local = codes "a" }),
    s_data_except (plain_type (codes "string")) (s_value (plain_type (codes "token")) (codes "x")),
  ) ∷ [];
}

row_2_text : text_of row_2 (items_by 10 row_2)
    ≡ lines (codes "namespace n0 = \"u\"" ∷ codes "start = e0" ∷ codes "e0 = element n0:a { p0 }" ∷ codes "p0 = string - token \"x\"" ∷ [])
unfolding numbered numbered_from
row_2_text = rw zero_text refl

-- notAllowed
row_3_text : text_of (record { start = s_not_allowed; elements = [] }) [] ≡ lines (codes "start = notAllowed" ∷ [])
row_3_text = refl

abbrev of_body : Simple ℕ → Grammar
of_body s = record { start = s_leaf 0; elements = (local_name (codes "a"), s) ∷ [] }

-- element a { string "\x{5C}x{41}" }: a backslash is written as an escape
row_4_text : text_of (of_body (s_value (plain_type (codes "string")) (0x5C ∷ codes "x{41}"))) (element 0 ∷ []) ≡
    lines (codes "start = e0" ∷ (codes "e0 = element a { string \"" ++ (0x5C ∷ codes "x{5C}x{41}\" }")) ∷ [])
row_4_text = rw zero_text refl

-- element a { 'say "hi"' }
row_5_text : text_of (of_body (s_value (plain_type (codes "token")) (codes "say \"hi\""))) (element 0 ∷ []) ≡
    lines (codes "start = e0" ∷ codes "e0 = element a { token \"say \" ~ '\"' ~ \"hi\" ~ '\"' }" ∷ [])
row_5_text = rw zero_text refl

-- element a { xsd:integer { minInclusive = "-3" } }
row_6_text : text_of (of_body (s_data (record {
  library = codes "http://www.w3.org/2001/XMLSchema-datatypes";
  name = codes "integer";
  parameters = (codes "minInclusive", codes "-3") ∷ [];
}))) (element 0 ∷ []) ≡
    lines (codes "start = e0" ∷ codes "e0 = element a { xsd:integer { minInclusive = \"-3\" } }" ∷ [])
row_6_text = rw zero_text refl

-- a shared pattern has one line: x0 = x1, x1 and x1 = text, text
abbrev shared : Simple ℕ
shared = s_joined group s_text s_text

row_7_text : text_of (of_body (s_joined group shared shared)) (items_by 10 (of_body (s_joined group shared shared))) ≡
    lines (codes "start = e0" ∷ codes "e0 = element a { p0 }" ∷ codes "p0 = p1, p1" ∷ codes "p1 = text, text" ∷ [])
unfolding numbered numbered_from
row_7_text = rw (zero_text, one_text) refl

-- the empty text; a tab, an LF and a CR; quotation marks alone
literal_1 : literal [] ≡ codes "\"\""
literal_1 = refl

literal_2 : literal (0x9 ∷ 0xA ∷ 0xD ∷ []) ≡ codes "\"" ++ (0x5C ∷ codes "x{9}") ++ (0x5C ∷ codes "x{A}") ++ (0x5C ∷ codes "x{D}\"")
literal_2 = refl

literal_3 : literal (codes "\"\"") ≡ codes "'\"\"'"
literal_3 = refl

-- (a | b) | c, a | (b | c), (p:* - a) | * - (b | c) where p represents no namespace
class_1 : class_text [] (one_of (one_of (local_name (codes "a")) (local_name (codes "b")) no_classes) (local_name (codes "c")) no_classes) ≡ codes "a | b | c"
class_1 = refl

class_2 : class_text [] (one_of (local_name (codes "a")) (one_of (local_name (codes "b")) (local_name (codes "c")) no_classes) no_classes) ≡ codes "a | (b | c)"
class_2 = refl

class_3 : class_text ([] ∷ [])
    (one_of (ns_except [] (local_name (codes "a"))) (any_except (one_of (local_name (codes "b")) (local_name (codes "c")) no_classes)) no_classes)
    ≡ codes "(n0:* - a) | (* - (b | c))"
class_3 = rw zero_text refl

-- names that are keywords are written as they are
keyword_text : text_of (record {
  start = s_leaf 0;
  elements = (one_of (local_name (codes "element")) (name_is (record { ns = codes "u"; local = codes "start" })) no_classes, s_empty) ∷ [];
})
    (element 0 ∷ []) ≡
    lines (codes "namespace n0 = \"u\"" ∷ codes "start = e0" ∷ codes "e0 = element element | n0:start { empty }" ∷ [])
keyword_text = rw zero_text refl

-- the parameters of a value are not written, so two grammars that differ only in them have one text
typed_value : List (List ℕ × List ℕ) → Grammar
typed_value ps = of_body (s_value (record { library = []; name = codes "string"; parameters = ps }) (codes "x"))

value_parameters : text_of (typed_value ((codes "minLength", codes "1") ∷ [])) (element 0 ∷ []) ≡ text_of (typed_value []) (element 0 ∷ [])
unfolding typed_value
value_parameters = refl
