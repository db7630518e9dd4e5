-- The words of the text of a simple grammar: literals, name classes, datatypes.
use Rattle.std.specs.Prelude.{ℕ, Bool, true, false, ◌||◌, ◌==◌, if◌then◌else◌, List, [], ◌∷◌, ◌++◌, flat_map, codes, decimal}
use Rattle.std.specs.Str.{bytes_eq}
use Rattle.rng_model.specs.names.Names.{NameClass, any_name, any_except, ns_name, ns_except, name_is, one_of, NameClasses, no_classes, class_and}
use Rattle.rng_model.specs.simple.Tree.{Datatype, Connector, choice, group, interleave}
use Rattle.rncv_model.specs.printed.Items.{place_in}

-- n0, n1, ..
abbrev pub prefix_of : List (List ℕ) → List ℕ → List ℕ
prefix_of namespaces u = codes "n" ++ decimal (place_in bytes_eq namespaces u)

-- ---- literals

-- the delimiter of a character in a literal: an apostrophe for `"`, and a quotation mark for any other character
abbrev pub delimiter : ℕ → ℕ
delimiter c = if c == 0x22 then 0x27 else 0x22

-- runs of characters with the same delimiter, with one more character at the front
abbrev pub with_character : ℕ → List (ℕ × List ℕ) → List (ℕ × List ℕ)
with_character c [] = (delimiter c, c ∷ []) ∷ []
with_character c (run ∷ runs) = if delimiter c == run.0 then (run.0, c ∷ run.1) ∷ runs else (delimiter c, c ∷ []) ∷ run ∷ runs

-- the longest runs of `"` and of other characters, each with its delimiter
abbrev pub runs_of : List ℕ → List (ℕ × List ℕ)
runs_of [] = []
runs_of (c ∷ cs) = with_character c (runs_of cs)

-- a backslash, a tab, an LF and a CR are written as `\x{5C}`, `\x{9}`, `\x{A}` and `\x{D}`
abbrev pub escaped : ℕ → List ℕ
escaped c =
    if c == 0x5C then 0x5C ∷ codes "x{5C}" else (
    if c == 0x9 then 0x5C ∷ codes "x{9}" else (
    if c == 0xA then 0x5C ∷ codes "x{A}" else (
    if c == 0xD then 0x5C ∷ codes "x{D}" else c ∷ [])))

abbrev pub run_text : ℕ × List ℕ → List ℕ
run_text run = run.0 ∷ (flat_map escaped run.1 ++ run.0 ∷ [])

-- runs after the first
abbrev pub more_runs : List (ℕ × List ℕ) → List ℕ
more_runs runs = flat_map (λ run. codes " ~ " ++ run_text run) runs

-- without runs, the literal of the empty text
abbrev pub joined_runs : List (ℕ × List ℕ) → List ℕ
joined_runs [] = run_text (0x22, [])
joined_runs (run ∷ runs) = run_text run ++ more_runs runs

abbrev pub literal : List ℕ → List ℕ
literal w = joined_runs (runs_of w)

-- ---- name classes

abbrev pub is_choice : NameClass → Bool
is_choice (one_of c d cs) = true
is_choice _ = false

abbrev pub is_except : NameClass → Bool
is_except (any_except c) = true
is_except (ns_except u c) = true
is_except _ = false

abbrev pub in_parentheses_if : Bool → List ℕ → List ℕ
in_parentheses_if true w = codes "(" ++ (w ++ codes ")")
in_parentheses_if false w = w

abbrev pub name_text : List (List ℕ) → List ℕ → List ℕ → List ℕ
name_text namespaces [] local = local
name_text namespaces (c ∷ u) local = prefix_of namespaces (c ∷ u) ++ (codes ":" ++ local)

abbrev mutual
  pub class_text : List (List ℕ) → NameClass → List ℕ
  class_text ns any_name = codes "*"
  class_text ns (any_except c) = codes "* - " ++ in_parentheses_if (is_choice c || is_except c) (class_text ns c)
  class_text ns (ns_name u) = prefix_of ns u ++ codes ":*"
  class_text ns (ns_except u c) = prefix_of ns u ++ (codes ":* - " ++ in_parentheses_if (is_choice c || is_except c) (class_text ns c))
  class_text ns (name_is n) = name_text ns n.ns n.local
  class_text ns (one_of c d cs) =
      in_parentheses_if (is_except c) (class_text ns c)
      ++ (codes " | " ++ (in_parentheses_if (is_choice d || is_except d) (class_text ns d) ++ classes_text ns cs))

  -- the members after the second; a choice of more than two members is nested in twos from the left
  pub classes_text : List (List ℕ) → NameClasses → List ℕ
  classes_text ns no_classes = []
  classes_text ns (class_and c cs) = codes " | " ++ (in_parentheses_if (is_choice c || is_except c) (class_text ns c) ++ classes_text ns cs)

-- ---- datatypes and connectors

abbrev pub type_text : Datatype → List ℕ
type_text d = (if bytes_eq d.library [] then [] else codes "xsd:") ++ d.name

abbrev pub parameter_text : List ℕ × List ℕ → List ℕ
parameter_text p = p.0 ++ (codes " = " ++ (literal p.1 ++ codes " "))

abbrev pub parameters_text : List (List ℕ × List ℕ) → List ℕ
parameters_text [] = []
parameters_text (p ∷ ps) = codes " { " ++ (flat_map parameter_text (p ∷ ps) ++ codes "}")

-- a datatype with its parameters
abbrev pub datatype_text : Datatype → List ℕ
datatype_text d = type_text d ++ parameters_text d.parameters

abbrev pub connector_text : Connector → List ℕ
connector_text choice = codes " | "
connector_text group = codes ", "
connector_text interleave = codes " & "
