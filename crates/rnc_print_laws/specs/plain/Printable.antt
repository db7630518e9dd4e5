-- The simple grammars whose printed texts are read back. Their names are NCNames, and their texts are made of Chars.
-- Their name classes are printed with parentheses that nest within the limit, and a schema can name their datatypes
-- (RELAX NG Compact Syntax, "Lexical structure" and "Syntax").
use Rattle.std.specs.Prelude.{◌≡◌, ◌⊎◌, ℕ, suc, ◌≤◌, max, Bool, true, ◌||◌, if◌then◌else◌, List, [], codes, IsUtf8, chars}
use Rattle.std.specs.List.{list_all, AllByRecursion}
use Rattle.rng_model.specs.names.Names.{is_xml_char, is_ncname, NameClass, any_name, any_except, ns_name, ns_except, name_is, one_of, NameClasses, no_classes}
use Rattle.rng_model.specs.names.Names.{class_and}
use Rattle.rng_model.specs.simple.Tree.{Datatype, Simple, s_not_allowed, s_empty, s_text, s_leaf, s_attribute, s_list, s_data, s_data_except, s_value}
use Rattle.rng_model.specs.simple.Tree.{s_one_or_more}
use Rattle.rng_model.specs.simple.Tree.{s_joined}
use Rattle.rng_model.specs.simple.Grammar.{Grammar}
use Rattle.rng_model.specs.datatypes.Datatypes.{xsd_uri}
use Rattle.rnc_model.specs.grammar.Sentence.{nesting_limit}
use Rattle.rncv_model.specs.printed.Words.{is_choice, is_except}

-- UTF-8 of Chars (XML 1.0 Fifth Edition, section 2.2)
abbrev pub IsText : List ℕ → Type 0
IsText w = IsUtf8 w × (list_all is_xml_char (chars w) ≡ true)

-- an NCName (Namespaces in XML 1.0, section 3)
abbrev pub IsName : List ℕ → Type 0
IsName w = IsUtf8 w × (is_ncname (chars w) ≡ true)

-- a name class of such names and namespaces
abbrev mutual
  pub HasNames : NameClass → Type 0
  HasNames any_name = Unit {0}
  HasNames (any_except c) = HasNames c
  HasNames (ns_name u) = IsText u
  HasNames (ns_except u c) = IsText u × HasNames c
  HasNames (name_is n) = IsText n.ns × IsName n.local
  HasNames (one_of c d cs) = HasNames c × HasNames d × HaveNames cs

  pub HaveNames : NameClasses → Type 0
  HaveNames no_classes = Unit {0}
  HaveNames (class_and c cs) = HasNames c × HaveNames cs

abbrev pub one_more_if : Bool → ℕ → ℕ
one_more_if b n = if b then suc n else n

-- how deep the parentheses of a printed name class nest
abbrev mutual
  pub parentheses : NameClass → ℕ
  parentheses any_name = 0
  parentheses (any_except c) = one_more_if (is_choice c || is_except c) (parentheses c)
  parentheses (ns_name u) = 0
  parentheses (ns_except u c) = one_more_if (is_choice c || is_except c) (parentheses c)
  parentheses (name_is n) = 0
  parentheses (one_of c d cs) =
      max (one_more_if (is_except c) (parentheses c)) (max (one_more_if (is_choice d || is_except d) (parentheses d)) (parentheses_among cs))

  pub parentheses_among : NameClasses → ℕ
  parentheses_among no_classes = 0
  parentheses_among (class_and c cs) = max (one_more_if (is_choice c || is_except c) (parentheses c)) (parentheses_among cs)

-- a name class that is read back
abbrev pub IsPrintableClass : NameClass → Type 0
IsPrintableClass c = HasNames c × (parentheses c ≤ nesting_limit)

-- It has a name in the compact syntax: `string` and `token` are in the library with the empty URI, and those with the
-- prefix `xsd` in that of XML Schema (RELAX NG Compact Syntax, "Declarations").
abbrev pub CanBeNamed : List ℕ → List ℕ → Type 0
CanBeNamed library name = ((library ≡ []) × ((name ≡ codes "string") ⊎ (name ≡ codes "token"))) ⊎ ((library ≡ xsd_uri) × IsName name)

-- printable parameters, datatypes, trees and grammars
abbrev pub IsPrintableParameter : List ℕ × List ℕ → Type 0
IsPrintableParameter p = IsName p.0 × IsText p.1

abbrev pub IsPrintableType : Datatype → Type 0
IsPrintableType d = CanBeNamed d.library d.name × AllByRecursion IsPrintableParameter d.parameters

abbrev pub IsPrintableTree : Simple ℕ → Type 0
IsPrintableTree s_not_allowed = Unit {0}
IsPrintableTree s_empty = Unit {0}
IsPrintableTree s_text = Unit {0}
IsPrintableTree (s_leaf k) = Unit {0}
IsPrintableTree (s_attribute c a) = IsPrintableClass c × IsPrintableTree a
IsPrintableTree (s_list a) = IsPrintableTree a
IsPrintableTree (s_data d) = IsPrintableType d
IsPrintableTree (s_data_except d a) = IsPrintableType d × IsPrintableTree a
IsPrintableTree (s_value d v) = IsPrintableType d × IsText v
IsPrintableTree (s_one_or_more a) = IsPrintableTree a
IsPrintableTree (s_joined k a b) = IsPrintableTree a × IsPrintableTree b

pub record IsPrintable (g : Grammar) : Type 0 where
  pub start : IsPrintableTree g.start
  pub elements : AllByRecursion (λ e. IsPrintableClass e.0 × IsPrintableTree e.1) g.elements
