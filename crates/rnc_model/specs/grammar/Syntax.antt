-- The syntax tree of a schema file (RELAX NG Compact Syntax, "Syntax"): as it is written, with prefixes for namespaces, or
-- with its declarations applied, with the namespaces themselves.
use Rattle.std.specs.Prelude.{ℕ, List, [], ◌∷◌, Option}
use Rattle.rng_model.specs.simple.Tree.{Connector}
use Rattle.rng_model.specs.declared.method.Method.{Method}

-- whether a tree is as it is written, or has its declarations applied
pub data Stage : Type 0 where
  written : Stage
  applied : Stage

-- the namespace that the file inherits, or a given one
pub data Namespace : Type 0 where
  inherited : Namespace
  given : List ℕ → Namespace

-- what represents a namespace: a prefix, or the namespace
abbrev pub NamespaceAt : Stage → Type 0
NamespaceAt written = List ℕ
NamespaceAt applied = Namespace

-- a name as it is written
pub data WrittenName : Type 0 where
  unprefixed : List ℕ → WrittenName
  prefixed : List ℕ → List ℕ → WrittenName

-- a name with its namespace (Namespaces in XML 1.0, section 2.1)
pub record AppliedName : Type 0 where
  pub namespace : Namespace
  pub local : List ℕ

abbrev pub NameAt : Stage → Type 0
NameAt written = WrittenName
NameAt applied = AppliedName

-- a name class
mutual
  pub data NameClassAt (w : Stage) : Type 0 where
    any_name : NameClassAt w
    any_except : NameClassAt w → NameClassAt w
    ns_name : NamespaceAt w → NameClassAt w
    ns_except : NamespaceAt w → NameClassAt w → NameClassAt w
    name_is : NameAt w → NameClassAt w
    one_of : NameClassesAt w → NameClassAt w

  pub data NameClassesAt (w : Stage) : Type 0 where
    no_classes : NameClassesAt w
    class_and : NameClassAt w → NameClassesAt w → NameClassesAt w

abbrev pub classes_of : {w : Stage} → List (NameClassAt w) → NameClassesAt w
classes_of [] = no_classes
classes_of (c ∷ cs) = class_and c (classes_of cs)

-- a choice of these name classes
abbrev pub choice_of : {w : Stage} → List (NameClassAt w) → NameClassAt w
choice_of cs = one_of (classes_of cs)

-- the name of a datatype as it is written
pub data WrittenType : Type 0 where
  string_type : WrittenType
  token_type : WrittenType
  prefixed_type : List ℕ → List ℕ → WrittenType

-- the URI of a datatype's library, and the datatype's name there
pub record AppliedType : Type 0 where
  pub library : List ℕ
  pub name : List ℕ

abbrev pub DatatypeName : Stage → Type 0
DatatypeName written = WrittenType
DatatypeName applied = AppliedType

-- what a file inherits that another one mentions: the namespace of a prefix, where one is written, or the namespace
abbrev pub Inherited : Stage → Type 0
Inherited written = Option (List ℕ)
Inherited applied = Namespace

-- another file: its name as it is written, the namespace that it inherits, and the number of the word that mentions it
pub record Mention (w : Stage) : Type 0 where
  pub href : List ℕ
  pub inherit : Inherited w
  pub token : ℕ

-- patterns, and the components of grammars
mutual
  pub data PatternAt (w : Stage) : Type 0 where
    element : NameClassAt w → PatternAt w → PatternAt w
    attribute : NameClassAt w → PatternAt w → PatternAt w
    list : PatternAt w → PatternAt w
    mixed : PatternAt w → PatternAt w
    optional : PatternAt w → PatternAt w
    zero_or_more : PatternAt w → PatternAt w
    one_or_more : PatternAt w → PatternAt w
    ref : List ℕ → PatternAt w
    parent_ref : List ℕ → PatternAt w
    empty : PatternAt w
    text : PatternAt w
    not_allowed : PatternAt w
    value : DatatypeName w → List ℕ → PatternAt w
    data_of : DatatypeName w → List (List ℕ × List ℕ) → PatternAt w
    data_except : DatatypeName w → List (List ℕ × List ℕ) → PatternAt w → PatternAt w
    external : Mention w → PatternAt w
    grammar : ComponentsAt w → PatternAt w
    joined : Connector → PatternsAt w → PatternAt w

  pub data PatternsAt (w : Stage) : Type 0 where
    no_patterns : PatternsAt w
    pattern_and : PatternAt w → PatternsAt w → PatternsAt w

  pub data ComponentAt (w : Stage) : Type 0 where
    start : Method → PatternAt w → ComponentAt w
    define : List ℕ → Method → PatternAt w → ComponentAt w
    div : ComponentsAt w → ComponentAt w
    include : Mention w → ComponentsAt w → ComponentAt w

  pub data ComponentsAt (w : Stage) : Type 0 where
    no_components : ComponentsAt w
    component_and : ComponentAt w → ComponentsAt w → ComponentsAt w

abbrev pub patterns_of : {w : Stage} → List (PatternAt w) → PatternsAt w
patterns_of [] = no_patterns
patterns_of (p ∷ ps) = pattern_and p (patterns_of ps)

abbrev pub components_of : {w : Stage} → List (ComponentAt w) → ComponentsAt w
components_of [] = no_components
components_of (c ∷ cs) = component_and c (components_of cs)

-- these members, joined by a connector
abbrev pub members : {w : Stage} → Connector → List (PatternAt w) → PatternAt w
members k ps = joined k (patterns_of ps)

-- the URI of a declaration: the inherited one, or a text
pub data Uri : Type 0 where
  inherit : Uri
  literal : List ℕ → Uri

-- a declaration of a namespace prefix, of the default namespace with a prefix or without, or of a datatype prefix
pub data Declaration : Type 0 where
  namespace : List ℕ → Uri → Declaration
  default_namespace : Option (List ℕ) → Uri → Declaration
  datatypes : List ℕ → List ℕ → Declaration

-- what follows the declarations
pub data Body : Type 0 where
  pattern_body : PatternAt written → Body
  grammar_body : ComponentsAt written → Body

pub record File : Type 0 where
  pub declarations : List Declaration
  pub body : Body
