-- Declarations applied to a syntax tree: the result is the file tree, or nothing if a rule about declarations is broken
-- (RELAX NG Compact Syntax, "Declarations").
use Rattle.std.specs.Prelude.{ℕ, List, [], ◌∷◌, Option, Some, None, Bool, true, false, is_none, if◌then◌else◌, codes}
use Rattle.std.specs.Str.{bytes_eq}
use Rattle.rng_model.specs.datatypes.Datatypes.{xsd_uri}
use Rattle.rng_model.specs.names.Names.{xml_uri}
use Rattle.rnc_model.specs.grammar.Syntax as syntax
use Rattle.rnc_model.specs.grammar.Syntax.{applied, written, Namespace, inherited, given}
use Rattle.rnc_model.specs.declarations.FileTree as tree
use Rattle.rnc_model.specs.declarations.FileTree.{FileTree}

infixl 10 ◌>>=◌
-- one part, and then the next part with its value
abbrev pub ◌>>=◌ : {A B : Type 0} → Option A → (A → Option B) → Option B
None >>= f = None
(Some x) >>= f = f x

-- the value, or this one if there is none
abbrev pub option_or : {A : Type 0} → A → Option A → A
option_or a None = a
option_or a (Some b) = b

-- the second if there is no first; nothing if there is a first
abbrev pub option_none_else : {A B : Type 0} → Option A → Option B → Option B
option_none_else None b = b
option_none_else (Some a) b = None

-- ---- declarations

-- what the declarations so far declare
pub record Scope : Type 0 where
  pub default : Option Namespace
  -- what each namespace prefix is declared as
  pub namespaces : List ℕ → Option Namespace
  -- what each datatype prefix is declared as
  pub datatypes : List ℕ → Option (List ℕ)

-- nothing is declared
abbrev pub nothing_declared : Scope
nothing_declared = record { default = None; namespaces = λ p. None; datatypes = λ p. None }

abbrev pub uri_of : syntax.Uri → Namespace
uri_of syntax.inherit = inherited
uri_of (syntax.literal u) = given u

abbrev pub is_xml_uri : Namespace → Bool
is_xml_uri inherited = false
is_xml_uri (given u) = bytes_eq u xml_uri

-- a namespace prefix may represent this namespace: `xml` only its own, `xmlns` none
abbrev pub may_stand_for : List ℕ → Namespace → Bool
may_stand_for p u = if bytes_eq p (codes "xml") then is_xml_uri u else (if bytes_eq p (codes "xmlns") then false else true)

-- a datatype prefix may represent this URI: `xsd` only its own
abbrev pub may_stand_for_types : List ℕ → List ℕ → Bool
may_stand_for_types p u = if bytes_eq p (codes "xsd") then bytes_eq u xsd_uri else true

-- one more prefix, unless it is there already
abbrev pub with_one : {A : Type 0} → List ℕ → A → (List ℕ → Option A) → Option (List ℕ → Option A)
with_one p a declared = if is_none (declared p) then Some (λ q. if bytes_eq p q then Some a else declared q) else None

-- the scope with one more namespace prefix
abbrev pub with_prefix : List ℕ → Namespace → Scope → Option Scope
with_prefix p u s = if may_stand_for p u then (with_one p u s.namespaces >>= λ all. Some (record s { namespaces = all })) else None

-- the scope with this default namespace, unless it has one already
abbrev pub with_default : Namespace → Scope → Option Scope
with_default u s = option_none_else s.default (Some (record s { default = Some u }))

-- the scope with one more datatype prefix
abbrev pub with_datatypes : List ℕ → List ℕ → Scope → Option Scope
with_datatypes p u s = if may_stand_for_types p u then (with_one p u s.datatypes >>= λ all. Some (record s { datatypes = all })) else None

-- the scope with one more declaration
abbrev pub declare : Scope → syntax.Declaration → Option Scope
declare s (syntax.namespace p u) = with_prefix p (uri_of u) s
declare s (syntax.default_namespace None u) = with_default (uri_of u) s
declare s (syntax.default_namespace (Some p) u) = with_default (uri_of u) s >>= λ s. with_prefix p (uri_of u) s
declare s (syntax.datatypes p u) = with_datatypes p u s

-- the scope with these declarations added, in order
abbrev pub declare_all : Scope → List syntax.Declaration → Option Scope
declare_all s [] = Some s
declare_all s (d ∷ ds) = declare s d >>= λ s. declare_all s ds

-- ---- prefixes

-- the default namespace: of names of elements without a prefix, and of what a mention without a prefix passes on
abbrev pub default_of : Scope → Namespace
default_of s = option_or inherited s.default

-- the namespace of a prefix; `xml` is always declared
abbrev pub namespace_in : Scope → List ℕ → Option Namespace
namespace_in s p = if bytes_eq p (codes "xml") then Some (given xml_uri) else s.namespaces p

-- the URI of a datatype prefix; `xsd` is always declared
abbrev pub library_in : Scope → List ℕ → Option (List ℕ)
library_in s p = if bytes_eq p (codes "xsd") then Some xsd_uri else s.datatypes p

-- a name with its namespace; names without a prefix have the given one
abbrev pub name_in : Scope → Namespace → syntax.NameAt written → Option (syntax.NameAt applied)
name_in s ns (syntax.unprefixed l) = Some (record { namespace = ns; local = l })
name_in s ns (syntax.prefixed p l) = namespace_in s p >>= λ u. Some (record { namespace = u; local = l })

abbrev mutual
  -- a name class with its namespaces; names without a prefix have the given one
  pub class_in : Scope → Namespace → syntax.NameClassAt written → Option (syntax.NameClassAt applied)
  class_in s ns syntax.any_name = Some syntax.any_name
  class_in s ns (syntax.any_except c) = class_in s ns c >>= λ c. Some (syntax.any_except c)
  class_in s ns (syntax.ns_name p) = namespace_in s p >>= λ u. Some (syntax.ns_name u)
  class_in s ns (syntax.ns_except p c) = namespace_in s p >>= λ u. class_in s ns c >>= λ c. Some (syntax.ns_except u c)
  class_in s ns (syntax.name_is n) = name_in s ns n >>= λ n. Some (syntax.name_is n)
  class_in s ns (syntax.one_of cs) = classes_in s ns cs >>= λ cs. Some (syntax.one_of cs)

  pub classes_in : Scope → Namespace → syntax.NameClassesAt written → Option (syntax.NameClassesAt applied)
  classes_in s ns syntax.no_classes = Some syntax.no_classes
  classes_in s ns (syntax.class_and c cs) = class_in s ns c >>= λ c. classes_in s ns cs >>= λ cs. Some (syntax.class_and c cs)

-- a datatype with its library; `string` and `token` are in the library with the empty URI
abbrev pub type_in : Scope → syntax.DatatypeName written → Option (syntax.DatatypeName applied)
type_in s syntax.string_type = Some (record { library = []; name = codes "string" })
type_in s syntax.token_type = Some (record { library = []; name = codes "token" })
type_in s (syntax.prefixed_type p l) = library_in s p >>= λ u. Some (record { library = u; name = l })

-- a mention passes on the namespace of its prefix, or the default namespace
abbrev pub handed_on : Scope → Option (List ℕ) → Option Namespace
handed_on s None = Some (default_of s)
handed_on s (Some p) = namespace_in s p

abbrev pub mention_in : Scope → syntax.Mention written → Option (syntax.Mention applied)
mention_in s m = handed_on s m.inherit >>= λ u. Some (record { href = m.href; inherit = u; token = m.token })

abbrev mutual
  -- an unprefixed name has the default namespace in an element's class, and none in an attribute's
  pub pattern_in : Scope → syntax.PatternAt written → Option (syntax.PatternAt applied)
  pattern_in s (syntax.element c p) = class_in s (default_of s) c >>= λ c. pattern_in s p >>= λ p. Some (syntax.element c p)
  pattern_in s (syntax.attribute c p) = class_in s (given []) c >>= λ c. pattern_in s p >>= λ p. Some (syntax.attribute c p)
  pattern_in s (syntax.list p) = pattern_in s p >>= λ p. Some (syntax.list p)
  pattern_in s (syntax.mixed p) = pattern_in s p >>= λ p. Some (syntax.mixed p)
  pattern_in s (syntax.optional p) = pattern_in s p >>= λ p. Some (syntax.optional p)
  pattern_in s (syntax.zero_or_more p) = pattern_in s p >>= λ p. Some (syntax.zero_or_more p)
  pattern_in s (syntax.one_or_more p) = pattern_in s p >>= λ p. Some (syntax.one_or_more p)
  pattern_in s (syntax.ref n) = Some (syntax.ref n)
  pattern_in s (syntax.parent_ref n) = Some (syntax.parent_ref n)
  pattern_in s syntax.empty = Some syntax.empty
  pattern_in s syntax.text = Some syntax.text
  pattern_in s syntax.not_allowed = Some syntax.not_allowed
  pattern_in s (syntax.value d v) = type_in s d >>= λ d. Some (syntax.value d v)
  pattern_in s (syntax.data_of d ps) = type_in s d >>= λ d. Some (syntax.data_of d ps)
  pattern_in s (syntax.data_except d ps p) = type_in s d >>= λ d. pattern_in s p >>= λ p. Some (syntax.data_except d ps p)
  pattern_in s (syntax.external m) = mention_in s m >>= λ m. Some (syntax.external m)
  pattern_in s (syntax.grammar cs) = components_in s cs >>= λ cs. Some (syntax.grammar cs)
  pattern_in s (syntax.joined k ps) = patterns_in s ps >>= λ ps. Some (syntax.joined k ps)

  pub patterns_in : Scope → syntax.PatternsAt written → Option (syntax.PatternsAt applied)
  patterns_in s syntax.no_patterns = Some syntax.no_patterns
  patterns_in s (syntax.pattern_and p ps) = pattern_in s p >>= λ p. patterns_in s ps >>= λ ps. Some (syntax.pattern_and p ps)

  pub component_in : Scope → syntax.ComponentAt written → Option (syntax.ComponentAt applied)
  component_in s (syntax.start m p) = pattern_in s p >>= λ p. Some (syntax.start m p)
  component_in s (syntax.define n m p) = pattern_in s p >>= λ p. Some (syntax.define n m p)
  component_in s (syntax.div cs) = components_in s cs >>= λ cs. Some (syntax.div cs)
  component_in s (syntax.include m cs) = mention_in s m >>= λ m. components_in s cs >>= λ cs. Some (syntax.include m cs)

  pub components_in : Scope → syntax.ComponentsAt written → Option (syntax.ComponentsAt applied)
  components_in s syntax.no_components = Some syntax.no_components
  components_in s (syntax.component_and c cs) = component_in s c >>= λ c. components_in s cs >>= λ cs. Some (syntax.component_and c cs)

-- ---- files

abbrev pub body_in : Scope → syntax.Body → Option FileTree
body_in s (syntax.pattern_body p) = pattern_in s p >>= λ p. Some (tree.pattern_file p)
body_in s (syntax.grammar_body cs) = components_in s cs >>= λ cs. Some (tree.grammar_file cs)

-- the file tree of a syntax tree; nothing if a declaration or a prefix breaks a rule
unfoldable pub file_tree : syntax.File → Option FileTree
file_tree f = declare_all nothing_declared f.declarations >>= λ s. body_in s f.body
