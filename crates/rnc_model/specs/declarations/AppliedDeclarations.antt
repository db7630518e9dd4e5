-- The tree of a schema file: its syntax tree with its declarations applied (RELAX NG Compact Syntax, "Declarations").
-- A prefix means what the first declaration of it says. A prefix without one breaks a rule (`DeclarationRules`), so what
-- it would mean does not matter.
use Rattle.std.specs.Prelude.{ℕ, List, [], ◌∷◌, Option, Some, None, if◌then◌else◌, codes}
use Rattle.std.specs.Str.{bytes_eq}
use Rattle.rng_model.specs.datatypes.Datatypes.{xsd_uri}
use Rattle.rng_model.specs.names.Names.{xml_uri}
use Rattle.rnc_model.specs.grammar.Syntax as syntax
use Rattle.rnc_model.specs.grammar.Syntax.{applied, written, Declaration, Namespace, inherited, given}
use Rattle.rnc_model.specs.declarations.FileTree as tree
use Rattle.rnc_model.specs.declarations.FileTree.{FileTree}

-- ---- what is declared

abbrev pub namespace_of : syntax.Uri → Namespace
namespace_of syntax.inherit = inherited
namespace_of (syntax.literal u) = given u

-- what a namespace prefix is declared as
abbrev pub declared_namespace : List Declaration → List ℕ → Namespace
declared_namespace [] p = inherited
declared_namespace (syntax.namespace q u ∷ ds) p = if bytes_eq q p then namespace_of u else declared_namespace ds p
declared_namespace (syntax.default_namespace (Some q) u ∷ ds) p = if bytes_eq q p then namespace_of u else declared_namespace ds p
declared_namespace (syntax.default_namespace None u ∷ ds) p = declared_namespace ds p
declared_namespace (syntax.datatypes q u ∷ ds) p = declared_namespace ds p

-- what a datatype prefix is declared as
abbrev pub declared_library : List Declaration → List ℕ → List ℕ
declared_library [] p = []
declared_library (syntax.datatypes q u ∷ ds) p = if bytes_eq q p then u else declared_library ds p
declared_library (syntax.namespace q u ∷ ds) p = declared_library ds p
declared_library (syntax.default_namespace q u ∷ ds) p = declared_library ds p

-- the default namespace: the inherited one, if none is declared
abbrev pub declared_default : List Declaration → Namespace
declared_default [] = inherited
declared_default (syntax.default_namespace q u ∷ ds) = namespace_of u
declared_default (syntax.namespace q u ∷ ds) = declared_default ds
declared_default (syntax.datatypes q u ∷ ds) = declared_default ds

-- ---- what the names of a file mean

module _ (ds : List Declaration) where
  -- `xml` is always declared
  abbrev pub namespace_by : List ℕ → Namespace
  namespace_by p = if bytes_eq p (codes "xml") then given xml_uri else declared_namespace ds p

  -- `xsd` is always declared
  abbrev pub library_by : List ℕ → List ℕ
  library_by p = if bytes_eq p (codes "xsd") then xsd_uri else declared_library ds p

  -- a name without a prefix has the given namespace
  abbrev pub name_by : Namespace → syntax.NameAt written → syntax.NameAt applied
  name_by ns (syntax.unprefixed l) = record { namespace = ns; local = l }
  name_by ns (syntax.prefixed p l) = record { namespace = namespace_by p; local = l }

  abbrev mutual
    pub class_by : Namespace → syntax.NameClassAt written → syntax.NameClassAt applied
    class_by ns syntax.any_name = syntax.any_name
    class_by ns (syntax.any_except c) = syntax.any_except (class_by ns c)
    class_by ns (syntax.ns_name p) = syntax.ns_name (namespace_by p)
    class_by ns (syntax.ns_except p c) = syntax.ns_except (namespace_by p) (class_by ns c)
    class_by ns (syntax.name_is n) = syntax.name_is (name_by ns n)
    class_by ns (syntax.one_of cs) = syntax.one_of (classes_by ns cs)

    pub classes_by : Namespace → syntax.NameClassesAt written → syntax.NameClassesAt applied
    classes_by ns syntax.no_classes = syntax.no_classes
    classes_by ns (syntax.class_and c cs) = syntax.class_and (class_by ns c) (classes_by ns cs)

  -- `string` and `token` are in the library with the empty URI
  abbrev pub type_by : syntax.DatatypeName written → syntax.DatatypeName applied
  type_by syntax.string_type = record { library = []; name = codes "string" }
  type_by syntax.token_type = record { library = []; name = codes "token" }
  type_by (syntax.prefixed_type p l) = record { library = library_by p; name = l }

  -- a mention passes on the namespace of its prefix, or the default namespace
  abbrev pub passed_on : Option (List ℕ) → Namespace
  passed_on None = declared_default ds
  passed_on (Some p) = namespace_by p

  abbrev pub mention_by : syntax.Mention written → syntax.Mention applied
  mention_by m = record { href = m.href; inherit = passed_on m.inherit; token = m.token }

  abbrev mutual
    -- a name without a prefix has the default namespace in an element's class, and none in an attribute's
    pub pattern_by : syntax.PatternAt written → syntax.PatternAt applied
    pattern_by (syntax.element c p) = syntax.element (class_by (declared_default ds) c) (pattern_by p)
    pattern_by (syntax.attribute c p) = syntax.attribute (class_by (given []) c) (pattern_by p)
    pattern_by (syntax.list p) = syntax.list (pattern_by p)
    pattern_by (syntax.mixed p) = syntax.mixed (pattern_by p)
    pattern_by (syntax.optional p) = syntax.optional (pattern_by p)
    pattern_by (syntax.zero_or_more p) = syntax.zero_or_more (pattern_by p)
    pattern_by (syntax.one_or_more p) = syntax.one_or_more (pattern_by p)
    pattern_by (syntax.ref n) = syntax.ref n
    pattern_by (syntax.parent_ref n) = syntax.parent_ref n
    pattern_by syntax.empty = syntax.empty
    pattern_by syntax.text = syntax.text
    pattern_by syntax.not_allowed = syntax.not_allowed
    pattern_by (syntax.value d v) = syntax.value (type_by d) v
    pattern_by (syntax.data_of d ps) = syntax.data_of (type_by d) ps
    pattern_by (syntax.data_except d ps p) = syntax.data_except (type_by d) ps (pattern_by p)
    pattern_by (syntax.external m) = syntax.external (mention_by m)
    pattern_by (syntax.grammar cs) = syntax.grammar (components_by cs)
    pattern_by (syntax.joined k ps) = syntax.joined k (patterns_by ps)

    pub patterns_by : syntax.PatternsAt written → syntax.PatternsAt applied
    patterns_by syntax.no_patterns = syntax.no_patterns
    patterns_by (syntax.pattern_and p ps) = syntax.pattern_and (pattern_by p) (patterns_by ps)

    pub component_by : syntax.ComponentAt written → syntax.ComponentAt applied
    component_by (syntax.start m p) = syntax.start m (pattern_by p)
    component_by (syntax.define n m p) = syntax.define n m (pattern_by p)
    component_by (syntax.div cs) = syntax.div (components_by cs)
    component_by (syntax.include m cs) = syntax.include (mention_by m) (components_by cs)

    pub components_by : syntax.ComponentsAt written → syntax.ComponentsAt applied
    components_by syntax.no_components = syntax.no_components
    components_by (syntax.component_and c cs) = syntax.component_and (component_by c) (components_by cs)

  abbrev pub body_by : syntax.Body → FileTree
  body_by (syntax.pattern_body p) = tree.pattern_file (pattern_by p)
  body_by (syntax.grammar_body cs) = tree.grammar_file (components_by cs)

-- the tree of a file
abbrev pub tree_of_file : syntax.File → FileTree
tree_of_file f = body_by f.declarations f.body
