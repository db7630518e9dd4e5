-- The rules about the declarations of a schema file, and which of them a file breaks (RELAX NG Compact Syntax,
-- "Declarations" and "Syntax"; Namespaces in XML 1.0, section 3). A prefix other than `xml`, or the default, may be
-- declared as the URI of `xml` (profile).
use Rattle.std.specs.Prelude.{◌≢◌, ℕ, List, [], ◌∷◌, ◌++◌, Option, Some, None, codes, flat_map}
use Rattle.rng_model.specs.datatypes.Datatypes.{xsd_uri}
use Rattle.rng_model.specs.names.Lists.{Among}
use Rattle.rng_model.specs.names.Names.{xml_uri}
use Rattle.rnc_model.specs.grammar.Syntax as syntax
use Rattle.rnc_model.specs.grammar.Syntax.{written}

-- what can be declared; a namespace prefix and a datatype prefix with the same spelling are distinct
pub data Declarable : Type 0 where
  namespace_prefix : List ℕ → Declarable
  datatype_prefix : List ℕ → Declarable
  default_namespace : Declarable

-- ---- what is declared

-- what a declaration declares, and as which URI
abbrev pub declared_by : syntax.Declaration → List (Declarable × syntax.Uri)
declared_by (syntax.namespace p u) = (namespace_prefix p, u) ∷ []
declared_by (syntax.default_namespace None u) = (default_namespace, u) ∷ []
declared_by (syntax.default_namespace (Some p) u) = (default_namespace, u) ∷ (namespace_prefix p, u) ∷ []
declared_by (syntax.datatypes p u) = (datatype_prefix p, syntax.literal u) ∷ []

-- what all of them declare, in order
abbrev pub declared_in : List syntax.Declaration → List (Declarable × syntax.Uri)
declared_in ds = flat_map declared_by ds

-- these declarations declare it as this URI
abbrev pub IsDeclaredAs : Declarable → syntax.Uri → List syntax.Declaration → Type 0
IsDeclaredAs x u ds = Among (x, u) (declared_in ds)

-- none of them declares it
abbrev pub IsUndeclared : Declarable → List syntax.Declaration → Type 0
IsUndeclared x ds = (u : syntax.Uri) → ¬ (IsDeclaredAs x u ds)

-- it is in the list twice, with the same URI or with two
pub data IsTwiceIn (x : Declarable) : List (Declarable × syntax.Uri) → Type 0 where
  at_first : {u v : syntax.Uri} {es : List (Declarable × syntax.Uri)} → Among (x, v) es → IsTwiceIn x ((x, u) ∷ es)
  later : {e : Declarable × syntax.Uri} {es : List (Declarable × syntax.Uri)} → IsTwiceIn x es → IsTwiceIn x (e ∷ es)

-- two of these declarations declare it
abbrev pub IsDeclaredTwice : Declarable → List syntax.Declaration → Type 0
IsDeclaredTwice x ds = IsTwiceIn x (declared_in ds)

-- ---- the prefixes in a tree

-- the prefix of a name, if it has one
abbrev pub prefixes_of_name : syntax.NameAt written → List Declarable
prefixes_of_name (syntax.unprefixed l) = []
prefixes_of_name (syntax.prefixed p l) = namespace_prefix p ∷ []

abbrev mutual
  -- the prefixes of the names and of the `p:*` in a name class, including its excepts and choices
  pub prefixes_of_class : syntax.NameClassAt written → List Declarable
  prefixes_of_class syntax.any_name = []
  prefixes_of_class (syntax.any_except c) = prefixes_of_class c
  prefixes_of_class (syntax.ns_name p) = namespace_prefix p ∷ []
  prefixes_of_class (syntax.ns_except p c) = namespace_prefix p ∷ prefixes_of_class c
  prefixes_of_class (syntax.name_is n) = prefixes_of_name n
  prefixes_of_class (syntax.one_of cs) = prefixes_of_classes cs

  pub prefixes_of_classes : syntax.NameClassesAt written → List Declarable
  prefixes_of_classes syntax.no_classes = []
  prefixes_of_classes (syntax.class_and c cs) = prefixes_of_class c ++ prefixes_of_classes cs

-- the prefix of a datatype: `string` and `token` have none
abbrev pub prefixes_of_type : syntax.DatatypeName written → List Declarable
prefixes_of_type syntax.string_type = []
prefixes_of_type syntax.token_type = []
prefixes_of_type (syntax.prefixed_type p l) = datatype_prefix p ∷ []

-- the prefix of an `inherit`
abbrev pub prefixes_of_inherit : Option (List ℕ) → List Declarable
prefixes_of_inherit None = []
prefixes_of_inherit (Some p) = namespace_prefix p ∷ []

abbrev mutual
  -- the prefixes of the names, datatypes and `inherit`s in a pattern
  pub prefixes_of_pattern : syntax.PatternAt written → List Declarable
  prefixes_of_pattern (syntax.element c p) = prefixes_of_class c ++ prefixes_of_pattern p
  prefixes_of_pattern (syntax.attribute c p) = prefixes_of_class c ++ prefixes_of_pattern p
  prefixes_of_pattern (syntax.list p) = prefixes_of_pattern p
  prefixes_of_pattern (syntax.mixed p) = prefixes_of_pattern p
  prefixes_of_pattern (syntax.optional p) = prefixes_of_pattern p
  prefixes_of_pattern (syntax.zero_or_more p) = prefixes_of_pattern p
  prefixes_of_pattern (syntax.one_or_more p) = prefixes_of_pattern p
  prefixes_of_pattern (syntax.ref n) = []
  prefixes_of_pattern (syntax.parent_ref n) = []
  prefixes_of_pattern syntax.empty = []
  prefixes_of_pattern syntax.text = []
  prefixes_of_pattern syntax.not_allowed = []
  prefixes_of_pattern (syntax.value d v) = prefixes_of_type d
  prefixes_of_pattern (syntax.data_of d ps) = prefixes_of_type d
  prefixes_of_pattern (syntax.data_except d ps p) = prefixes_of_type d ++ prefixes_of_pattern p
  prefixes_of_pattern (syntax.external m) = prefixes_of_inherit m.inherit
  prefixes_of_pattern (syntax.grammar cs) = prefixes_of_components cs
  prefixes_of_pattern (syntax.joined k ps) = prefixes_of_patterns ps

  pub prefixes_of_patterns : syntax.PatternsAt written → List Declarable
  prefixes_of_patterns syntax.no_patterns = []
  prefixes_of_patterns (syntax.pattern_and p ps) = prefixes_of_pattern p ++ prefixes_of_patterns ps

  pub prefixes_of_component : syntax.ComponentAt written → List Declarable
  prefixes_of_component (syntax.start m p) = prefixes_of_pattern p
  prefixes_of_component (syntax.define n m p) = prefixes_of_pattern p
  prefixes_of_component (syntax.div cs) = prefixes_of_components cs
  prefixes_of_component (syntax.include m cs) = prefixes_of_inherit m.inherit ++ prefixes_of_components cs

  pub prefixes_of_components : syntax.ComponentsAt written → List Declarable
  prefixes_of_components syntax.no_components = []
  prefixes_of_components (syntax.component_and c cs) = prefixes_of_component c ++ prefixes_of_components cs

abbrev pub prefixes_of_body : syntax.Body → List Declarable
prefixes_of_body (syntax.pattern_body p) = prefixes_of_pattern p
prefixes_of_body (syntax.grammar_body cs) = prefixes_of_components cs

-- the prefix is in this body
abbrev pub IsPrefixIn : Declarable → syntax.Body → Type 0
IsPrefixIn x b = Among x (prefixes_of_body b)

-- ---- the rules

-- the file breaks one of them
pub data BreaksDeclarationRule (f : syntax.File) : Type 0 where
  -- a namespace prefix is declared twice
  namespace_prefix_twice : {p : List ℕ} → IsDeclaredTwice (namespace_prefix p) f.declarations → BreaksDeclarationRule f
  -- a datatype prefix is declared twice
  datatype_prefix_twice : {p : List ℕ} → IsDeclaredTwice (datatype_prefix p) f.declarations → BreaksDeclarationRule f
  -- the default namespace is declared twice
  default_namespace_twice : IsDeclaredTwice default_namespace f.declarations → BreaksDeclarationRule f
  -- `xml` is declared as anything except the literal of its own URI
  xml_as_another : {u : syntax.Uri} → IsDeclaredAs (namespace_prefix (codes "xml")) u f.declarations → u ≢ syntax.literal xml_uri → BreaksDeclarationRule f
  -- `xsd` is declared as anything except the literal of its own URI
  xsd_as_another : {u : syntax.Uri} → IsDeclaredAs (datatype_prefix (codes "xsd")) u f.declarations → u ≢ syntax.literal xsd_uri → BreaksDeclarationRule f
  -- `xmlns` is declared
  xmlns_declared : {u : syntax.Uri} → IsDeclaredAs (namespace_prefix (codes "xmlns")) u f.declarations → BreaksDeclarationRule f
  -- a namespace prefix in the body is not declared; `xml` is always declared
  namespace_prefix_undeclared : {p : List ℕ} → IsPrefixIn (namespace_prefix p) f.body → p ≢ codes "xml" → IsUndeclared (namespace_prefix p) f.declarations
      → BreaksDeclarationRule f
  -- a datatype prefix in the body is not declared; `xsd` is always declared
  datatype_prefix_undeclared : {p : List ℕ} → IsPrefixIn (datatype_prefix p) f.body → p ≢ codes "xsd" → IsUndeclared (datatype_prefix p) f.declarations
      → BreaksDeclarationRule f
