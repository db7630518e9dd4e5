-- The clauses that a schema of one grammar or more may break: S11 to S15 over all components at all places, reached or
-- not; S16 and S17 over the trees that are reached; S18 to S27 over its simple form. (RELAX NG Specification, sections
-- 4.16 to 4.19 and 7; S17 is profile)
use Rattle.std.specs.Prelude.{◌≡◌, codes, ℕ, ◌<◌, List, [], Some, None}
use Rattle.rng_model.specs.names.Lists.{IsLeast, Among, HasTwo}
use Rattle.rng_model.specs.names.Names.{Name, NameClass, NameClasses, any_name, any_except, ns_name, ns_except, name_is, one_of, class_and}
use Rattle.rng_model.specs.simple.Tree.{Tree, Datatype, Simple, as_tree}
use Rattle.rng_model.specs.simple.Grammar.{Grammar}
use Rattle.rng_model.specs.datatypes.Datatypes.{IsKnownDatatype, IsAllowed}
use Rattle.rng_model.specs.simple.Simplification.{IsSimpleClassOf, IsRewritten}
use Rattle.rng_model.specs.schema.Patterns.{Place, Pattern, element, attribute, data_of, data_except, value, without_parameters, ref, parent_ref}
use Rattle.rng_model.specs.schema.Schema.{Schema, Component, main_start, HasComponent, IsWrittenAt}
use Rattle.rng_model.specs.schema.Unfolding.{Leaf, IsTreeOf, IsBodyOf, IsReachedByTrees, IsReachedTree}
use Rattle.rng_model.specs.simple.Leaves.{depth, class_depth, depth_limit}
use Rattle.rng_model.specs.simple.SchemaForm.{IsSimpleGrammarOf}
use Rattle.rng_model.specs.restrictions.Restrictions.{BreaksRestriction}
use Rattle.rng_model.specs.declared.method.Method.TheVariants as methods

-- ---- S11: name classes (section 4.16)

-- the class d is c, or is in it, also in its excepts
mutual
  pub data IsPartOf (d : NameClass) : NameClass → Type 0 where
    itself : IsPartOf d d
    in_any_except : {c : NameClass} → IsPartOf d c → IsPartOf d (any_except c)
    in_ns_except : {u : List ℕ} {c : NameClass} → IsPartOf d c → IsPartOf d (ns_except u c)
    in_first : {b c : NameClass} {cs : NameClasses} → IsPartOf d b → IsPartOf d (one_of b c cs)
    in_second : {b c : NameClass} {cs : NameClasses} → IsPartOf d c → IsPartOf d (one_of b c cs)
    in_another : {b c : NameClass} {cs : NameClasses} → IsPartOfOne d cs → IsPartOf d (one_of b c cs)

  pub data IsPartOfOne (d : NameClass) : NameClasses → Type 0 where
    in_this : {c : NameClass} {cs : NameClasses} → IsPartOf d c → IsPartOfOne d (class_and c cs)
    in_later : {c : NameClass} {cs : NameClasses} → IsPartOfOne d cs → IsPartOfOne d (class_and c cs)

-- the class is `*`, with an except or without
pub data IsAny : NameClass → Type 0 where
  any_is : IsAny any_name
  any_but_is : {c : NameClass} → IsAny (any_except c)

-- the class is `p:*`, with an except or without
pub data IsNamespace : NameClass → Type 0 where
  namespace_is : {u : List ℕ} → IsNamespace (ns_name u)
  namespace_but_is : {u : List ℕ} {c : NameClass} → IsNamespace (ns_except u c)

-- the class has an except of `*` with a `*` inside, or an except of `p:*` with a `*` or a `q:*` inside
pub data BreaksClassExcept (c : NameClass) : Type 0 where
  any_in_any : {d e : NameClass} → IsPartOf (any_except e) c → IsPartOf d e → IsAny d → BreaksClassExcept c
  any_in_namespace : {u : List ℕ} {d e : NameClass} → IsPartOf (ns_except u e) c → IsPartOf d e → IsAny d → BreaksClassExcept c
  namespace_in_namespace : {u : List ℕ} {d e : NameClass} → IsPartOf (ns_except u e) c → IsPartOf d e → IsNamespace d → BreaksClassExcept c

-- the namespace that no attribute may have, without the slash at its end that the namespace of declarations has in
-- documents
abbrev pub barred_uri : List ℕ
barred_uri = codes "http://www.w3.org/2000/xmlns"

-- the class is the name `xmlns` without namespace, or a name of that namespace, or `p:*` of it, with an except or without
pub data IsOfDeclarations : NameClass → Type 0 where
  xmlns_is : {n : Name} → n.ns ≡ [] → n.local ≡ codes "xmlns" → IsOfDeclarations (name_is n)
  name_of_it : {n : Name} → n.ns ≡ barred_uri → IsOfDeclarations (name_is n)
  all_names_of_it : {u : List ℕ} → u ≡ barred_uri → IsOfDeclarations (ns_name u)
  names_of_it_but : {u : List ℕ} {c : NameClass} → u ≡ barred_uri → IsOfDeclarations (ns_except u c)

pub data BreaksNameClass (s : Schema) : Type 0 where
  of_element : {x : Place} {c : NameClass} {p : Pattern} → IsWrittenAt s x (element c p) → BreaksClassExcept c → BreaksNameClass s
  of_attribute : {x : Place} {c : NameClass} {p : Pattern} → IsWrittenAt s x (attribute c p) → BreaksClassExcept c → BreaksNameClass s
  of_declaration : {x : Place} {c d : NameClass} {p : Pattern} → IsWrittenAt s x (attribute c p) → IsPartOf d c → IsOfDeclarations d → BreaksNameClass s

-- ---- S12: datatypes (section 4.16)

-- a datatype is not known, or its own datatype does not allow a value
pub data BreaksDatatype (s : Schema) : Type 0 where
  of_data : {x : Place} {d : Datatype} → IsWrittenAt s x (data_of d) → ¬ (IsKnownDatatype d) → BreaksDatatype s
  of_data_except : {x : Place} {d : Datatype} {p : Pattern} → IsWrittenAt s x (data_except d p) → ¬ (IsKnownDatatype d) → BreaksDatatype s
  of_value : {x : Place} {library name v : List ℕ} → IsWrittenAt s x (value library name v) → ¬ (IsAllowed (without_parameters library name) v)
      → BreaksDatatype s

-- ---- S13, S14, S15: grammars (sections 4.17 and 4.18)

-- S13: two components of a name, or of the start, have `=`; or one has `|=` and one `&=`
pub data BreaksCombination (s : Schema) : Type 0 where
  two_plain : {x : Place} {cs : List Component} → s.components x ≡ Some cs
      → HasTwo (λ c d. (c.name ≡ d.name) × (c.method ≡ methods.Plain) × (d.method ≡ methods.Plain)) cs → BreaksCombination s
  both_methods : {x : Place} {c d : Component} → HasComponent s x c → HasComponent s x d → c.name ≡ d.name → c.method ≡ methods.Choice
      → d.method ≡ methods.Interleave → BreaksCombination s

-- S14: a grammar has no start
pub record HasNoStart (s : Schema) : Type 0 where
  pub place : Place
  pub components : List Component
  pub there : s.components place ≡ Some components
  pub none : (c : Component) → Among c components → ¬ (c.name ≡ None)

-- the grammar at the place defines the name
abbrev pub IsDefinedAt : Schema → Place → List ℕ → Type 0
IsDefinedAt s x y = (c : Component) × HasComponent s x c × (c.name ≡ Some y)

-- S15: a ref finds no definition in its grammar, or a parent ref none in the grammar around
pub data BreaksRef (s : Schema) : Type 0 where
  of_ref : {x : Place} {y : List ℕ} → IsWrittenAt s x (ref y) → ¬ (IsDefinedAt s x y) → BreaksRef s
  of_parent_ref : {x : Place} {y : List ℕ} → IsWrittenAt s x (parent_ref y) → ((z : Place) → s.outer x ≡ Some z → ¬ (IsDefinedAt s z y)) → BreaksRef s

-- ---- S16, S17: trees (section 4.19)

-- S16: some expansion loops outside elements, so that the start, or the body of an element reached, has no tree
pub data BreaksExpansion (s : Schema) : Type 0 where
  of_start : ((t : Tree Leaf) → ¬ (IsTreeOf s (main_start s) t)) → BreaksExpansion s
  of_body : {l : Leaf} → IsReachedByTrees s l → ((t : Tree Leaf) → ¬ (IsBodyOf s l t)) → BreaksExpansion s

-- S17: after 4.12 to 4.15, a tree that is reached, or the name class of an element that is reached, is too deep
pub data BreaksDepth (s : Schema) : Type 0 where
  deep_tree : {t : Tree Leaf} (p : Simple Leaf) → IsReachedTree s t → IsRewritten t (as_tree p) → depth_limit < depth p → BreaksDepth s
  deep_class : {l : Leaf} {c : NameClass} → IsReachedByTrees s l → IsSimpleClassOf l.class c → depth_limit < class_depth c → BreaksDepth s

-- ---- the verdict

-- the schema breaks the clause, one of S11 to S17
pub data BreaksSchemaClause (s : Schema) : ℕ → Type 0 where
  in_name_class : BreaksNameClass s → BreaksSchemaClause s 11
  in_datatype : BreaksDatatype s → BreaksSchemaClause s 12
  in_combination : BreaksCombination s → BreaksSchemaClause s 13
  without_start : HasNoStart s → BreaksSchemaClause s 14
  in_ref : BreaksRef s → BreaksSchemaClause s 15
  in_expansion : BreaksExpansion s → BreaksSchemaClause s 16
  in_depth : BreaksDepth s → BreaksSchemaClause s 17

-- the schema breaks the clause: one of S11 to S17, or a restriction that its simple form breaks
pub data BreaksClause (s : Schema) : ℕ → Type 0 where
  in_schema : {clause : ℕ} → BreaksSchemaClause s clause → BreaksClause s clause
  in_restriction : {g : Grammar} {clause : ℕ} → IsSimpleGrammarOf s g → BreaksRestriction g clause → BreaksClause s clause

-- the schema breaks no clause
abbrev pub BreaksNoClause : Schema → Type 0
BreaksNoClause s = (clause : ℕ) → ¬ (BreaksClause s clause)

-- the least clause that the schema breaks
abbrev pub IsLeastClause : Schema → ℕ → Type 0
IsLeastClause s clause = IsLeast (BreaksClause s) clause
