-- What the clauses of a schema that breaks none imply for its simple grammar.
use Rattle.std.proofs.Common.{◌≡◌, ◌∙◌, refl, sym, ap, subst, ℕ, ◌<◌, ◌≤◌, List, [], length, arith}
use Rattle.std.proofs.lemmas.List.Elements.{All-contains}
use Rattle.rng_model.specs.names.Names.{NameClass}
use Rattle.rng_model.specs.simple.Simplification.{ClassStep, IsSimpleClassOf, RuleGroup, Step, IsSimpleFormOf}
use Rattle.rng_model.specs.simple.Tree.{Datatype, Tree, as_tree}
use Rattle.rng_model.specs.simple.Tree.{Simple, s_not_allowed, s_empty, s_text, s_leaf, s_attribute, s_list, s_data, s_data_except, s_value, s_one_or_more}
use Rattle.rng_model.specs.simple.Tree.{s_joined}
use Rattle.rng_model.specs.simple.Grammar.{Grammar}
use Rattle.rng_model.specs.datatypes.Datatypes.{IsKnownDatatype, IsAllowed}
use Rattle.rng_model.specs.simple.Leaves.{depth, class_depth, depth_limit, renamed, AreLeavesBelow}
use Rattle.rng_model.specs.simple.Leaves as at
use Rattle.rng_model.specs.schema.Patterns as written
use Rattle.rng_model.specs.schema.Patterns.{Place, Pattern, without_parameters}
use Rattle.rng_model.specs.schema.Schema.{Schema, IsWrittenAt}
use Rattle.rng_model.specs.simple.SchemaForm.{Element, SimpleForm, IsElementOf, IsSimpleFormOfSchema, IsSameUpToNumbering}
use Rattle.rng_model.specs.schema.SchemaClauses as clause
use Rattle.rng_model.specs.schema.SchemaClauses.{BreaksNoClause}
use Rattle.rng_model.specs.schema.Unfolding.{IsReachedTree, of_start, of_body, IsReachedByTrees, IsReachedBySimpleForms, Leaf}
use Rattle.rncv_model.specs.printed.Items.{element_at}
use Rattle.rnc_print.proofs.NamedElements.{listed}
use Rattle.rng_simple.specs.plain.InTwos.{nested, in_twos}
use Rattle.rng_simple.proofs.Trees.InTwos.{is_rewritten}
use Rattle.rng_simple.proofs.Trees.SimpleClass.{class_keeps, is_only_simple_class}
use Rattle.rng_simple.specs.plain.Renamed.{simple_renamed}
use Rattle.rng_simple.specs.plain.SimpleOf.{simple_of}
use Rattle.rng_simple.proofs.Leaves.Renamed.{as_tree_renamed}
use Rattle.rng_simple.proofs.Trees.SimpleForms.{is_only_simple_form}
use Rattle.rng_simple.proofs.Leaves.SimpleLeaves.{simply_is_reached}
use Rattle.rng_model.proofs.SimpleTrees.{same_simple}
use Rattle.rng_simple.proofs.Grammars.SimpleFormParts.{IsFine, reached_there, start_fine, element_fine}
use Rattle.rnc_print_laws.proofs.SimpleForms.RenamedSteps.{step_renamed}
use Rattle.rnc_print_laws.proofs.SimpleForms.ClassParts.{IsGoodClass, IsFreeOfDeclarations, good_nested, free_nested}
use Rattle.rnc_print_laws.proofs.SimpleForms.SimpleDepths.{simple_depth, renamed_depth}

-- ---- trees of a grammar

abbrev pub IsAttributeClass : NameClass → Type 0
IsAttributeClass c = IsGoodClass (nested c) × IsFreeOfDeclarations (nested c)

abbrev pub IsGoodData : Datatype → Type 0
IsGoodData d = ¬ (¬ (IsKnownDatatype d))

abbrev pub IsGoodValue : Datatype → List ℕ → Type 0
IsGoodValue d v = (d.parameters ≡ []) × ¬ (¬ (IsAllowed d v))

-- everything written in the tree breaks no clause about it, and each leaf is one of the first n numbers
abbrev pub IsGoodTree : ℕ → Simple ℕ → Type 0
IsGoodTree n a = IsFine IsAttributeClass IsGoodData IsGoodValue (λ k. k < n) (as_tree a)

-- no rule of simplification applies in the tree
abbrev pub IsLastSimple : Simple ℕ → Type 0
IsLastSimple a = (g : RuleGroup) (b : Tree ℕ) → Step g (as_tree a) b → ⊥

-- it is a start or a body that breaks no clause
pub record IsGoodBody (n : ℕ) (a : Simple ℕ) : Type 0 where
  pub good : IsGoodTree n a
  pub last : IsLastSimple a
  pub shallow : depth a ≤ depth_limit

pub record IsGoodElement (n : ℕ) (e : NameClass × Simple ℕ) : Type 0 where
  pub class : IsGoodClass e.0
  pub nested : (d : NameClass) → ClassStep e.0 d → ⊥
  pub shallow : class_depth e.0 ≤ depth_limit
  pub body : IsGoodBody n e.1

pub record IsGoodGrammar (g : Grammar) : Type 0 where
  pub start : IsGoodBody (length g.elements) g.start
  pub elements : (k : ℕ) → k < length g.elements → IsGoodElement (length g.elements) (element_at g k)

-- ---- what holds with other names of leaves holds

module _ (IsClass : NameClass → Type 0) (IsData : Datatype → Type 0) (IsValue : Datatype → List ℕ → Type 0) {L : Type 0} (IsLeaf : L → Type 0)
    (f : ℕ → L) (n : ℕ) where
  numbered_fine : (a : Simple ℕ) → IsFine IsClass IsData IsValue IsLeaf (renamed f (as_tree a)) → AreLeavesBelow n (as_tree a)
      → IsFine IsClass IsData IsValue (λ k. k < n) (as_tree a)
  numbered_fine s_not_allowed h i = tt
  numbered_fine s_empty h i = tt
  numbered_fine s_text h i = tt
  numbered_fine (s_leaf k) h i = i k at.here
  numbered_fine (s_attribute c a) h i = (h.0, numbered_fine a h.1 (λ k j. i k (at.of_attribute j)))
  numbered_fine (s_list a) h i = numbered_fine a h (λ k j. i k (at.of_list j))
  numbered_fine (s_data d) h i = h
  numbered_fine (s_data_except d a) h i = (h.0, numbered_fine a h.1 (λ k j. i k (at.of_except j)))
  numbered_fine (s_value d v) h i = h
  numbered_fine (s_one_or_more a) h i = numbered_fine a h (λ k j. i k (at.of_one_or_more j))
  numbered_fine (s_joined m a b) h i =
      (numbered_fine a h.0 (λ k j. i k (at.of_first j)), (numbered_fine b h.1.0 (λ k j. i k (at.of_second j)), tt))

-- ---- the schema breaks no clause

module _ (s : Schema) (kept : BreaksNoClause s) where
  schema_kept : (k : ℕ) → clause.BreaksSchemaClause s k → ⊥
  schema_kept k b = kept k (clause.in_schema b)

  class_is : (x : Place) (c : NameClass) (p : Pattern) → IsWrittenAt s x (written.attribute c p) → IsAttributeClass c
  class_is x c p w = (
    good_nested c (λ b. schema_kept 11 (clause.in_name_class (clause.of_attribute w b))),
    free_nested c (λ d i o. schema_kept 11 (clause.in_name_class (clause.of_declaration w i o))),
  )

  data_is : (x : Place) (d : Datatype) → IsWrittenAt s x (written.data_of d) → IsGoodData d
  data_is x d w n = schema_kept 12 (clause.in_datatype (clause.of_data w n))

  except_is : (x : Place) (d : Datatype) (p : Pattern) → IsWrittenAt s x (written.data_except d p) → IsGoodData d
  except_is x d p w n = schema_kept 12 (clause.in_datatype (clause.of_data_except w n))

  value_is : (x : Place) (library name v : List ℕ) → IsWrittenAt s x (written.value library name v) → IsGoodValue (without_parameters library name) v
  value_is x library name v w = (refl, λ n. schema_kept 12 (clause.in_datatype (clause.of_value w n)))

  keeps : (c d : NameClass) → ClassStep c d → IsAttributeClass c → IsAttributeClass d
  keeps c d st h = subst (λ e. IsGoodClass e × IsFreeOfDeclarations e) (class_keeps st) h

  not_deep : (t : Tree Leaf) → IsReachedTree s t → depth (in_twos t) ≤ depth_limit
  not_deep t r =
      let n : ¬ (depth_limit < depth (in_twos t)) = λ lt. schema_kept 17 (clause.in_depth (clause.deep_tree (in_twos t) r (is_rewritten t) lt)) in
      omega (arith, n)

  module _ (g : Grammar) (f : SimpleForm) (is : IsSimpleFormOfSchema s f) (same : IsSameUpToNumbering g f) where
    abbrev n : ℕ
    n = length g.elements

    -- a simple form of a tree that is reached, with other names of leaves
    last_body : (a : Simple ℕ) (t b : Tree Leaf) → IsSimpleFormOf t b → b ≡ renamed same.element (as_tree a) → IsLastSimple a
    last_body a t b form e g c st =
        form.last (renamed same.element c) (g, subst (λ d. Step g d (renamed same.element c)) (sym e) (step_renamed same.element st))

    shallow_body : (a : Simple ℕ) (t b : Tree Leaf) → IsReachedTree s t → IsSimpleFormOf t b → b ≡ renamed same.element (as_tree a) → depth a ≤ depth_limit
    shallow_body a t b r form e =
        let form_is : simple_renamed same.element a ≡ simple_of t =
        same_simple (as_tree_renamed same.element a ∙ sym e ∙ is_only_simple_form t b form) in
        let as_deep : depth a ≡ depth (simple_of t) = sym (renamed_depth same.element a) ∙ ap depth form_is in
        let less = simple_depth t in
        let limit = not_deep t r in
        omega (arith, as_deep, less, limit)

    start_is : IsGoodBody n g.start
    start_is = record {
      good = numbered_fine IsAttributeClass IsGoodData IsGoodValue _ same.element n g.start
          (subst (IsFine IsAttributeClass IsGoodData IsGoodValue _) same.start
          (start_fine IsAttributeClass IsGoodData IsGoodValue s class_is data_is except_is value_is keeps f is)) same.start_below;
      last = last_body g.start is.tree f.start is.start same.start;
      shallow = shallow_body g.start is.tree f.start (of_start is.is_tree) is.start same.start;
    }

    written_there : (l : Leaf) → IsReachedBySimpleForms s l → IsWrittenAt s l.place (written.element l.class l.content)
    written_there l r = (reached_there IsAttributeClass IsGoodData IsGoodValue s class_is data_is except_is value_is keeps r).0

    shallow_class : (l : Leaf) (c : NameClass) → IsReachedByTrees s l → IsSimpleClassOf l.class c → class_depth c ≤ depth_limit
    shallow_class l c r is_class =
        let n : ¬ (depth_limit < class_depth c) = λ lt. schema_kept 17 (clause.in_depth (clause.deep_class r is_class lt)) in
        omega (arith, n)

    element_is : (c : NameClass) (a : Simple ℕ) (e : Element) → IsElementOf s e → e.class ≡ c → e.body ≡ renamed same.element (as_tree a)
        → AreLeavesBelow n (as_tree a) → IsGoodElement n (c, a)
    element_is c a e has class body below = record {
      class = subst IsGoodClass (sym (is_only_simple_class e.name.class e.class has.class) ∙ class)
          (good_nested e.name.class (λ b. schema_kept 11 (clause.in_name_class (clause.of_element (written_there e.name has.reached) b))));
      nested = subst (λ d. (x : NameClass) → ClassStep d x → ⊥) class has.class.simple;
      shallow = subst (λ d. class_depth d ≤ depth_limit) class (shallow_class e.name e.class (simply_is_reached s has.reached) has.class);
      body = record {
        good = numbered_fine IsAttributeClass IsGoodData IsGoodValue _ same.element n a
            (subst (IsFine IsAttributeClass IsGoodData IsGoodValue _) body
            (element_fine IsAttributeClass IsGoodData IsGoodValue s class_is data_is except_is value_is keeps e has)) below;
        last = last_body a has.tree e.body has.body body;
        shallow = shallow_body a has.tree e.body (of_body (simply_is_reached s has.reached) has.is_tree) has.body body;
      };
    }

    pub good_grammar : IsGoodGrammar g
    good_grammar = record {
      start = start_is;
      elements = λ k l.
          let b = same.bodies k (element_at g k).0 (element_at g k).1 (listed g k l) in
          element_is (element_at g k).0 (element_at g k).1 _ (All-contains (IsElementOf s) f.elements _ is.elements b.0) refl refl b.1;
    }
