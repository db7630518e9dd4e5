-- A file that breaks no rule has the tree that its declarations make (`tree_of_file`): the tree that is made step by step (`file_tree`).
use Rattle.std.proofs.Common.{◌≡◌, ◌∙◌, ap, ap₂, sym, subst, refl, ℕ, List, [], ◌∷◌, Bool, true, false, Option, Some, None, is_none, codes, if◌then◌else◌}
use Rattle.std.proofs.lemmas.Slice.Eq.{bytes_eq-Decides}
use Rattle.std.specs.Str.{bytes_eq}
use Rattle.rng_model.specs.datatypes.Datatypes.{xsd_uri}
use Rattle.rng_model.specs.names.Names.{xml_uri}
use Rattle.rnc_model.specs.grammar.Syntax as syntax
use Rattle.rnc_model.specs.grammar.Syntax.{written, Declaration, Namespace, inherited, given}
use Rattle.rnc_model.specs.declarations.FileTree as tree
use Rattle.rnc_model.specs.declarations.FileTree.{FileTree}
use Rattle.rnc_model.specs.declarations.AppliedDeclarations.{namespace_of, declared_namespace, declared_library, declared_default, namespace_by, library_by}
use Rattle.rnc_model.specs.declarations.AppliedDeclarations.{name_by, class_by, classes_by, type_by, passed_on, mention_by, pattern_by, patterns_by}
use Rattle.rnc_model.specs.declarations.AppliedDeclarations.{component_by, components_by, body_by, tree_of_file}
use Rattle.rnc_model.specs.declarations.DeclarationRules.{BreaksDeclarationRule}
use Rattle.rnc_model.specs.declarations.Declarations.{◌>>=◌, Scope, nothing_declared, uri_of, may_stand_for, may_stand_for_types, with_prefix, with_default}
use Rattle.rnc_model.specs.declarations.Declarations.{with_datatypes, option_or, option_none_else, declare, declare_all, default_of, namespace_in, library_in}
use Rattle.rnc_model.specs.declarations.Declarations.{name_in, class_in, classes_in, type_in, handed_on, mention_in, pattern_in, patterns_in, component_in}
use Rattle.rnc_model.specs.declarations.Declarations.{components_in, body_in, file_tree}
use Rattle.rnc_grammar.proofs.DeclarationRules.{broken_where_none}

-- there is no value, or it is this one
data Says {A : Type 0} : Option A → A → Type 0 where
  says_none : {a : A} → Says None a
  says_this : {x a : A} → x ≡ a → Says (Some x) a

one : {A B : Type 0} (o : Option A) (a : A) (f : A → B) → Says o a → Says (o >>= λ x. Some (f x)) (f a)
one None a f says = says_none
one (Some x) a f (says_this e) = says_this (ap f e)

two : {A B C : Type 0} (o : Option A) (q : Option B) (a : A) (b : B) (f : A → B → C) → Says o a → Says q b
    → Says (o >>= λ x. q >>= λ y. Some (f x y)) (f a b)
two None q a b f says more = says_none
two (Some x) None a b f says more = says_none
two (Some x) (Some y) a b f (says_this e) (says_this g) = says_this (ap₂ f e g)

-- ---- what is declared

same_namespace : (u : syntax.Uri) → uri_of u ≡ namespace_of u
same_namespace syntax.inherit = refl
same_namespace (syntax.literal u) = refl

-- what a table has, or what declarations after it declare
record IsFound (s r : Scope) (ds : List Declaration) : Type 0 where
  default : option_or inherited r.default ≡ option_or (declared_default ds) s.default
  namespaces : (p : List ℕ) → Says (r.namespaces p) (option_or (declared_namespace ds p) (s.namespaces p))
  datatypes : (p : List ℕ) → Says (r.datatypes p) (option_or (declared_library ds p) (s.datatypes p))

-- one declaration in front gives the same as one entry more in the tables
record IsMoved (s m : Scope) (d : Declaration) : Type 0 where
  default : (ds : List Declaration) → option_or (declared_default ds) m.default ≡ option_or (declared_default (d ∷ ds)) s.default
  namespaces : (ds : List Declaration) (p : List ℕ)
      → option_or (declared_namespace ds p) (m.namespaces p) ≡ option_or (declared_namespace (d ∷ ds) p) (s.namespaces p)
  datatypes : (ds : List Declaration) (p : List ℕ)
      → option_or (declared_library ds p) (m.datatypes p) ≡ option_or (declared_library (d ∷ ds) p) (s.datatypes p)

data AfterDeclaration (s : Scope) (d : Declaration) : Option Scope → Type 0 where
  refused : AfterDeclaration s d None
  moved : {m : Scope} → IsMoved s m d → AfterDeclaration s d (Some m)

-- an entry that is new in a table
entry : {A : Type 0} (table : List ℕ → Option A) (q : List ℕ) (new : is_none (table q) ≡ true) (a b rest : A) → a ≡ b → (p : List ℕ)
    → option_or rest (if bytes_eq q p then Some a else table p) ≡ option_or (if bytes_eq q p then b else rest) (table p)
entry table q new a b rest same p = by (bytes_eq q p) refl where
  absent : (o : Option _) → is_none o ≡ true → option_or b o ≡ b
  absent None e = refl
  absent (Some x) e = absurd (cc)

  by : (c : Bool) → bytes_eq q p ≡ c → option_or rest (if c then Some a else table p) ≡ option_or (if c then b else rest) (table p)
  by true e = same ∙ sym (absent (table p) (subst (λ p. is_none (table p) ≡ true) ((bytes_eq-Decides q p).0 e) new))
  by false e = refl

-- a namespace prefix
data AfterPrefix (s : Scope) (q : List ℕ) (u : Namespace) : Option Scope → Type 0 where
  no_prefix : AfterPrefix s q u None
  prefix_new : is_none (s.namespaces q) ≡ true → AfterPrefix s q u (Some (record s { namespaces = λ p. if bytes_eq q p then Some u else s.namespaces p }))

after_prefix : (s : Scope) (q : List ℕ) (u : Namespace) → AfterPrefix s q u (with_prefix q u s)
after_prefix s q u = by (may_stand_for q u) (is_none (s.namespaces q)) refl where
  by : (b c : Bool) → is_none (s.namespaces q) ≡ c
      → AfterPrefix s q u
      (if b then ((if c then Some (λ p. if bytes_eq q p then Some u else s.namespaces p) else None) >>= λ all. Some (record s { namespaces = all })) else None)
  by false c e = no_prefix
  by true false e = no_prefix
  by true true e = prefix_new e

-- a datatype prefix
data AfterDatatypes (s : Scope) (q u : List ℕ) : Option Scope → Type 0 where
  no_datatypes : AfterDatatypes s q u None
  datatypes_new : is_none (s.datatypes q) ≡ true → AfterDatatypes s q u (Some (record s { datatypes = λ p. if bytes_eq q p then Some u else s.datatypes p }))

after_datatypes : (s : Scope) (q u : List ℕ) → AfterDatatypes s q u (with_datatypes q u s)
after_datatypes s q u = by (may_stand_for_types q u) (is_none (s.datatypes q)) refl where
  by : (b c : Bool) → is_none (s.datatypes q) ≡ c
      → AfterDatatypes s q u
      (if b then ((if c then Some (λ p. if bytes_eq q p then Some u else s.datatypes p) else None) >>= λ all. Some (record s { datatypes = all })) else None)
  by false c e = no_datatypes
  by true false e = no_datatypes
  by true true e = datatypes_new e

-- the default namespace
data AfterDefault (s : Scope) (u : Namespace) : Option Scope → Type 0 where
  no_default : AfterDefault s u None
  default_new : s.default ≡ None → AfterDefault s u (Some (record s { default = Some u }))

after_default : (s : Scope) (u : Namespace) → AfterDefault s u (with_default u s)
after_default s u = by s.default refl where
  by : (o : Option Namespace) → s.default ≡ o → AfterDefault s u (option_none_else o (Some (record s { default = Some u })))
  by None e = default_new e
  by (Some v) e = no_default

default_there : (s : Scope) (u v : Namespace) → u ≡ v → s.default ≡ None → u ≡ option_or v s.default
default_there s u v same e = same ∙ sym (ap (option_or v) e)

prefix_declared : (s : Scope) (q : List ℕ) (u : syntax.Uri) (o : Option Scope) → AfterPrefix s q (uri_of u) o → AfterDeclaration s (syntax.namespace q u) o
prefix_declared s q u None no_prefix = refused
prefix_declared s q u (Some m) (prefix_new new) = moved (record {
  default = λ ds. refl;
  namespaces = λ ds p. entry s.namespaces q new (uri_of u) (namespace_of u) (declared_namespace ds p) (same_namespace u) p;
  datatypes = λ ds p. refl;
})

datatypes_declared : (s : Scope) (q u : List ℕ) (o : Option Scope) → AfterDatatypes s q u o → AfterDeclaration s (syntax.datatypes q u) o
datatypes_declared s q u None no_datatypes = refused
datatypes_declared s q u (Some m) (datatypes_new new) = moved (record {
  default = λ ds. refl;
  namespaces = λ ds p. refl;
  datatypes = λ ds p. entry s.datatypes q new u u (declared_library ds p) refl p;
})

default_declared : (s : Scope) (u : syntax.Uri) (o : Option Scope) → AfterDefault s (uri_of u) o → AfterDeclaration s (syntax.default_namespace None u) o
default_declared s u None no_default = refused
default_declared s u (Some m) (default_new new) = moved (record {
  default = λ ds. default_there s (uri_of u) (namespace_of u) (same_namespace u) new;
  namespaces = λ ds p. refl;
  datatypes = λ ds p. refl;
})

-- the default namespace and a prefix
both_declared : (s : Scope) (q : List ℕ) (u : syntax.Uri) (o : Option Scope) → AfterDefault s (uri_of u) o
    → AfterDeclaration s (syntax.default_namespace (Some q) u) (o >>= λ m. with_prefix q (uri_of u) m)
both_declared s q u None no_default = refused
both_declared s q u (Some m) (default_new new) = by (with_prefix q (uri_of u) m) (after_prefix m q (uri_of u)) where
  by : (o : Option Scope) → AfterPrefix m q (uri_of u) o → AfterDeclaration s (syntax.default_namespace (Some q) u) o
  by None no_prefix = refused
  by (Some r) (prefix_new absent) = moved (record {
    default = λ ds. default_there s (uri_of u) (namespace_of u) (same_namespace u) new;
    namespaces = λ ds p. entry s.namespaces q absent (uri_of u) (namespace_of u) (declared_namespace ds p) (same_namespace u) p;
    datatypes = λ ds p. refl;
  })

after_declaration : (s : Scope) (d : Declaration) → AfterDeclaration s d (declare s d)
after_declaration s (syntax.namespace q u) = prefix_declared s q u (with_prefix q (uri_of u) s) (after_prefix s q (uri_of u))
after_declaration s (syntax.default_namespace None u) = default_declared s u (with_default (uri_of u) s) (after_default s (uri_of u))
after_declaration s (syntax.default_namespace (Some q) u) = both_declared s q u (with_default (uri_of u) s) (after_default s (uri_of u))
after_declaration s (syntax.datatypes q u) = datatypes_declared s q u (with_datatypes q u s) (after_datatypes s q u)

data AfterDeclarations (s : Scope) (ds : List Declaration) : Option Scope → Type 0 where
  all_refused : AfterDeclarations s ds None
  all_found : {r : Scope} → IsFound s r ds → AfterDeclarations s ds (Some r)

itself : {A : Type 0} (o : Option A) (a : A) → Says o (option_or a o)
itself None a = says_none
itself (Some x) a = says_this refl

found_before : (s m r : Scope) (d : Declaration) (ds : List Declaration) → IsMoved s m d → IsFound m r ds → IsFound s r (d ∷ ds)
found_before s m r d ds move is = record {
  default = is.default ∙ move.default ds;
  namespaces = λ p. subst (Says (r.namespaces p)) (move.namespaces ds p) (is.namespaces p);
  datatypes = λ p. subst (Says (r.datatypes p)) (move.datatypes ds p) (is.datatypes p);
}

found_behind : (s m : Scope) (d : Declaration) (ds : List Declaration) → IsMoved s m d → (o : Option Scope) → AfterDeclarations m ds o
    → AfterDeclarations s (d ∷ ds) o
found_behind s m d ds move None all_refused = all_refused
found_behind s m d ds move (Some r) (all_found is) = all_found (found_before s m r d ds move is)

after_both : (s : Scope) (d : Declaration) (ds : List Declaration) → ((m : Scope) → AfterDeclarations m ds (declare_all m ds)) → (o : Option Scope)
    → AfterDeclaration s d o → AfterDeclarations s (d ∷ ds) (o >>= λ m. declare_all m ds)
after_both s d ds rest None refused = all_refused
after_both s d ds rest (Some m) (moved move) = found_behind s m d ds move (declare_all m ds) (rest m)

after_declarations : (ds : List Declaration) (s : Scope) → AfterDeclarations s ds (declare_all s ds)
after_declarations [] s = all_found (record {
  default = refl;
  namespaces = λ p. itself (s.namespaces p) inherited;
  datatypes = λ p. itself (s.datatypes p) [];
})
after_declarations (d ∷ ds) s = after_both s d ds (λ m. after_declarations ds m) (declare s d) (after_declaration s d)

-- ---- the parts of a tree

module _ (s : Scope) (ds : List Declaration) (is : IsFound nothing_declared s ds) where
  default_same : default_of s ≡ declared_default ds
  default_same = is.default

  says_namespace : (p : List ℕ) → Says (namespace_in s p) (namespace_by ds p)
  says_namespace p = by (bytes_eq p (codes "xml")) where
    by : (b : Bool) → Says (if b then Some (given xml_uri) else s.namespaces p) (if b then given xml_uri else declared_namespace ds p)
    by true = says_this refl
    by false = is.namespaces p

  says_library : (p : List ℕ) → Says (library_in s p) (library_by ds p)
  says_library p = by (bytes_eq p (codes "xsd")) where
    by : (b : Bool) → Says (if b then Some xsd_uri else s.datatypes p) (if b then xsd_uri else declared_library ds p)
    by true = says_this refl
    by false = is.datatypes p

  says_name : (ns : Namespace) (n : syntax.NameAt written) → Says (name_in s ns n) (name_by ds ns n)
  says_name ns (syntax.unprefixed l) = says_this refl
  says_name ns (syntax.prefixed p l) = one (namespace_in s p) (namespace_by ds p) (λ u. record { namespace = u; local = l }) (says_namespace p)

  mutual
    says_class : (ns : Namespace) (c : syntax.NameClassAt written) → Says (class_in s ns c) (class_by ds ns c)
    says_class ns syntax.any_name = says_this refl
    says_class ns (syntax.any_except c) = one (class_in s ns c) (class_by ds ns c) syntax.any_except (says_class ns c)
    says_class ns (syntax.ns_name p) = one (namespace_in s p) (namespace_by ds p) syntax.ns_name (says_namespace p)
    says_class ns (syntax.ns_except p c) =
        two (namespace_in s p) (class_in s ns c) (namespace_by ds p) (class_by ds ns c) syntax.ns_except (says_namespace p) (says_class ns c)
    says_class ns (syntax.name_is n) = one (name_in s ns n) (name_by ds ns n) syntax.name_is (says_name ns n)
    says_class ns (syntax.one_of cs) = one (classes_in s ns cs) (classes_by ds ns cs) syntax.one_of (says_classes ns cs)

    says_classes : (ns : Namespace) (cs : syntax.NameClassesAt written) → Says (classes_in s ns cs) (classes_by ds ns cs)
    says_classes ns syntax.no_classes = says_this refl
    says_classes ns (syntax.class_and c cs) =
        two (class_in s ns c) (classes_in s ns cs) (class_by ds ns c) (classes_by ds ns cs) syntax.class_and (says_class ns c) (says_classes ns cs)

  says_type : (d : syntax.DatatypeName written) → Says (type_in s d) (type_by ds d)
  says_type syntax.string_type = says_this refl
  says_type syntax.token_type = says_this refl
  says_type (syntax.prefixed_type p l) = one (library_in s p) (library_by ds p) (λ u. record { library = u; name = l }) (says_library p)

  says_passed : (i : Option (List ℕ)) → Says (handed_on s i) (passed_on ds i)
  says_passed None = says_this default_same
  says_passed (Some p) = says_namespace p

  says_mention : (m : syntax.Mention written) → Says (mention_in s m) (mention_by ds m)
  says_mention m = one (handed_on s m.inherit) (passed_on ds m.inherit) (λ u. record { href = m.href; inherit = u; token = m.token }) (says_passed m.inherit)

  says_element_class : (c : syntax.NameClassAt written) → Says (class_in s (default_of s) c) (class_by ds (declared_default ds) c)
  says_element_class c = subst (λ ns. Says (class_in s (default_of s) c) (class_by ds ns c)) default_same (says_class (default_of s) c)

  mutual
    says_pattern : (p : syntax.PatternAt written) → Says (pattern_in s p) (pattern_by ds p)
    says_pattern (syntax.element c p) =
        two (class_in s (default_of s) c) (pattern_in s p) (class_by ds (declared_default ds) c) (pattern_by ds p) syntax.element (says_element_class c)
        (says_pattern p)
    says_pattern (syntax.attribute c p) =
        two (class_in s (given []) c) (pattern_in s p) (class_by ds (given []) c) (pattern_by ds p) syntax.attribute (says_class (given []) c) (says_pattern p)
    says_pattern (syntax.list p) = one (pattern_in s p) (pattern_by ds p) syntax.list (says_pattern p)
    says_pattern (syntax.mixed p) = one (pattern_in s p) (pattern_by ds p) syntax.mixed (says_pattern p)
    says_pattern (syntax.optional p) = one (pattern_in s p) (pattern_by ds p) syntax.optional (says_pattern p)
    says_pattern (syntax.zero_or_more p) = one (pattern_in s p) (pattern_by ds p) syntax.zero_or_more (says_pattern p)
    says_pattern (syntax.one_or_more p) = one (pattern_in s p) (pattern_by ds p) syntax.one_or_more (says_pattern p)
    says_pattern (syntax.ref n) = says_this refl
    says_pattern (syntax.parent_ref n) = says_this refl
    says_pattern syntax.empty = says_this refl
    says_pattern syntax.text = says_this refl
    says_pattern syntax.not_allowed = says_this refl
    says_pattern (syntax.value d v) = one (type_in s d) (type_by ds d) (λ d. syntax.value d v) (says_type d)
    says_pattern (syntax.data_of d ps) = one (type_in s d) (type_by ds d) (λ d. syntax.data_of d ps) (says_type d)
    says_pattern (syntax.data_except d ps p) =
        two (type_in s d) (pattern_in s p) (type_by ds d) (pattern_by ds p) (λ d p. syntax.data_except d ps p) (says_type d) (says_pattern p)
    says_pattern (syntax.external m) = one (mention_in s m) (mention_by ds m) syntax.external (says_mention m)
    says_pattern (syntax.grammar cs) = one (components_in s cs) (components_by ds cs) syntax.grammar (says_components cs)
    says_pattern (syntax.joined k ps) = one (patterns_in s ps) (patterns_by ds ps) (syntax.joined k) (says_patterns ps)

    says_patterns : (ps : syntax.PatternsAt written) → Says (patterns_in s ps) (patterns_by ds ps)
    says_patterns syntax.no_patterns = says_this refl
    says_patterns (syntax.pattern_and p ps) =
        two (pattern_in s p) (patterns_in s ps) (pattern_by ds p) (patterns_by ds ps) syntax.pattern_and (says_pattern p) (says_patterns ps)

    says_component : (c : syntax.ComponentAt written) → Says (component_in s c) (component_by ds c)
    says_component (syntax.start m p) = one (pattern_in s p) (pattern_by ds p) (syntax.start m) (says_pattern p)
    says_component (syntax.define n m p) = one (pattern_in s p) (pattern_by ds p) (syntax.define n m) (says_pattern p)
    says_component (syntax.div cs) = one (components_in s cs) (components_by ds cs) syntax.div (says_components cs)
    says_component (syntax.include m cs) =
        two (mention_in s m) (components_in s cs) (mention_by ds m) (components_by ds cs) syntax.include (says_mention m) (says_components cs)

    says_components : (cs : syntax.ComponentsAt written) → Says (components_in s cs) (components_by ds cs)
    says_components syntax.no_components = says_this refl
    says_components (syntax.component_and c cs) =
        two (component_in s c) (components_in s cs) (component_by ds c) (components_by ds cs) syntax.component_and (says_component c) (says_components cs)

  says_body : (b : syntax.Body) → Says (body_in s b) (body_by ds b)
  says_body (syntax.pattern_body p) = one (pattern_in s p) (pattern_by ds p) tree.pattern_file (says_pattern p)
  says_body (syntax.grammar_body cs) = one (components_in s cs) (components_by ds cs) tree.grammar_file (says_components cs)

-- ---- files

says_file : (f : syntax.File) → Says (file_tree f) (tree_of_file f)
unfolding file_tree
says_file f = by (declare_all nothing_declared f.declarations) (after_declarations f.declarations nothing_declared) where
  by : (o : Option Scope) → AfterDeclarations nothing_declared f.declarations o → Says (o >>= λ s. body_in s f.body) (tree_of_file f)
  by None all_refused = says_none
  by (Some s) (all_found is) = says_body s f.declarations is f.body

-- a tree that is made step by step is the tree
pub applied_where_made : (f : syntax.File) (t : FileTree) → file_tree f ≡ Some t → tree_of_file f ≡ t
applied_where_made f t e = by (file_tree f) (says_file f) e where
  by : (o : Option FileTree) → Says o (tree_of_file f) → o ≡ Some t → tree_of_file f ≡ t
  by None says e = absurd (cc)
  by (Some u) (says_this same) e = cc

-- if no rule is broken, the tree is made step by step
pub made_where_applied : (f : syntax.File) (t : FileTree) → ¬ (BreaksDeclarationRule f) → tree_of_file f ≡ t → file_tree f ≡ Some t
made_where_applied f t kept e = by (file_tree f) refl (says_file f) where
  by : (o : Option FileTree) → file_tree f ≡ o → Says o (tree_of_file f) → file_tree f ≡ Some t
  by None none says = absurd (kept (broken_where_none f none))
  by (Some u) some (says_this same) = some ∙ ap Some (same ∙ e)
