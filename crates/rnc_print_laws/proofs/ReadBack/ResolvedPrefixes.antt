-- Applying the declarations of the printed lines gives each prefix its namespace, and breaks no rule.
use Rattle.std.proofs.Common.{◌≡◌, ◌∙◌, ◌⊎◌, inl, inr, ℕ, false, List, [], ◌∷◌, ◌++◌, map, refl, sym, ap, subst, Some, None, codes}
use Rattle.std.specs.Prelude.{cond}
use Rattle.std.specs.List.{AllByRecursion}
use Rattle.std.specs.Str.{bytes_eq}
use Rattle.rng_model.proofs.Texts.{bytes_itself}
use Rattle.rng_model.specs.names.Names as names
use Rattle.rng_model.specs.simple.Tree.{Simple, s_not_allowed, s_empty, s_text, s_leaf, s_attribute, s_list, s_data, s_data_except, s_value, s_one_or_more}
use Rattle.rng_model.specs.simple.Tree.{s_joined}
use Rattle.rng_model.specs.simple.Grammar.{Grammar}
use Rattle.rng_model.specs.declared.method.Method.TheVariants as methods
use Rattle.rnc_model.specs.grammar.Syntax as syntax
use Rattle.rnc_model.specs.grammar.Syntax.{applied, written, Namespace, inherited, given}
use Rattle.rnc_model.specs.declarations.Declarations.{Scope, class_in, classes_in, pattern_in, components_in, type_in, name_in, namespace_in, default_of}
use Rattle.rnc_model.specs.declarations.Declarations.{nothing_declared, declare, declare_all, file_tree}
use Rattle.rncv_model.specs.printed.Items.{PrintedItem, element, pattern, element_at}
use Rattle.rncv_model.specs.printed.PrintedText.{item_name, namespaces_in, namespaces_among, namespace_if_any, namespaces_of}
use Rattle.rncv_model.specs.printed.Words.{prefix_of}
use Rattle.rnc_print_laws.specs.plain.Printable.{CanBeNamed}
use Rattle.rnc_print_laws.specs.plain.LinesSyntax as lines
use Rattle.rnc_print_laws.specs.plain.LinesTree as trees
use Rattle.rnc_print.proofs.SameTests.{bytes_other_way}
use Rattle.rnc_print.proofs.Numberings.{all_parts}
use Rattle.rnc_print_laws.proofs.ReadBack.LineSentences.{KnowsType, KnowsTypes, KnowsItem}

-- what a scope has for the prefix of a namespace
abbrev pub Knows : Scope → List (List ℕ) → List ℕ → Type 0
Knows s ns u = s.namespaces (prefix_of ns u) ≡ Some (given u)

-- each of these namespaces is declared
abbrev pub KnowsAll : Scope → List (List ℕ) → List (List ℕ) → Type 0
KnowsAll s ns us = AllByRecursion (Knows s ns) us

-- no prefix is `xml`
prefix_in : (s : Scope) (ns : List (List ℕ)) (u : List ℕ) → Knows s ns u → namespace_in s (prefix_of ns u) ≡ Some (given u)
prefix_in s ns u k = k

-- ---- name classes

listed : (cs : List (syntax.NameClassAt written)) → lines.list_of (syntax.classes_of cs) ≡ cs
listed [] = refl
listed (c ∷ cs) = ap (λ (x : List (syntax.NameClassAt written)). c ∷ x) (listed cs)

tree_listed : (cs : List (syntax.NameClassAt applied)) → trees.list_of (syntax.classes_of cs) ≡ cs
tree_listed [] = refl
tree_listed (c ∷ cs) = ap (λ (x : List (syntax.NameClassAt applied)). c ∷ x) (tree_listed cs)

-- the first classes, resolved, are the second ones
abbrev Become : Scope → Namespace → List (syntax.NameClassAt written) → List (syntax.NameClassAt applied) → Type 0
Become s d [] [] = Unit {0}
Become s d (x ∷ xs) (u ∷ us) = (class_in s d x ≡ Some u) × Become s d xs us
Become s d [] (u ∷ us) = ⊥
Become s d (x ∷ xs) [] = ⊥

both_become : (s : Scope) (d : Namespace) (xs ys : List (syntax.NameClassAt written)) (us vs : List (syntax.NameClassAt applied)) → Become s d xs us
    → Become s d ys vs → Become s d (xs ++ ys) (us ++ vs)
both_become s d [] ys [] vs e f = f
both_become s d (x ∷ xs) ys (u ∷ us) vs e f = (e.0, both_become s d xs ys us vs e.1 f)
both_become s d [] ys (u ∷ us) vs e f = absurd e
both_become s d (x ∷ xs) ys [] vs e f = absurd e

all_become : (s : Scope) (d : Namespace) (xs : List (syntax.NameClassAt written)) (us : List (syntax.NameClassAt applied)) → Become s d xs us
    → classes_in s d (syntax.classes_of xs) ≡ Some (syntax.classes_of us)
all_become s d [] [] e = refl
all_become s d (x ∷ xs) (u ∷ us) e = rw (e.0, all_become s d xs us e.1) refl
all_become s d [] (u ∷ us) e = absurd e
all_become s d (x ∷ xs) [] e = absurd e

name_found : (s : Scope) (ns : List (List ℕ)) (d : Namespace) (u l : List ℕ) → KnowsAll s ns (namespace_if_any u)
    → name_in s d (lines.written_name ns u l) ≡ Some (trees.name_of d u l)
name_found s ns d [] l k = refl
name_found s ns d (c ∷ u) l k = rw k.0 refl

-- the members of a choice
choice_found : (s : Scope) (ns : List (List ℕ)) (d : Namespace) (c e : names.NameClass) (cs : names.NameClasses)
    → KnowsAll s ns (namespaces_in c ++ (namespaces_in e ++ namespaces_among cs))
    → (KnowsAll s ns (namespaces_in c) → Become s d (lines.members_in (lines.class_of ns c)) (trees.members_in (trees.class_of d c)))
    → (KnowsAll s ns (namespaces_in e) → class_in s d (lines.class_of ns e) ≡ Some (trees.class_of d e))
    → (KnowsAll s ns (namespaces_among cs) → Become s d (lines.classes_of ns cs) (trees.classes_of d cs))
    → Become s d (lines.members_in (lines.class_of ns c) ++ lines.class_of ns e ∷ lines.classes_of ns cs)
    (trees.members_in (trees.class_of d c) ++ trees.class_of d e ∷ trees.classes_of d cs)
choice_found s ns d c e cs k first second others =
    let a = all_parts (Knows s ns) (namespaces_in c) (namespaces_in e ++ namespaces_among cs) k in
    let b = all_parts (Knows s ns) (namespaces_in e) (namespaces_among cs) a.1 in
    both_become s d (lines.members_in (lines.class_of ns c)) (lines.class_of ns e ∷ lines.classes_of ns cs) (trees.members_in (trees.class_of d c))
    (trees.class_of d e ∷ trees.classes_of d cs) (first a.0) (second b.0, others b.1)

mutual
  class_found : (s : Scope) (ns : List (List ℕ)) (d : Namespace) (c : names.NameClass) → KnowsAll s ns (namespaces_in c)
      → class_in s d (lines.class_of ns c) ≡ Some (trees.class_of d c)
  class_found s ns d names.any_name k = refl
  class_found s ns d (names.any_except c) k = rw (class_found s ns d c k) refl
  class_found s ns d (names.ns_name u) k = rw k.0 refl
  class_found s ns d (names.ns_except u c) k = rw (k.0, class_found s ns d c k.1) refl
  class_found s ns d (names.name_is n) k = rw (name_found s ns d n.ns n.local k) refl
  class_found s ns d (names.one_of c e cs) k =
      rw (all_become s d _ _ (choice_found s ns d c e cs k (first_found s ns d c) (class_found s ns d e) (classes_found s ns d cs))) refl

  -- the members of the first member
  first_found : (s : Scope) (ns : List (List ℕ)) (d : Namespace) (c : names.NameClass) → KnowsAll s ns (namespaces_in c)
      → Become s d (lines.members_in (lines.class_of ns c)) (trees.members_in (trees.class_of d c))
  first_found s ns d names.any_name k = (refl, tt)
  first_found s ns d (names.any_except c) k = (rw (class_found s ns d c k) refl, tt)
  first_found s ns d (names.ns_name u) k = (rw k.0 refl, tt)
  first_found s ns d (names.ns_except u c) k = (rw (k.0, class_found s ns d c k.1) refl, tt)
  first_found s ns d (names.name_is n) k = (rw (name_found s ns d n.ns n.local k) refl, tt)
  first_found s ns d (names.one_of c e cs) k =
      rw (
        listed (lines.members_in (lines.class_of ns c) ++ lines.class_of ns e ∷ lines.classes_of ns cs),
        tree_listed
            (trees.members_in (trees.class_of d c) ++ trees.class_of d e ∷ trees.classes_of d cs),
      )
      (choice_found s ns d c e cs k (first_found s ns d c) (class_found s ns d e) (classes_found s ns d cs))

  classes_found : (s : Scope) (ns : List (List ℕ)) (d : Namespace) (cs : names.NameClasses) → KnowsAll s ns (namespaces_among cs)
      → Become s d (lines.classes_of ns cs) (trees.classes_of d cs)
  classes_found s ns d names.no_classes k = tt
  classes_found s ns d (names.class_and c cs) k =
      let a = all_parts (Knows s ns) (namespaces_in c) (namespaces_among cs) k in
      (class_found s ns d c a.0, classes_found s ns d cs a.1)

-- ---- patterns

type_found : (s : Scope) (library name : List ℕ) → CanBeNamed library name
    → type_in s (lines.type_of library name) ≡ Some (record { library = library; name = name })
type_found s library name (inl k) = subst (λ (x : List ℕ). type_in s (lines.type_of x name) ≡ Some (record { library = x; name = name })) (sym k.0) (named k.1)
  where
    named : (name ≡ codes "string") ⊎ (name ≡ codes "token") → type_in s (lines.type_of [] name) ≡ Some (record { library = []; name = name })
    named (inl e) = subst (λ (x : List ℕ). type_in s (lines.type_of [] x) ≡ Some (record { library = []; name = x })) (sym e) refl
    named (inr e) = subst (λ (x : List ℕ). type_in s (lines.type_of [] x) ≡ Some (record { library = []; name = x })) (sym e) refl
type_found s library name (inr k) = subst (λ (x : List ℕ). type_in s (lines.type_of x name) ≡ Some (record { library = x; name = name })) (sym k.0) refl

reference_found : (s : Scope) (items : List PrintedItem) (a : Simple ℕ) → KnowsType a → pattern_in s (lines.reference_of items a) ≡ Some (trees.reference_of items a)
reference_found s items s_not_allowed k = refl
reference_found s items s_empty k = refl
reference_found s items s_text k = refl
reference_found s items (s_leaf e) k = refl
reference_found s items (s_data d) k = rw (type_found s d.library d.name k) refl
reference_found s items (s_value d v) k = rw (type_found s d.library d.name k) refl
reference_found s items (s_attribute c a) k = refl
reference_found s items (s_list a) k = refl
reference_found s items (s_data_except d a) k = refl
reference_found s items (s_one_or_more a) k = refl
reference_found s items (s_joined j a b) k = refl

-- the namespaces in the line of a pattern
abbrev namespaces_at : Simple ℕ → List (List ℕ)
namespaces_at (s_attribute c a) = namespaces_in c
namespaces_at _ = []

pattern_found : (s : Scope) (ns : List (List ℕ)) (items : List PrintedItem) (a : Simple ℕ) → KnowsTypes a → KnowsAll s ns (namespaces_at a)
    → pattern_in s (lines.pattern_of ns items a) ≡ Some (trees.pattern_of items a)
pattern_found s ns items (s_joined j a b) k n = rw (reference_found s items a k.0, reference_found s items b k.1) refl
pattern_found s ns items (s_one_or_more a) k n = rw (reference_found s items a k) refl
pattern_found s ns items (s_list a) k n = rw (reference_found s items a k) refl
pattern_found s ns items (s_attribute c a) k n = rw (class_found s ns (given []) c n, reference_found s items a k) refl
pattern_found s ns items (s_data_except d a) k n = rw (type_found s d.library d.name k.0, reference_found s items a k.1) refl
pattern_found s ns items s_not_allowed k n = refl
pattern_found s ns items s_empty k n = refl
pattern_found s ns items s_text k n = refl
pattern_found s ns items (s_leaf e) k n = refl
pattern_found s ns items (s_data d) k n = reference_found s items (s_data d) k
pattern_found s ns items (s_value d v) k n = reference_found s items (s_value d v) k

item_found : (s : Scope) (g : Grammar) (ns : List (List ℕ)) (items : List PrintedItem) (i : PrintedItem) → default_of s ≡ inherited → KnowsItem g i
    → KnowsAll s ns (namespaces_of g i) → pattern_in s (lines.item_pattern g ns items i) ≡ Some (trees.item_pattern g items i)
item_found s g ns items (element e) d k n = rw (d, class_found s ns inherited (element_at g e).0 n, reference_found s items (element_at g e).1 k) refl
item_found s g ns items (pattern a) d k n = pattern_found s ns items a k (namespaces_there a n)
  where
    namespaces_there : (a : Simple ℕ) → KnowsAll s ns (namespaces_of g (pattern a)) → KnowsAll s ns (namespaces_at a)
    namespaces_there (s_attribute c a) n = n
    namespaces_there s_not_allowed n = tt
    namespaces_there s_empty n = tt
    namespaces_there s_text n = tt
    namespaces_there (s_leaf e) n = tt
    namespaces_there (s_list a) n = tt
    namespaces_there (s_data d) n = tt
    namespaces_there (s_data_except d a) n = tt
    namespaces_there (s_value d v) n = tt
    namespaces_there (s_one_or_more a) n = tt
    namespaces_there (s_joined j a b) n = tt

-- ---- components

defines_found : (s : Scope) (g : Grammar) (ns : List (List ℕ)) (items some : List PrintedItem) → default_of s ≡ inherited → AllByRecursion (KnowsItem g) some
    → AllByRecursion (λ i. KnowsAll s ns (namespaces_of g i)) some
    → components_in s (syntax.components_of (map (λ i. syntax.define (item_name items i) methods.Plain (lines.item_pattern g ns items i)) some))
    ≡ Some (syntax.components_of (map (trees.define_of g items) some))
defines_found s g ns items [] d k n = refl
defines_found s g ns items (i ∷ some) d k n = rw (item_found s g ns items i d k.0 n.0, defines_found s g ns items some d k.1 n.1) refl

components_found : (s : Scope) (g : Grammar) (ns : List (List ℕ)) (items : List PrintedItem) → default_of s ≡ inherited → KnowsType g.start
    → AllByRecursion (KnowsItem g) items → AllByRecursion (λ i. KnowsAll s ns (namespaces_of g i)) items
    → components_in s (syntax.components_of (lines.components g ns items))
    ≡ Some (syntax.components_of (syntax.start methods.Plain (trees.reference_of items g.start) ∷ map (trees.define_of g items) items))
components_found s g ns items d t k n = rw (reference_found s items g.start t, defines_found s g ns items items d k n) refl

-- ---- declarations

-- two of these do not have the same prefix
abbrev pub HasOtherPrefix : List (List ℕ) → List ℕ → List ℕ → Type 0
HasOtherPrefix ns u v = bytes_eq (prefix_of ns u) (prefix_of ns v) ≡ false

abbrev pub HaveDistinctPrefixes : List (List ℕ) → List (List ℕ) → Type 0
HaveDistinctPrefixes ns [] = Unit {0}
HaveDistinctPrefixes ns (u ∷ us) = AllByRecursion (HasOtherPrefix ns u) us × HaveDistinctPrefixes ns us

-- nothing is declared for the prefixes of these
abbrev AreFree : Scope → List (List ℕ) → List (List ℕ) → Type 0
AreFree s ns us = AllByRecursion (λ u. s.namespaces (prefix_of ns u) ≡ None) us

abbrev with_namespace : Scope → List (List ℕ) → List ℕ → Scope
with_namespace s ns u = record s { namespaces = λ q. cond (bytes_eq (prefix_of ns u) q) (Some (given u)) (s.namespaces q) }

one_declared : (s : Scope) (ns : List (List ℕ)) (u : List ℕ) → s.namespaces (prefix_of ns u) ≡ None
    → declare s (syntax.namespace (prefix_of ns u) (syntax.literal u)) ≡ Some (with_namespace s ns u)
one_declared s ns u e = rw e refl

still_free : (s : Scope) (ns : List (List ℕ)) (u : List ℕ) (us : List (List ℕ)) → AllByRecursion (HasOtherPrefix ns u) us → AreFree s ns us
    → AreFree (with_namespace s ns u) ns us
still_free s ns u [] a f = tt
still_free s ns u (v ∷ us) a f = (rw a.0 f.0, still_free s ns u us a.1 f.1)

abbrev lines_declarations : List (List ℕ) → List (List ℕ) → List syntax.Declaration
lines_declarations ns us = map (λ u. syntax.namespace (prefix_of ns u) (syntax.literal u)) us

-- what is declared for a prefix stays
record Declared (s : Scope) (ns us : List (List ℕ)) : Type 0 where
  scope : Scope
  is : declare_all s (lines_declarations ns us) ≡ Some scope
  default : scope.default ≡ s.default
  stays : (q : List ℕ) → AllByRecursion (λ u. bytes_eq (prefix_of ns u) q ≡ false) us → scope.namespaces q ≡ s.namespaces q
  known : KnowsAll scope ns us

apart_other : (ns : List (List ℕ)) (u : List ℕ) (us : List (List ℕ)) → AllByRecursion (HasOtherPrefix ns u) us
    → AllByRecursion (λ v. bytes_eq (prefix_of ns v) (prefix_of ns u) ≡ false) us
apart_other ns u [] a = tt
apart_other ns u (v ∷ us) a = (bytes_other_way (prefix_of ns u) (prefix_of ns v) a.0, apart_other ns u us a.1)

all_declared : (s : Scope) (ns us : List (List ℕ)) → HaveDistinctPrefixes ns us → AreFree s ns us → Declared s ns us
all_declared s ns [] a f = record { scope = s; is = refl; default = refl; stays = λ q h. refl; known = tt }
all_declared s ns (u ∷ us) a f =
    let more = all_declared (with_namespace s ns u) ns us a.1 (still_free s ns u us a.0 f.1) in
    record {
      scope = more.scope;
      is = rw (one_declared s ns u f.0) more.is;
      default = more.default;
      stays = λ q h. more.stays q h.1 ∙ rw h.0 refl;
      known = (more.stays (prefix_of ns u) (apart_other ns u us a.0) ∙ rw (bytes_itself (prefix_of ns u)) refl, more.known);
    }

-- what is declared for all namespaces suffices for some of them
pub file_found : (g : Grammar) (ns : List (List ℕ)) (items : List PrintedItem) → KnowsType g.start → AllByRecursion (KnowsItem g) items → HaveDistinctPrefixes ns ns
    → ((s : Scope) → KnowsAll s ns ns → AllByRecursion (λ i. KnowsAll s ns (namespaces_of g i)) items)
    → file_tree (lines.file g ns items) ≡ Some (trees.lines_tree g items)
unfolding file_tree
file_found g ns items t k a serves =
    let d = all_declared nothing_declared ns ns a (none_free ns ns) in
    rw (d.is, components_found d.scope g ns items (rw d.default refl) t k (serves d.scope d.known)) refl
  where
    none_free : (ns us : List (List ℕ)) → AreFree nothing_declared ns us
    none_free ns [] = tt
    none_free ns (u ∷ us) = (refl, none_free ns us)
