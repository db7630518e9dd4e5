-- The declarations and the prefixes of the printed lines break no rule.
use Rattle.std.proofs.Common.{◌≡◌, ◌≢◌, ◌∙◌, ◌⊎◌, inl, inr, ℕ, Bool, true, false, cond, List, [], ◌∷◌, ◌++◌, map, refl, sym, ap, subst, arith, codes}
use Rattle.std.specs.List.{AllByRecursion}
use Rattle.std.specs.Str.{bytes_eq}
use Rattle.std.proofs.lemmas.Bool.{false≢true}
use Rattle.rng_model.proofs.Texts.{bytes_itself}
use Rattle.rng_model.specs.names.Lists.{Among, here, there}
use Rattle.rng_model.specs.names.Names as names
use Rattle.rng_model.specs.simple.Tree.{Simple, s_not_allowed, s_empty, s_text, s_leaf, s_attribute, s_list, s_data, s_data_except, s_value, s_one_or_more}
use Rattle.rng_model.specs.simple.Tree.{s_joined}
use Rattle.rng_model.specs.simple.Grammar.{Grammar}
use Rattle.rng_model.specs.declared.method.Method.TheVariants as methods
use Rattle.rncv_model.specs.printed.Items.{PrintedItem, element, pattern, element_at}
use Rattle.rncv_model.specs.printed.PrintedText.{item_name, namespace_if_any, namespaces_in, namespaces_among, namespaces_of}
use Rattle.rncv_model.specs.printed.Words.{prefix_of}
use Rattle.rnc_model.specs.grammar.Syntax as syntax
use Rattle.rnc_model.specs.grammar.Syntax.{written}
use Rattle.rnc_model.specs.declarations.DeclarationRules.{Declarable, namespace_prefix, datatype_prefix, declared_in, IsTwiceIn, at_first, later}
use Rattle.rnc_model.specs.declarations.DeclarationRules.{BreaksDeclarationRule, namespace_prefix_twice, datatype_prefix_twice, default_namespace_twice}
use Rattle.rnc_model.specs.declarations.DeclarationRules.{xml_as_another}
use Rattle.rnc_model.specs.declarations.DeclarationRules.{xsd_as_another, xmlns_declared, namespace_prefix_undeclared, datatype_prefix_undeclared}
use Rattle.rnc_model.specs.declarations.DeclarationRules.{prefixes_of_name, prefixes_of_class, prefixes_of_classes, prefixes_of_type, prefixes_of_pattern}
use Rattle.rnc_model.specs.declarations.DeclarationRules.{prefixes_of_components, prefixes_of_body}
use Rattle.rnc_print_laws.specs.plain.LinesSyntax as lines
use Rattle.rnc_print.proofs.Numberings.{all_append}
use Rattle.rnc_print_laws.proofs.ReadBack.ResolvedPrefixes.{HasOtherPrefix, HaveDistinctPrefixes}

among_all : {A : Type 0} (P : A → Type 0) {x : A} {xs : List A} → Among x xs → AllByRecursion P xs → P x
among_all P here h = h.0
among_all P (there a) h = among_all P a h.1

module _ (ns : List (List ℕ)) where
  -- ---- what is declared

  abbrev pub declaration_of : List ℕ → Declarable × syntax.Uri
  declaration_of u = (namespace_prefix (prefix_of ns u), syntax.literal u)

  abbrev pub declared : List (List ℕ) → List (Declarable × syntax.Uri)
  declared us = declared_in (map (λ u. syntax.namespace (prefix_of ns u) (syntax.literal u)) us)

  -- what holds for the declaration of each namespace holds for all that is declared
  each_declared : (P : Declarable × syntax.Uri → Type 0) (us : List (List ℕ)) → AllByRecursion (λ u. P (declaration_of u)) us → AllByRecursion P (declared us)
  each_declared P [] h = tt
  each_declared P (u ∷ us) h = (h.0, each_declared P us h.1)

  -- each namespace is declared
  all_declared : (P : Declarable × syntax.Uri → Type 0) (us : List (List ℕ)) → ((e : Declarable × syntax.Uri) → Among e (declared us) → P e)
      → AllByRecursion (λ u. P (declaration_of u)) us
  all_declared P [] f = tt
  all_declared P (u ∷ us) f = (f (declaration_of u) here, all_declared P us (λ e a. f e (there a)))

  always : (P : List ℕ → Type 0) → ((u : List ℕ) → P u) → (us : List (List ℕ)) → AllByRecursion P us
  always P f [] = tt
  always P f (u ∷ us) = (f u, always P f us)

  -- ---- no rule about declarations is broken

  same_prefix : (p q : List ℕ) → bytes_eq p q ≡ false → namespace_prefix p ≡ namespace_prefix q → ⊥
  same_prefix p q e same = let s : p ≡ q = cc in false≢true (sym e ∙ ap (bytes_eq p) (sym s) ∙ bytes_itself p)

  prefixes_apart : (u : List ℕ) (us : List (List ℕ)) → AllByRecursion (HasOtherPrefix ns u) us
      → AllByRecursion (λ v. namespace_prefix (prefix_of ns u) ≡ namespace_prefix (prefix_of ns v) → ⊥) us
  prefixes_apart u [] h = tt
  prefixes_apart u (v ∷ us) h = (same_prefix (prefix_of ns u) (prefix_of ns v) h.0, prefixes_apart u us h.1)

  -- the first one does not occur again
  first_once : (u : List ℕ) (us : List (List ℕ)) → AllByRecursion (HasOtherPrefix ns u) us → (x : Declarable) (v : syntax.Uri)
      → x ≡ namespace_prefix (prefix_of ns u) → Among (x, v) (declared us) → ⊥
  first_once u us h x v is among =
      among_all (λ e. namespace_prefix (prefix_of ns u) ≡ e.0 → ⊥) among
      (each_declared (λ e. namespace_prefix (prefix_of ns u) ≡ e.0 → ⊥) us (prefixes_apart u us h)) (sym is)

  none_twice : (us : List (List ℕ)) → HaveDistinctPrefixes ns us → (x : Declarable) → IsTwiceIn x (declared us) → ⊥
  none_twice [] a x twice = elim twice [ ]
  none_twice (u ∷ us) a x (at_first {v = v} among) = first_once u us a.0 x v refl among
  none_twice (u ∷ us) a x (later twice) = none_twice us a.1 x twice

  -- a prefix begins with `n`
  heads_apart : (c : ℕ) (v w : List ℕ) → c ≢ 0x6E → namespace_prefix (0x6E ∷ v) ≡ namespace_prefix (c ∷ w) → ⊥
  heads_apart c v w n e = n cc

  no_such_prefix : (c : ℕ) (w : List ℕ) → c ≢ 0x6E → (us : List (List ℕ)) (v : syntax.Uri) → Among (namespace_prefix (c ∷ w), v) (declared us) → ⊥
  no_such_prefix c w n us v among =
      among_all (λ e. e.0 ≡ namespace_prefix (c ∷ w) → ⊥) among
      (each_declared (λ e. e.0 ≡ namespace_prefix (c ∷ w) → ⊥) us
      (always (λ u. namespace_prefix (prefix_of ns u) ≡ namespace_prefix (c ∷ w) → ⊥) (λ u e. heads_apart c _ w n e) us)) refl

  kinds_apart : (p q : List ℕ) → namespace_prefix p ≡ datatype_prefix q → ⊥
  kinds_apart p q e = cc

  no_datatypes : (q : List ℕ) (us : List (List ℕ)) (v : syntax.Uri) → Among (datatype_prefix q, v) (declared us) → ⊥
  no_datatypes q us v among =
      among_all (λ e. e.0 ≡ datatype_prefix q → ⊥) among
      (each_declared (λ e. e.0 ≡ datatype_prefix q → ⊥) us
      (always (λ u. namespace_prefix (prefix_of ns u) ≡ datatype_prefix q → ⊥) (λ u e. kinds_apart _ q e) us)) refl

  -- ---- the prefixes in the lines

  module _ (Known : Declarable → Type 0) (xsd : Known (datatype_prefix (codes "xsd"))) where
    abbrev pub KnowsPrefix : List ℕ → Type 0
    KnowsPrefix u = Known (namespace_prefix (prefix_of ns u))

    abbrev pub AllKnown : List Declarable → Type 0
    AllKnown xs = AllByRecursion Known xs

    both_known : (xs ys : List Declarable) → AllKnown xs → AllKnown ys → AllKnown (xs ++ ys)
    both_known xs ys h i = all_append Known xs ys h i

    parts : (us vs : List (List ℕ)) → AllByRecursion KnowsPrefix (us ++ vs) → AllByRecursion KnowsPrefix us × AllByRecursion KnowsPrefix vs
    parts [] vs h = (tt, h)
    parts (u ∷ us) vs h = let r = parts us vs h.1 in ((h.0, r.0), r.1)

    members_known : (t : syntax.NameClassAt written) → AllKnown (prefixes_of_class t) → AllKnown (prefixes_of_classes (syntax.classes_of (lines.members_in t)))
    members_known syntax.any_name h = tt
    members_known (syntax.any_except c) h = both_known (prefixes_of_class c) [] h tt
    members_known (syntax.ns_name p) h = (h.0, tt)
    members_known (syntax.ns_except p c) h = both_known (namespace_prefix p ∷ prefixes_of_class c) [] h tt
    members_known (syntax.name_is n) h = both_known (prefixes_of_name n) [] h tt
    members_known (syntax.one_of cs) h = subst (λ (x : syntax.NameClassesAt written). AllKnown (prefixes_of_classes x)) (sym (listed cs)) h
      where
        listed : (cs : syntax.NameClassesAt written) → syntax.classes_of (lines.list_of cs) ≡ cs
        listed syntax.no_classes = refl
        listed (syntax.class_and c cs) = ap (syntax.class_and c) (listed cs)

    classes_both : (xs ys : List (syntax.NameClassAt written)) → AllKnown (prefixes_of_classes (syntax.classes_of xs))
        → AllKnown (prefixes_of_classes (syntax.classes_of ys))
        → AllKnown (prefixes_of_classes (syntax.classes_of (xs ++ ys)))
    classes_both [] ys h i = i
    classes_both (x ∷ xs) ys h i =
        let r = known_parts (prefixes_of_class x) (prefixes_of_classes (syntax.classes_of xs)) h in
        both_known (prefixes_of_class x) (prefixes_of_classes (syntax.classes_of (xs ++ ys))) r.0 (classes_both xs ys r.1 i)
      where
        known_parts : (xs ys : List Declarable) → AllKnown (xs ++ ys) → AllKnown xs × AllKnown ys
        known_parts [] ys h = (tt, h)
        known_parts (x ∷ xs) ys h = let r = known_parts xs ys h.1 in ((h.0, r.0), r.1)

    name_known : (u l : List ℕ) → AllByRecursion KnowsPrefix (namespace_if_any u) → AllKnown (prefixes_of_name (lines.written_name ns u l))
    name_known [] l h = tt
    name_known (c ∷ u) l h = h

    mutual
      class_known : (c : names.NameClass) → AllByRecursion KnowsPrefix (namespaces_in c) → AllKnown (prefixes_of_class (lines.class_of ns c))
      class_known names.any_name h = tt
      class_known (names.any_except c) h = class_known c h
      class_known (names.ns_name u) h = h
      class_known (names.ns_except u c) h = (h.0, class_known c h.1)
      class_known (names.name_is n) h = name_known n.ns n.local h
      class_known (names.one_of c d cs) h =
          let a = parts (namespaces_in c) (namespaces_in d ++ namespaces_among cs) h in
          let b = parts (namespaces_in d) (namespaces_among cs) a.1 in
          classes_both (lines.members_in (lines.class_of ns c)) (lines.class_of ns d ∷ lines.classes_of ns cs)
          (members_known (lines.class_of ns c) (class_known c a.0))
          (both_known (prefixes_of_class (lines.class_of ns d)) (prefixes_of_classes (syntax.classes_of (lines.classes_of ns cs))) (class_known d b.0)
          (classes_known cs b.1))

      classes_known : (cs : names.NameClasses) → AllByRecursion KnowsPrefix (namespaces_among cs)
          → AllKnown (prefixes_of_classes (syntax.classes_of (lines.classes_of ns cs)))
      classes_known names.no_classes h = tt
      classes_known (names.class_and c cs) h =
          let a = parts (namespaces_in c) (namespaces_among cs) h in
          both_known (prefixes_of_class (lines.class_of ns c)) (prefixes_of_classes (syntax.classes_of (lines.classes_of ns cs))) (class_known c a.0)
          (classes_known cs a.1)

    type_known : (library name : List ℕ) → AllKnown (prefixes_of_type (lines.type_of library name))
    type_known library name = at_tests (bytes_eq library []) (bytes_eq name (codes "string"))
      where
        at_tests : (a b : Bool) → AllKnown (prefixes_of_type (cond a (cond b syntax.string_type syntax.token_type) (syntax.prefixed_type (codes "xsd") name)))
        at_tests true true = tt
        at_tests true false = tt
        at_tests false b = (xsd, tt)

    reference_known : (items : List PrintedItem) (a : Simple ℕ) → AllKnown (prefixes_of_pattern (lines.reference_of items a))
    reference_known items s_not_allowed = tt
    reference_known items s_empty = tt
    reference_known items s_text = tt
    reference_known items (s_leaf e) = tt
    reference_known items (s_data d) = type_known d.library d.name
    reference_known items (s_value d v) = type_known d.library d.name
    reference_known items (s_attribute c a) = tt
    reference_known items (s_list a) = tt
    reference_known items (s_data_except d a) = tt
    reference_known items (s_one_or_more a) = tt
    reference_known items (s_joined j a b) = tt

    with_class : (items : List PrintedItem) (c : names.NameClass) (a : Simple ℕ) → AllByRecursion KnowsPrefix (namespaces_in c)
        → AllKnown (prefixes_of_class (lines.class_of ns c) ++ prefixes_of_pattern (lines.reference_of items a))
    with_class items c a h =
        both_known (prefixes_of_class (lines.class_of ns c)) (prefixes_of_pattern (lines.reference_of items a)) (class_known c h) (reference_known items a)

    item_known : (g : Grammar) (items : List PrintedItem) (i : PrintedItem) → AllByRecursion KnowsPrefix (namespaces_of g i)
        → AllKnown (prefixes_of_pattern (lines.item_pattern g ns items i))
    item_known g items (element e) h = with_class items (element_at g e).0 (element_at g e).1 h
    item_known g items (pattern s_not_allowed) h = tt
    item_known g items (pattern s_empty) h = tt
    item_known g items (pattern s_text) h = tt
    item_known g items (pattern (s_leaf e)) h = tt
    item_known g items (pattern (s_data d)) h = reference_known items (s_data d)
    item_known g items (pattern (s_value d v)) h = reference_known items (s_value d v)
    item_known g items (pattern (s_attribute c a)) h = with_class items c a h
    item_known g items (pattern (s_list a)) h = reference_known items a
    item_known g items (pattern (s_data_except d a)) h =
        both_known (prefixes_of_type (lines.type_of d.library d.name)) (prefixes_of_pattern (lines.reference_of items a)) (type_known d.library d.name)
        (reference_known items a)
    item_known g items (pattern (s_one_or_more a)) h = reference_known items a
    item_known g items (pattern (s_joined j a b)) h =
        both_known (prefixes_of_pattern (lines.reference_of items a)) (prefixes_of_pattern (lines.reference_of items b) ++ []) (reference_known items a)
        (both_known (prefixes_of_pattern (lines.reference_of items b)) [] (reference_known items b) tt)

    abbrev defines : Grammar → List PrintedItem → List PrintedItem → List (syntax.ComponentAt written)
    defines g items some = map (λ i. syntax.define (item_name items i) methods.Plain (lines.item_pattern g ns items i)) some

    defines_known : (g : Grammar) (items some : List PrintedItem) → AllByRecursion (λ i. AllByRecursion KnowsPrefix (namespaces_of g i)) some
        → AllKnown (prefixes_of_components (syntax.components_of (defines g items some)))
    defines_known g items [] h = tt
    defines_known g items (i ∷ some) h =
        both_known (prefixes_of_pattern (lines.item_pattern g ns items i)) (prefixes_of_components (syntax.components_of (defines g items some)))
        (item_known g items i h.0) (defines_known g items some h.1)

    body_known : (g : Grammar) (items : List PrintedItem) → AllByRecursion (λ i. AllByRecursion KnowsPrefix (namespaces_of g i)) items
        → AllKnown (prefixes_of_body (lines.file g ns items).body)
    body_known g items h =
        both_known (prefixes_of_pattern (lines.reference_of items g.start)) (prefixes_of_components (syntax.components_of (defines g items items)))
        (reference_known items g.start) (defines_known g items items h)

  -- ---- all rules

  -- it is declared, or it is `xsd`
  abbrev IsServed : Declarable → Type 0
  IsServed x = (x ≡ datatype_prefix (codes "xsd")) ⊎ ((u : syntax.Uri) × Among (x, u) (declared ns))

  module _ (g : Grammar) (items : List PrintedItem) (apart : HaveDistinctPrefixes ns ns)
      (serves : (P : List ℕ → Type 0) → AllByRecursion P ns → AllByRecursion (λ i. AllByRecursion P (namespaces_of g i)) items) where
    served : (x : Declarable) → Among x (prefixes_of_body (lines.file g ns items).body) → IsServed x
    served x among =
        let each = all_declared (λ e. IsServed e.0) ns (λ e a. inr (e.1, a)) in
        among_all IsServed among (body_known IsServed (inl refl) g items (serves (λ u. IsServed (namespace_prefix (prefix_of ns u))) each))

    namespace_served : (p : List ℕ) → IsServed (namespace_prefix p) → ((u : syntax.Uri) → ¬ (Among (namespace_prefix p, u) (declared ns))) → ⊥
    namespace_served p (inl e) none = kinds_apart p (codes "xsd") e
    namespace_served p (inr (u, a)) none = none u a

    datatype_served : (p : List ℕ) → p ≢ codes "xsd" → IsServed (datatype_prefix p) → ((u : syntax.Uri) → ¬ (Among (datatype_prefix p, u) (declared ns))) → ⊥
    datatype_served p n (inl e) none = n cc
    datatype_served p n (inr (u, a)) none = none u a

    -- the file of the lines breaks no rule about declarations
    pub rules_kept : ¬ (BreaksDeclarationRule (lines.file g ns items))
    rules_kept (namespace_prefix_twice twice) = none_twice ns apart _ twice
    rules_kept (datatype_prefix_twice twice) = none_twice ns apart _ twice
    rules_kept (default_namespace_twice twice) = none_twice ns apart _ twice
    rules_kept (xml_as_another {u} is n) = no_such_prefix 0x78 (codes "ml") (λ e. omega (arith, e)) ns u is
    rules_kept (xsd_as_another {u} is n) = no_datatypes (codes "xsd") ns u is
    rules_kept (xmlns_declared {u} is) = no_such_prefix 0x78 (codes "mlns") (λ e. omega (arith, e)) ns u is
    rules_kept (namespace_prefix_undeclared {p} stands n none) = namespace_served p (served (namespace_prefix p) stands) none
    rules_kept (datatype_prefix_undeclared {p} stands n none) = datatype_served p n (served (datatype_prefix p) stands) none
