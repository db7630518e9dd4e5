-- The parts of a name class that are not choices are, up to nesting, those of the class whose members are nested in
-- twos. So both break the same rules on name classes.
use Rattle.std.proofs.Common.{◌≡◌, ◌⊎◌, inl, inr, refl, sym, subst, List, ℕ}
use Rattle.rng_model.specs.names.Names.{NameClass, any_name, any_except, ns_name, ns_except, name_is, one_of, NameClasses, no_classes, class_and}
use Rattle.rng_model.specs.schema.SchemaClauses as clause
use Rattle.rng_model.specs.schema.SchemaClauses.{IsPartOf, IsPartOfOne, IsAny, IsNamespace, IsOfDeclarations, BreaksClassExcept}
use Rattle.rng_simple.specs.plain.InTwos.{nested, nested_after}

-- not a choice
abbrev pub IsSingle : NameClass → Type 0
IsSingle any_name = Unit {0}
IsSingle (any_except c) = Unit {0}
IsSingle (ns_name u) = Unit {0}
IsSingle (ns_except u c) = Unit {0}
IsSingle (name_is n) = Unit {0}
IsSingle (one_of c d cs) = ⊥

-- ---- choices, with any number of members

after_choice : (P : NameClass → Type 0) → ((c d : NameClass) (cs : NameClasses) → P (one_of c d cs)) → (cs : NameClasses) (c d : NameClass)
    → P (nested_after (one_of c d no_classes) cs)
after_choice P h no_classes c d = h c d no_classes
after_choice P h (class_and x xs) c d = after_choice P h xs (one_of c d no_classes) (nested x)

-- ---- to the nested class

after_keeps : {d e : NameClass} (cs : NameClasses) → IsPartOf d e → IsPartOf d (nested_after e cs)
after_keeps no_classes i = i
after_keeps (class_and x xs) i = after_keeps xs (clause.in_first i)

mutual
  part_forth : {d c : NameClass} → IsPartOf d c → IsPartOf (nested d) (nested c)
  part_forth clause.itself = clause.itself
  part_forth (clause.in_any_except i) = clause.in_any_except (part_forth i)
  part_forth (clause.in_ns_except i) = clause.in_ns_except (part_forth i)
  part_forth (clause.in_first {cs = cs} i) = after_keeps cs (clause.in_first (part_forth i))
  part_forth (clause.in_second {cs = cs} i) = after_keeps cs (clause.in_second (part_forth i))
  part_forth (clause.in_another i) = one_forth i _

  one_forth : {d : NameClass} {cs : NameClasses} → IsPartOfOne d cs → (e : NameClass) → IsPartOf (nested d) (nested_after e cs)
  one_forth (clause.in_this {cs = cs} i) e = after_keeps cs (clause.in_second (part_forth i))
  one_forth (clause.in_later i) e = one_forth i _

any_forth : {d : NameClass} → IsAny d → IsAny (nested d)
any_forth clause.any_is = clause.any_is
any_forth clause.any_but_is = clause.any_but_is

namespace_forth : {d : NameClass} → IsNamespace d → IsNamespace (nested d)
namespace_forth clause.namespace_is = clause.namespace_is
namespace_forth clause.namespace_but_is = clause.namespace_but_is

declarations_forth : {d : NameClass} → IsOfDeclarations d → IsOfDeclarations (nested d)
declarations_forth (clause.xmlns_is e f) = clause.xmlns_is e f
declarations_forth (clause.name_of_it e) = clause.name_of_it e
declarations_forth (clause.all_names_of_it e) = clause.all_names_of_it e
declarations_forth (clause.names_of_it_but e) = clause.names_of_it_but e

breaks_forth : {c : NameClass} → BreaksClassExcept c → BreaksClassExcept (nested c)
breaks_forth (clause.any_in_any p q a) = clause.any_in_any (part_forth p) (part_forth q) (any_forth a)
breaks_forth (clause.any_in_namespace p q a) = clause.any_in_namespace (part_forth p) (part_forth q) (any_forth a)
breaks_forth (clause.namespace_in_namespace p q a) = clause.namespace_in_namespace (part_forth p) (part_forth q) (namespace_forth a)

-- ---- from the nested class

record Source (c d : NameClass) : Type 0 where
  pub part : NameClass
  pub is_part : IsPartOf part c
  pub is : nested part ≡ d

record SourceAmong (cs : NameClasses) (d : NameClass) : Type 0 where
  pub part : NameClass
  pub is_part : IsPartOfOne part cs
  pub is : nested part ≡ d

within : {c b d : NameClass} → ((e : NameClass) → IsPartOf e c → IsPartOf e b) → Source c d → Source b d
within f s = record { part = s.part; is_part = f s.part s.is_part; is = s.is }

join_back : (c e : NameClass) (cs : NameClasses) {d : NameClass} → (IsPartOf d (nested c) → Source c d) → (IsPartOf d (nested e) → Source e d) → IsSingle d
    → IsPartOf d (one_of (nested c) (nested e) no_classes) ⊎ SourceAmong cs d → Source (one_of c e cs) d
join_back c e cs f g h (inl clause.itself) = absurd h
join_back c e cs f g h (inl (clause.in_first i)) = within (λ x j. clause.in_first j) (f i)
join_back c e cs f g h (inl (clause.in_second i)) = within (λ x j. clause.in_second j) (g i)
join_back c e cs f g h (inl (clause.in_another i)) = elim i [ ]
join_back c e cs f g h (inr s) = record { part = s.part; is_part = clause.in_another s.is_part; is = s.is }

rest_back : (x : NameClass) (xs : NameClasses) (e : NameClass) {d : NameClass} → (IsPartOf d (nested x) → Source x d) → IsSingle d
    → IsPartOf d (one_of e (nested x) no_classes) ⊎ SourceAmong xs d → IsPartOf d e ⊎ SourceAmong (class_and x xs) d
rest_back x xs e f h (inl clause.itself) = absurd h
rest_back x xs e f h (inl (clause.in_first i)) = inl i
rest_back x xs e f h (inl (clause.in_second i)) = let s = f i in inr (record { part = s.part; is_part = clause.in_this s.is_part; is = s.is })
rest_back x xs e f h (inl (clause.in_another i)) = elim i [ ]
rest_back x xs e f h (inr s) = inr (record { part = s.part; is_part = clause.in_later s.is_part; is = s.is })

mutual
  part_back : (c : NameClass) {d : NameClass} → IsPartOf d (nested c) → IsSingle d → Source c d
  part_back any_name clause.itself h = record { part = any_name; is_part = clause.itself; is = refl }
  part_back (any_except c) clause.itself h = record { part = any_except c; is_part = clause.itself; is = refl }
  part_back (any_except c) (clause.in_any_except i) h = within (λ e j. clause.in_any_except j) (part_back c i h)
  part_back (ns_name u) clause.itself h = record { part = ns_name u; is_part = clause.itself; is = refl }
  part_back (ns_except u c) clause.itself h = record { part = ns_except u c; is_part = clause.itself; is = refl }
  part_back (ns_except u c) (clause.in_ns_except i) h = within (λ e j. clause.in_ns_except j) (part_back c i h)
  part_back (name_is n) clause.itself h = record { part = name_is n; is_part = clause.itself; is = refl }
  part_back (one_of c e cs) i h = join_back c e cs (λ j. part_back c j h) (λ j. part_back e j h) h (after_back cs (one_of (nested c) (nested e) no_classes) i h)

  after_back : (cs : NameClasses) (e : NameClass) {d : NameClass} → IsPartOf d (nested_after e cs) → IsSingle d → IsPartOf d e ⊎ SourceAmong cs d
  after_back no_classes e i h = inl i
  after_back (class_and x xs) e i h = rest_back x xs e (λ j. part_back x j h) h (after_back xs (one_of e (nested x) no_classes) i h)

-- a class has the kind of its nested one
abbrev NoAnyExcept : NameClass → NameClass → Type 0
NoAnyExcept e d = d ≡ any_except e → ⊥

abbrev NoNamespaceExcept : List ℕ → NameClass → NameClass → Type 0
NoNamespaceExcept u e d = d ≡ ns_except u e → ⊥

any_except_back : (d : NameClass) {e : NameClass} → nested d ≡ any_except e → (f : NameClass) × (d ≡ any_except f) × (nested f ≡ e)
any_except_back any_name h = absurd (cc)
any_except_back (any_except c) h = (c, refl, cc)
any_except_back (ns_name u) h = absurd (cc)
any_except_back (ns_except u c) h = absurd (cc)
any_except_back (name_is n) h = absurd (cc)
any_except_back (one_of c d cs) {e} h = absurd (after_choice (NoAnyExcept e) (λ a b bs k. cc) cs (nested c) (nested d) h)

ns_except_back : (d : NameClass) {u : List ℕ} {e : NameClass} → nested d ≡ ns_except u e → (f : NameClass) × (d ≡ ns_except u f) × (nested f ≡ e)
ns_except_back any_name h = absurd (cc)
ns_except_back (any_except c) h = absurd (cc)
ns_except_back (ns_name u) h = absurd (cc)
ns_except_back (ns_except u c) h = (c, cc, cc)
ns_except_back (name_is n) h = absurd (cc)
ns_except_back (one_of c d cs) {u} {e} h = absurd (after_choice (NoNamespaceExcept u e) (λ a b bs k. cc) cs (nested c) (nested d) h)

any_back : (d : NameClass) → IsAny (nested d) → IsAny d
any_back any_name h = clause.any_is
any_back (any_except c) h = clause.any_but_is
any_back (ns_name u) h = elim h [ ]
any_back (ns_except u c) h = elim h [ ]
any_back (name_is n) h = elim h [ ]
any_back (one_of c d cs) h = absurd (after_choice (λ x. IsAny x → ⊥) (λ a b bs k. elim k [ ]) cs (nested c) (nested d) h)

namespace_back : (d : NameClass) → IsNamespace (nested d) → IsNamespace d
namespace_back any_name h = elim h [ ]
namespace_back (any_except c) h = elim h [ ]
namespace_back (ns_name u) h = clause.namespace_is
namespace_back (ns_except u c) h = clause.namespace_but_is
namespace_back (name_is n) h = elim h [ ]
namespace_back (one_of c d cs) h = absurd (after_choice (λ x. IsNamespace x → ⊥) (λ a b bs k. elim k [ ]) cs (nested c) (nested d) h)

declarations_back : (d : NameClass) → IsOfDeclarations (nested d) → IsOfDeclarations d
declarations_back any_name h = elim h [ ]
declarations_back (any_except c) h = elim h [ ]
declarations_back (ns_name u) (clause.all_names_of_it e) = clause.all_names_of_it e
declarations_back (ns_except u c) (clause.names_of_it_but e) = clause.names_of_it_but e
declarations_back (name_is n) (clause.xmlns_is e f) = clause.xmlns_is e f
declarations_back (name_is n) (clause.name_of_it e) = clause.name_of_it e
declarations_back (one_of c d cs) h = absurd (after_choice (λ x. IsOfDeclarations x → ⊥) (λ a b bs k. elim k [ ]) cs (nested c) (nested d) h)

any_single : {d : NameClass} → IsAny d → IsSingle d
any_single clause.any_is = tt
any_single clause.any_but_is = tt

namespace_single : {d : NameClass} → IsNamespace d → IsSingle d
namespace_single clause.namespace_is = tt
namespace_single clause.namespace_but_is = tt

declarations_single : {d : NameClass} → IsOfDeclarations d → IsSingle d
declarations_single (clause.xmlns_is e f) = tt
declarations_single (clause.name_of_it e) = tt
declarations_single (clause.all_names_of_it e) = tt
declarations_single (clause.names_of_it_but e) = tt

record SourceOfAny (c e d : NameClass) : Type 0 where
  pub except : NameClass
  pub outer : IsPartOf (any_except except) c
  pub inner : Source except d

any_source : (c : NameClass) {e d : NameClass} → IsPartOf (any_except e) (nested c) → IsPartOf d e → IsSingle d → SourceOfAny c e d
any_source c {d = d} p q h =
    let o = part_back c p tt in
    let x = any_except_back o.part o.is in
    record { except = x.0; outer = subst (λ y. IsPartOf y c) x.1 o.is_part; inner = part_back x.0 (subst (IsPartOf d) (sym x.2) q) h }

record SourceOfNamespace (c e d : NameClass) (u : List ℕ) : Type 0 where
  pub except : NameClass
  pub outer : IsPartOf (ns_except u except) c
  pub inner : Source except d

namespace_source : (c : NameClass) {e d : NameClass} {u : List ℕ} → IsPartOf (ns_except u e) (nested c) → IsPartOf d e → IsSingle d → SourceOfNamespace c e d u
namespace_source c {d = d} p q h =
    let o = part_back c p tt in
    let x = ns_except_back o.part o.is in
    record { except = x.0; outer = subst (λ y. IsPartOf y c) x.1 o.is_part; inner = part_back x.0 (subst (IsPartOf d) (sym x.2) q) h }

breaks_back : (c : NameClass) → BreaksClassExcept (nested c) → BreaksClassExcept c
breaks_back c (clause.any_in_any p q a) =
    let s = any_source c p q (any_single a) in
    clause.any_in_any s.outer s.inner.is_part (any_back s.inner.part (subst IsAny (sym s.inner.is) a))
breaks_back c (clause.any_in_namespace p q a) =
    let s = namespace_source c p q (any_single a) in
    clause.any_in_namespace s.outer s.inner.is_part (any_back s.inner.part (subst IsAny (sym s.inner.is) a))
breaks_back c (clause.namespace_in_namespace p q a) =
    let s = namespace_source c p q (namespace_single a) in
    clause.namespace_in_namespace s.outer s.inner.is_part (namespace_back s.inner.part (subst IsNamespace (sym s.inner.is) a))

-- ---- the conditions of the rules on a class

-- it breaks no rule on excepts
abbrev pub IsGoodClass : NameClass → Type 0
IsGoodClass c = ¬ (BreaksClassExcept c)

-- none of its parts is a name of declarations
abbrev pub IsFreeOfDeclarations : NameClass → Type 0
IsFreeOfDeclarations c = (d : NameClass) → IsPartOf d c → ¬ (IsOfDeclarations d)

pub good_nested : (c : NameClass) → IsGoodClass c → IsGoodClass (nested c)
good_nested c h b = h (breaks_back c b)

pub good_from_nested : (c : NameClass) → IsGoodClass (nested c) → IsGoodClass c
good_from_nested c h b = h (breaks_forth b)

pub free_nested : (c : NameClass) → IsFreeOfDeclarations c → IsFreeOfDeclarations (nested c)
free_nested c h d i o =
    let s = part_back c i (declarations_single o) in
    h s.part s.is_part (declarations_back s.part (subst IsOfDeclarations (sym s.is) o))

pub free_from_nested : (c : NameClass) → IsFreeOfDeclarations (nested c) → IsFreeOfDeclarations c
free_from_nested c h d i o = h (nested d) (part_forth i) (declarations_forth o)
