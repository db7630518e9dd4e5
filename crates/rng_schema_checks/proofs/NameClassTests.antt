-- The tests of name classes decide the definitions.
use Rattle.std.proofs.Common.{◌≡◌, ◌⊎◌, inl, inr, codes, ℕ, List, [], true, ◌||◌, ◌&&◌, refl}
use Rattle.std.specs.Str.{bytes_eq}
use Rattle.std.proofs.lemmas.Bool.{and_parts, or_cases, or_left, or_right}
use Rattle.std.proofs.lemmas.Slice.Eq.{bytes_eq-Decides}
use Rattle.rng_model.proofs.Truths.{no_truth}
use Rattle.rng_model.proofs.Texts.{bytes_same}
use Rattle.rng_model.specs.names.Names.{NameClass, NameClasses, any_name, any_except, ns_name, ns_except, name_is, one_of, no_classes, class_and}
use Rattle.rng_model.specs.schema.SchemaClauses.{IsPartOf, IsPartOfOne, itself, in_any_except, in_ns_except, in_first, in_second, in_another, in_this, in_later}
use Rattle.rng_model.specs.schema.SchemaClauses.{IsAny, any_is, any_but_is, IsNamespace, namespace_is, namespace_but_is, barred_uri}
use Rattle.rng_model.specs.schema.SchemaClauses.{BreaksClassExcept, any_in_any, any_in_namespace, namespace_in_namespace}
use Rattle.rng_model.specs.schema.SchemaClauses.{IsOfDeclarations, xmlns_is, name_of_it, all_names_of_it, names_of_it_but}
use Rattle.rng_schema_checks.specs.plain.ClassTests.{ClassTest, passes, has_part, some_has_part, breaks_except, some_breaks_except}
use Rattle.rng_schema_checks.specs.plain.ClassTests.{any_test, wildcard_test, declaration_test, is_barred}

-- ---- the parts of a class

-- a class that passes a test and is part of this one
abbrev pub HasPart : ClassTest → NameClass → Type 0
HasPart t c = (d : NameClass) × IsPartOf d c × (passes t d ≡ true)

abbrev HasPartOfOne : ClassTest → NameClasses → Type 0
HasPartOfOne t cs = (d : NameClass) × IsPartOfOne d cs × (passes t d ≡ true)

module _ (t : ClassTest) where
  mutual
    pub part_found : (c : NameClass) → has_part t c ≡ true → HasPart t c
    part_found any_name e = (any_name, itself, e)
    part_found (any_except c) e = elim (or_cases t.any (has_part t c) e) [
      | inl a ↦ (any_except c, itself, a)
      | inr b ↦ let found = part_found c b in (found.0, in_any_except found.1, found.2)
    ]
    part_found (ns_name u) e = (ns_name u, itself, e)
    part_found (ns_except u c) e = elim (or_cases (t.namespace u) (has_part t c) e) [
      | inl a ↦ (ns_except u c, itself, a)
      | inr b ↦ let found = part_found c b in (found.0, in_ns_except found.1, found.2)
    ]
    part_found (name_is n) e = (name_is n, itself, e)
    part_found (one_of b c cs) e = elim (or_cases (has_part t b) (has_part t c || some_has_part t cs) e) [
      | inl first ↦ let found = part_found b first in (found.0, in_first found.1, found.2)
      | inr more ↦ elim (or_cases (has_part t c) (some_has_part t cs) more) [
        | inl second ↦ let found = part_found c second in (found.0, in_second found.1, found.2)
        | inr later ↦ let found = part_of_one_found cs later in (found.0, in_another found.1, found.2)
      ]
    ]

    part_of_one_found : (cs : NameClasses) → some_has_part t cs ≡ true → HasPartOfOne t cs
    part_of_one_found no_classes e = no_truth e
    part_of_one_found (class_and c cs) e = elim (or_cases (has_part t c) (some_has_part t cs) e) [
      | inl first ↦ let found = part_found c first in (found.0, in_this found.1, found.2)
      | inr later ↦ let found = part_of_one_found cs later in (found.0, in_later found.1, found.2)
    ]

  alone : (d : NameClass) → passes t d ≡ true → has_part t d ≡ true
  alone any_name e = e
  alone (any_except c) e = or_left t.any (has_part t c) e
  alone (ns_name u) e = e
  alone (ns_except u c) e = or_left (t.namespace u) (has_part t c) e
  alone (name_is n) e = e
  alone (one_of b c cs) e = no_truth e

  mutual
    pub part_met : {d c : NameClass} → IsPartOf d c → passes t d ≡ true → has_part t c ≡ true
    part_met {d = d} itself e = alone d e
    part_met (in_any_except {c} i) e = or_right t.any (has_part t c) (part_met i e)
    part_met (in_ns_except {u} {c} i) e = or_right (t.namespace u) (has_part t c) (part_met i e)
    part_met (in_first {b} {c} {cs} i) e = or_left (has_part t b) (has_part t c || some_has_part t cs) (part_met i e)
    part_met (in_second {b} {c} {cs} i) e =
        or_right (has_part t b) (has_part t c || some_has_part t cs) (or_left (has_part t c) (some_has_part t cs) (part_met i e))
    part_met (in_another {b} {c} {cs} i) e =
        or_right (has_part t b) (has_part t c || some_has_part t cs) (or_right (has_part t c) (some_has_part t cs) (part_of_one_met i e))

    part_of_one_met : {d : NameClass} {cs : NameClasses} → IsPartOfOne d cs → passes t d ≡ true → some_has_part t cs ≡ true
    part_of_one_met (in_this {c} {cs} i) e = or_left (has_part t c) (some_has_part t cs) (part_met i e)
    part_of_one_met (in_later {c} {cs} i) e = or_right (has_part t c) (some_has_part t cs) (part_of_one_met i e)

-- ---- what the tests pass

is_any : (d : NameClass) → passes any_test d ≡ true → IsAny d
is_any any_name e = any_is
is_any (any_except c) e = any_but_is
is_any (ns_name u) e = no_truth e
is_any (ns_except u c) e = no_truth e
is_any (name_is n) e = no_truth e
is_any (one_of b c cs) e = no_truth e

any_passes : {d : NameClass} → IsAny d → (passes any_test d ≡ true) × (passes wildcard_test d ≡ true)
any_passes any_is = (refl, refl)
any_passes any_but_is = (refl, refl)

namespace_passes : {d : NameClass} → IsNamespace d → passes wildcard_test d ≡ true
namespace_passes namespace_is = refl
namespace_passes namespace_but_is = refl

is_wildcard : (d : NameClass) → passes wildcard_test d ≡ true → IsAny d ⊎ IsNamespace d
is_wildcard any_name e = inl any_is
is_wildcard (any_except c) e = inl any_but_is
is_wildcard (ns_name u) e = inr namespace_is
is_wildcard (ns_except u c) e = inr namespace_but_is
is_wildcard (name_is n) e = no_truth e
is_wildcard (one_of b c cs) e = no_truth e

as_same : (u v : List ℕ) → u ≡ v → bytes_eq u v ≡ true
as_same u v = (bytes_eq-Decides u v).1

pub is_declaration : (d : NameClass) → passes declaration_test d ≡ true → IsOfDeclarations d
is_declaration any_name e = no_truth e
is_declaration (any_except c) e = no_truth e
is_declaration (ns_name u) e = all_names_of_it (bytes_same u barred_uri e)
is_declaration (ns_except u c) e = names_of_it_but (bytes_same u barred_uri e)
is_declaration (name_is n) e = elim (or_cases (is_barred n.ns) (bytes_eq n.ns [] && bytes_eq n.local (codes "xmlns")) e) [
  | inl barred ↦ name_of_it (bytes_same n.ns barred_uri barred)
  | inr xmlns ↦ let parts = and_parts (bytes_eq n.ns []) (bytes_eq n.local (codes "xmlns")) xmlns in
      xmlns_is (bytes_same n.ns [] parts.0) (bytes_same n.local (codes "xmlns") parts.1)
]
is_declaration (one_of b c cs) e = no_truth e

pub declaration_passes : {d : NameClass} → IsOfDeclarations d → passes declaration_test d ≡ true
declaration_passes (xmlns_is {n} none xmlns) =
    or_right (is_barred n.ns) (bytes_eq n.ns [] && bytes_eq n.local (codes "xmlns")) (rw (as_same n.ns [] none, as_same n.local (codes "xmlns") xmlns) refl)
declaration_passes (name_of_it {n} e) = or_left (is_barred n.ns) (bytes_eq n.ns [] && bytes_eq n.local (codes "xmlns")) (as_same n.ns barred_uri e)
declaration_passes (all_names_of_it {u} e) = as_same u barred_uri e
declaration_passes (names_of_it_but {u} e) = as_same u barred_uri e

-- ---- excepts

-- what breaks the rule in a class breaks it in every class that contains it
module _ {c whole : NameClass} (lift : (d : NameClass) → IsPartOf d c → IsPartOf d whole) where
  breaks_around : BreaksClassExcept c → BreaksClassExcept whole
  breaks_around (any_in_any {d} {e} i j a) = any_in_any (lift (any_except e) i) j a
  breaks_around (any_in_namespace {u} {d} {e} i j a) = any_in_namespace (lift (ns_except u e) i) j a
  breaks_around (namespace_in_namespace {u} {d} {e} i j a) = namespace_in_namespace (lift (ns_except u e) i) j a

breaks_any : (c : NameClass) → has_part any_test c ≡ true → BreaksClassExcept (any_except c)
breaks_any c e = let found = part_found any_test c e in any_in_any itself found.1 (is_any found.0 found.2)

breaks_namespace : (u : List ℕ) (c : NameClass) → has_part wildcard_test c ≡ true → BreaksClassExcept (ns_except u c)
breaks_namespace u c e = let found = part_found wildcard_test c e in elim (is_wildcard found.0 found.2) [
  | inl a ↦ any_in_namespace itself found.1 a
  | inr n ↦ namespace_in_namespace itself found.1 n
]

-- some class of these breaks the rule
abbrev SomeBreaksExcept : NameClasses → Type 0
SomeBreaksExcept cs = (c : NameClass) × ((d : NameClass) → IsPartOf d c → IsPartOfOne d cs) × BreaksClassExcept c

mutual
  pub except_found : (c : NameClass) → breaks_except c ≡ true → BreaksClassExcept c
  except_found any_name e = no_truth e
  except_found (any_except c) e = elim (or_cases (has_part any_test c) (breaks_except c) e) [
    | inl a ↦ breaks_any c a
    | inr b ↦ breaks_around (λ d. in_any_except) (except_found c b)
  ]
  except_found (ns_name u) e = no_truth e
  except_found (ns_except u c) e = elim (or_cases (has_part wildcard_test c) (breaks_except c) e) [
    | inl a ↦ breaks_namespace u c a
    | inr b ↦ breaks_around (λ d. in_ns_except) (except_found c b)
  ]
  except_found (name_is n) e = no_truth e
  except_found (one_of b c cs) e = elim (or_cases (breaks_except b) (breaks_except c || some_breaks_except cs) e) [
    | inl first ↦ breaks_around (λ d. in_first) (except_found b first)
    | inr more ↦ elim (or_cases (breaks_except c) (some_breaks_except cs) more) [
      | inl second ↦ breaks_around (λ d. in_second) (except_found c second)
      | inr later ↦ let found = some_except_found cs later in breaks_around (λ d i. in_another (found.1 d i)) found.2
    ]
  ]

  some_except_found : (cs : NameClasses) → some_breaks_except cs ≡ true → SomeBreaksExcept cs
  some_except_found no_classes e = no_truth e
  some_except_found (class_and c cs) e = elim (or_cases (breaks_except c) (some_breaks_except cs) e) [
    | inl first ↦ (c, λ d. in_this, except_found c first)
    | inr later ↦ let found = some_except_found cs later in (found.0, λ d i. in_later (found.1 d i), found.2)
  ]

mutual
  part_breaks : {d c : NameClass} → IsPartOf d c → breaks_except d ≡ true → breaks_except c ≡ true
  part_breaks itself e = e
  part_breaks (in_any_except {c} i) e = or_right (has_part any_test c) (breaks_except c) (part_breaks i e)
  part_breaks (in_ns_except {u} {c} i) e = or_right (has_part wildcard_test c) (breaks_except c) (part_breaks i e)
  part_breaks (in_first {b} {c} {cs} i) e = or_left (breaks_except b) (breaks_except c || some_breaks_except cs) (part_breaks i e)
  part_breaks (in_second {b} {c} {cs} i) e =
      or_right (breaks_except b) (breaks_except c || some_breaks_except cs) (or_left (breaks_except c) (some_breaks_except cs) (part_breaks i e))
  part_breaks (in_another {b} {c} {cs} i) e =
      or_right (breaks_except b) (breaks_except c || some_breaks_except cs) (or_right (breaks_except c) (some_breaks_except cs) (part_of_one_breaks i e))

  part_of_one_breaks : {d : NameClass} {cs : NameClasses} → IsPartOfOne d cs → breaks_except d ≡ true → some_breaks_except cs ≡ true
  part_of_one_breaks (in_this {c} {cs} i) e = or_left (breaks_except c) (some_breaks_except cs) (part_breaks i e)
  part_of_one_breaks (in_later {c} {cs} i) e = or_right (breaks_except c) (some_breaks_except cs) (part_of_one_breaks i e)

pub except_met : {c : NameClass} → BreaksClassExcept c → breaks_except c ≡ true
except_met (any_in_any {d} {e} i j a) =
    part_breaks i (or_left (has_part any_test e) (breaks_except e) (part_met any_test j (any_passes a).0))
except_met (any_in_namespace {u} {d} {e} i j a) =
    part_breaks i (or_left (has_part wildcard_test e) (breaks_except e) (part_met wildcard_test j (any_passes a).1))
except_met (namespace_in_namespace {u} {d} {e} i j n) =
    part_breaks i (or_left (has_part wildcard_test e) (breaks_except e) (part_met wildcard_test j (namespace_passes n)))
