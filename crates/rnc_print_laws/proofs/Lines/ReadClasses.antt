-- The name classes of the lines, read with their namespaces, are those of the grammar with their first members taken
-- apart.
use Rattle.std.proofs.Common.{◌≡◌, ◌∙◌, refl, sym, ap, ap₂, List, [], ◌∷◌, ◌++◌, map, ℕ}
use Rattle.std.proofs.lemmas.List.{map-append}
use Rattle.rng_model.specs.names.Names as names
use Rattle.rng_model.specs.names.Names.{some_of}
use Rattle.rnc_model.specs.grammar.Syntax as tree
use Rattle.rnc_model.specs.grammar.Syntax.{applied, Namespace}
use Rattle.rnc_model.specs.loading.Places.{uri_in, name_in, class_in, classes_in}
use Rattle.rnc_print_laws.specs.plain.LinesSchema.{list_of, members_in, flattened, all_flattened}
use Rattle.rnc_print_laws.specs.plain.LinesTree as lines

classes_map : (cs : List (tree.NameClassAt applied)) → classes_in [] (tree.classes_of cs) ≡ map (class_in []) cs
classes_map [] = refl
classes_map (c ∷ cs) = ap (λ (xs : List names.NameClass). class_in [] c ∷ xs) (classes_map cs)

listed : (cs : List (tree.NameClassAt applied)) → lines.list_of (tree.classes_of cs) ≡ cs
listed [] = refl
listed (c ∷ cs) = ap (λ (xs : List (tree.NameClassAt applied)). c ∷ xs) (listed cs)

listed_names : (cs : List names.NameClass) → list_of (names.class_list cs) ≡ cs
listed_names [] = refl
listed_names (c ∷ cs) = ap (λ (xs : List names.NameClass). c ∷ xs) (listed_names cs)

-- two or more members are those of their choice
members_some : (c x : names.NameClass) (xs : List names.NameClass) → members_in (some_of (members_in c ++ x ∷ xs)) ≡ members_in c ++ x ∷ xs
members_some names.any_name x xs = ap (λ (ys : List names.NameClass). names.any_name ∷ x ∷ ys) (listed_names xs)
members_some (names.any_except c) x xs = ap (λ (ys : List names.NameClass). names.any_except c ∷ x ∷ ys) (listed_names xs)
members_some (names.ns_name u) x xs = ap (λ (ys : List names.NameClass). names.ns_name u ∷ x ∷ ys) (listed_names xs)
members_some (names.ns_except u c) x xs = ap (λ (ys : List names.NameClass). names.ns_except u c ∷ x ∷ ys) (listed_names xs)
members_some (names.name_is n) x xs = ap (λ (ys : List names.NameClass). names.name_is n ∷ x ∷ ys) (listed_names xs)
members_some (names.one_of c d cs) x xs = ap (λ (ys : List names.NameClass). c ∷ d ∷ ys) (listed_names (list_of cs ++ x ∷ xs))

module _ (plain : Namespace) (none : uri_in [] plain ≡ []) where
  name_read : (ns l : List ℕ) → name_in [] (lines.name_of plain ns l) ≡ record { ns = ns; local = l }
  name_read [] l = ap (λ u. record { ns = u; local = l }) none
  name_read (c ∷ u) l = refl

  -- members of a choice, read: those of the first, the second, and the others
  choice_read : (c d : names.NameClass) (cs : names.NameClasses) → map (class_in []) (lines.members_in (lines.class_of plain c)) ≡ members_in (flattened c)
      → class_in [] (lines.class_of plain d) ≡ flattened d → map (class_in []) (lines.classes_of plain cs) ≡ all_flattened cs
      → map (class_in []) (lines.members_in (lines.class_of plain c) ++ lines.class_of plain d ∷ lines.classes_of plain cs)
      ≡ members_in (flattened c) ++ flattened d ∷ all_flattened cs
  choice_read c d cs e f h = map-append (class_in []) (lines.members_in (lines.class_of plain c)) (lines.class_of plain d ∷ lines.classes_of plain cs)
      ∙ ap₂ (λ xs ys. xs ++ ys) e (ap₂ (λ y ys. y ∷ ys) f h)

  abbrev written : names.NameClass → names.NameClass → names.NameClasses → List (tree.NameClassAt applied)
  written c d cs = lines.members_in (lines.class_of plain c) ++ lines.class_of plain d ∷ lines.classes_of plain cs

  mutual
    pub class_read : (c : names.NameClass) → class_in [] (lines.class_of plain c) ≡ flattened c
    class_read names.any_name = refl
    class_read (names.any_except c) = ap names.any_except (class_read c)
    class_read (names.ns_name u) = refl
    class_read (names.ns_except u c) = ap (names.ns_except u) (class_read c)
    class_read (names.name_is n) = ap names.name_is (name_read n.ns n.local)
    class_read (names.one_of c d cs) =
        ap some_of (classes_map (written c d cs) ∙ choice_read c d cs (members_read c) (class_read d) (classes_read cs))

    classes_read : (cs : names.NameClasses) → map (class_in []) (lines.classes_of plain cs) ≡ all_flattened cs
    classes_read names.no_classes = refl
    classes_read (names.class_and c cs) = ap₂ (λ y ys. y ∷ ys) (class_read c) (classes_read cs)

    members_read : (c : names.NameClass) → map (class_in []) (lines.members_in (lines.class_of plain c)) ≡ members_in (flattened c)
    members_read names.any_name = refl
    members_read (names.any_except c) = ap (λ d. names.any_except d ∷ []) (class_read c)
    members_read (names.ns_name u) = refl
    members_read (names.ns_except u c) = ap (λ d. names.ns_except u d ∷ []) (class_read c)
    members_read (names.name_is n) = ap (λ m. names.name_is m ∷ []) (name_read n.ns n.local)
    members_read (names.one_of c d cs) =
        ap (map (class_in [])) (listed (written c d cs)) ∙ choice_read c d cs (members_read c) (class_read d) (classes_read cs)
        ∙ sym (members_some (flattened c) (flattened d) (all_flattened cs))
