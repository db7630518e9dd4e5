-- Tests for the name classes that break a rule. (RELAX NG Specification, section 4.16)
use Rattle.std.specs.Prelude.{codes, ℕ, List, [], Bool, true, false, ◌&&◌, ◌||◌}
use Rattle.std.specs.Str.{bytes_eq}
use Rattle.rng_model.specs.names.Names.{Name, NameClass, NameClasses, any_name, any_except, ns_name, ns_except, name_is, one_of, no_classes, class_and}
use Rattle.rng_model.specs.schema.SchemaClauses.{barred_uri}

-- what to search for in a class: `*`, with or without an except; `p:*` of some namespaces, with or without an except;
-- some names
pub record ClassTest : Type 0 where
  pub any : Bool
  pub namespace : List ℕ → Bool
  pub name : Name → Bool

-- the test for the class itself, without its parts
abbrev pub passes : ClassTest → NameClass → Bool
passes t any_name = t.any
passes t (any_except c) = t.any
passes t (ns_name u) = t.namespace u
passes t (ns_except u c) = t.namespace u
passes t (name_is n) = t.name n
passes t (one_of b c cs) = false

-- the test passes for the class or for a part of it
abbrev mutual
  pub has_part : ClassTest → NameClass → Bool
  has_part t any_name = t.any
  has_part t (any_except c) = t.any || has_part t c
  has_part t (ns_name u) = t.namespace u
  has_part t (ns_except u c) = t.namespace u || has_part t c
  has_part t (name_is n) = t.name n
  has_part t (one_of b c cs) = has_part t b || (has_part t c || some_has_part t cs)

  pub some_has_part : ClassTest → NameClasses → Bool
  some_has_part t no_classes = false
  some_has_part t (class_and c cs) = has_part t c || some_has_part t cs

abbrev pub no_namespace : List ℕ → Bool
no_namespace u = false

abbrev pub every_namespace : List ℕ → Bool
every_namespace u = true

abbrev pub no_name : Name → Bool
no_name n = false

-- `*`
abbrev pub any_test : ClassTest
any_test = record { any = true; namespace = no_namespace; name = no_name }

-- `*` or `p:*`
abbrev pub wildcard_test : ClassTest
wildcard_test = record { any = true; namespace = every_namespace; name = no_name }

abbrev pub is_barred : List ℕ → Bool
is_barred u = bytes_eq u barred_uri

abbrev pub is_barred_name : Name → Bool
is_barred_name n = is_barred n.ns || (bytes_eq n.ns [] && bytes_eq n.local (codes "xmlns"))

-- the name `xmlns` without a namespace, or a name or `p:*` of the namespace of declarations
abbrev pub declaration_test : ClassTest
declaration_test = record { any = false; namespace = is_barred; name = is_barred_name }

-- an except of `*` contains a `*`, or an except of `p:*` contains a `*` or a `q:*`
abbrev mutual
  pub breaks_except : NameClass → Bool
  breaks_except any_name = false
  breaks_except (any_except c) = has_part any_test c || breaks_except c
  breaks_except (ns_name u) = false
  breaks_except (ns_except u c) = has_part wildcard_test c || breaks_except c
  breaks_except (name_is n) = false
  breaks_except (one_of b c cs) = breaks_except b || (breaks_except c || some_breaks_except cs)

  pub some_breaks_except : NameClasses → Bool
  some_breaks_except no_classes = false
  some_breaks_except (class_and c cs) = breaks_except c || some_breaks_except cs
