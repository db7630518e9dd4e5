-- The alternatives of a class, and a table of them.
use Rattle.std.specs.Prelude.{◌≡◌, ◌<◌, ◌≤◌, ℕ, List, [], ◌∷◌, ◌++◌, length, slice_get, Bool, true, false, not, ◌&&◌, ◌||◌, Option, Some, None}
use Rattle.std.specs.Borrow.{Bor}
use Rattle.std.specs.List.{list_any}
use Rattle.std.specs.Str.{bytes_eq}
use Rattle.rng_model.specs.names.Names.{Name, NameClass, NameClasses, any_name, any_except, ns_name, ns_except, name_is, one_of, no_classes, class_and}
use Rattle.rng_model.specs.names.NameViews.{class_of}
use Rattle.rng_names.specs.plain.Holding.{holds}
use Rattle.rng_names.specs.views.NameSets.{has, same_parts}
use Rattle.rng_names.specs.declared.alternatives.Alternatives.{Alternatives}
use Rattle.rng_names.specs.declared.alternatives.Excepted.{Excepted}

-- the test passes for a class that is not a choice, or for one of the members of a choice, at any depth
abbrev mutual
  pub has_alternative : (NameClass → Bool) → NameClass → Bool
  has_alternative test any_name = test any_name
  has_alternative test (any_except c) = test (any_except c)
  has_alternative test (ns_name u) = test (ns_name u)
  has_alternative test (ns_except u c) = test (ns_except u c)
  has_alternative test (name_is n) = test (name_is n)
  has_alternative test (one_of c d cs) = has_alternative test c || (has_alternative test d || some_has_alternative test cs)

  pub some_has_alternative : (NameClass → Bool) → NameClasses → Bool
  some_has_alternative test no_classes = false
  some_has_alternative test (class_and c cs) = has_alternative test c || some_has_alternative test cs

-- ---- which alternatives there are

-- every name
abbrev pub is_any : NameClass → Bool
is_any any_name = true
is_any (any_except c) = false
is_any (ns_name u) = false
is_any (ns_except u c) = false
is_any (name_is n) = false
is_any (one_of c d cs) = false

-- the name with a namespace and a local name, or all names of a namespace if there is no local name
abbrev pub is_written : List ℕ → Option (List ℕ) → NameClass → Bool
is_written u l any_name = false
is_written u l (any_except c) = false
is_written u l (ns_name v) = same_parts v None u l
is_written u l (ns_except v c) = false
is_written u l (name_is n) = same_parts n.ns (Some n.local) u l
is_written u l (one_of c d cs) = false

-- a class with an except that holds the name
abbrev pub is_excepted : Name → NameClass → Bool
is_excepted q any_name = false
is_excepted q (any_except c) = not (holds c q)
is_excepted q (ns_name u) = false
is_excepted q (ns_except u c) = bytes_eq u q.ns && not (holds c q)
is_excepted q (name_is n) = false
is_excepted q (one_of c d cs) = false

-- ---- the table

-- the namespace is this one, if there is one
abbrev pub in_scope : Option (Bor (List ℕ)) → List ℕ → Bool
in_scope None v = true
in_scope (Some u) v = bytes_eq u.now v

-- an alternative with an except holds the name
abbrev pub excepted_hold : Alternatives → Name → Bool
excepted_hold all q = list_any (λ e. in_scope e.ns q.ns && not (holds (class_of e.except.now) q)) all.excepted.items

-- an alternative without an except holds the name
abbrev pub told : Alternatives → Name → Bool
told all q = all.any || (has all.written q.ns None || has all.written q.ns (Some q.local))

-- an alternative holds the name
abbrev pub hold : Alternatives → Name → Bool
hold all q = told all q || excepted_hold all q

-- the second table has the alternatives of the first one, and others, given by the tests that pass for one of them
pub record Adds (old : Alternatives) (new : Alternatives) (others : (NameClass → Bool) → Bool) : Type 0 where
  pub class : new.class ≡ old.class
  pub any : new.any ≡ (old.any || others is_any)
  pub written : (u : List ℕ) (l : Option (List ℕ)) → has new.written u l ≡ (has old.written u l || others (is_written u l))
  pub excepted : (q : Name) → excepted_hold new q ≡ (excepted_hold old q || others (is_excepted q))

-- the table has no alternatives
pub record IsBare (all : Alternatives) : Type 0 where
  pub any : all.any ≡ false
  pub written : all.written ≡ []
  pub excepted : all.excepted.items ≡ []

-- the table holds the names that its class holds
abbrev pub Stands : Alternatives → Type 0
Stands all = (q : Name) → hold all q ≡ holds (class_of all.class.now) q

-- ---- tables of excepts, by number

-- the except has a table before the k-th one
pub record HasTable (tables : List Alternatives) (k : ℕ) (e : Excepted) : Type 0 where
  pub below : e.table < k
  pub table : Alternatives
  pub at : slice_get tables e.table ≡ Some table
  pub class : table.class ≡ e.except

-- each except of a table has a table before the k-th one
abbrev pub LinkedBelow : List Alternatives → ℕ → Alternatives → Type 0
LinkedBelow tables k all = (j : ℕ) (e : Excepted) → slice_get all.excepted.items j ≡ Some e → HasTable tables k e

abbrev pub Linked : List Alternatives → Alternatives → Type 0
Linked tables all = LinkedBelow tables (length tables) all

-- the table holds the names that its class holds, and its excepts have tables before it
pub record IsTable (tables : List Alternatives) (k : ℕ) (all : Alternatives) : Type 0 where
  pub stands : Stands all
  pub linked : LinkedBelow tables k all

abbrev pub AreTables : List Alternatives → Type 0
AreTables tables = (k : ℕ) (all : Alternatives) → slice_get tables k ≡ Some all → IsTable tables k all

-- the old tables keep their numbers, and all are such tables if the old ones are
pub record Grows (old : List Alternatives) (new : List Alternatives) : Type 0 where
  pub longer : length old ≤ length new
  pub kept : (k : ℕ) (all : Alternatives) → slice_get old k ≡ Some all → slice_get new k ≡ Some all
  pub tables : AreTables old → AreTables new

-- the table of an except is added at the end of the tables, and the except to another table
pub record AddsExcept (xs : List Alternatives) (ys : List Alternatives) (old : Alternatives) (new : Alternatives) (except : Alternatives) : Type 0 where
  pub tables : ys ≡ xs ++ except ∷ []
  pub entry : Excepted
  pub entries : new.excepted.items ≡ old.excepted.items ++ entry ∷ []
  pub number : entry.table ≡ length xs
  pub class : entry.except ≡ except.class

-- all names, or those of a namespace, except those of a class
abbrev pub excepting : Option (List ℕ) → NameClass → NameClass
excepting None c = any_except c
excepting (Some u) c = ns_except u c
