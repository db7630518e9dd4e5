-- Rows with name classes, and groups of those whose class is the same name. Private contracts cite the states.
use Rattle.std.specs.Prelude.{◌≡◌, ℕ, List, [], ◌∷◌, length, slice_get, slice_index_or, Option, Some, None, Contains, ◌==◌}
use Rattle.std.specs.Prelude.{if◌then◌else◌}
use Rattle.rng_model.specs.simple.Table.{Table}
use Rattle.rng_model.specs.names.Names as names
use Rattle.rng_model.specs.names.NameViews.{name_of}
use Rattle.rng_model.specs.declared.name.Name.{Name}
use Rattle.rng_model.specs.declared.name.NameClass.{NameClass}
use Rattle.rng_model.specs.declared.name.NameClass.TheVariants as class
use Rattle.rng_rules.specs.declared.names_meet.NamesOf.{NamesOf}
use Rattle.rng_rules.specs.declared.names_meet_labels.Label as declared
use Rattle.rng_rules.specs.declared.names_meet_labels.ReadyLabel.{ReadyLabel}
use Rattle.rng_rules.specs.declared.names_meet_groups.PlainName.{PlainName}
use Rattle.rng_rules.specs.views.NamesMeetRows.{IsLabelled, class_in}
use Rattle.rng_rules.specs.views.NamesMeetSides.{IsUnder}

abbrev pub label_of : declared.Label → ℕ × NameClass
label_of l = (l.row, l.class.now)

abbrev pub ready_label_of : ReadyLabel → ℕ × NameClass
ready_label_of l = (l.row, l.class)

-- the row with its class, if it has one
abbrev pub label_list : ℕ → Option NameClass → List (ℕ × NameClass)
label_list row None = []
label_list row (Some c) = (row, c) ∷ []

abbrev pub plain_name_of : PlainName → names.Name
plain_name_of n = record { ns = n.ns.now; local = n.local.now }

-- the name class that a row itself has, if the row is marked
abbrev pub judged_class : NamesOf → Table → List ℕ → ℕ → Option NameClass
judged_class of t under row = if slice_index_or under row 0 == 1 then class_in of t.elements (slice_get t.patterns row) else None

-- rows with their name classes, including all of those inside a row between whose sides names must not meet
pub record AreLabels (of : NamesOf) (t : Table) (above : List (List ℕ)) (labels : List (ℕ × NameClass)) : Type 0 where
  pub sound : (row : ℕ) (c : NameClass) → Contains labels (row, c) → IsLabelled of t row c
  pub complete : (row : ℕ) (c : NameClass) → IsLabelled of t row c → IsUnder of t above row → Contains labels (row, c)

-- the class of the row is this name
abbrev pub HasName : List (ℕ × NameClass) → ℕ → names.Name → Type 0
HasName labels row q = (n : Name) × Contains labels (row, class.Name n) × (name_of n ≡ q)

-- no name is in the list twice
abbrev pub AreNamesApart : List names.Name → Type 0
AreNamesApart qs = (i j : ℕ) (q : names.Name) → slice_get qs i ≡ Some q → slice_get qs j ≡ Some q → i ≡ j

-- for each name the rows that have it
pub record AreGroups (labels : List (ℕ × NameClass)) (qs : List names.Name) (groups : List (List ℕ)) : Type 0 where
  pub long : length groups ≡ length qs
  pub apart : AreNamesApart qs
  pub sound : (k row : ℕ) → Contains (slice_index_or groups k []) row → (q : names.Name) × (slice_get qs k ≡ Some q) × HasName labels row q
  pub complete : (row : ℕ) (q : names.Name) → HasName labels row q → (k : ℕ) × (slice_get qs k ≡ Some q) × Contains (slice_index_or groups k []) row
