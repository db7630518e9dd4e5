-- Where names meet: a row of a part, with one side reached from one list of rows and the other side from another list.
-- Private contracts cite it.
use Rattle.std.specs.Prelude.{◌≡◌, ◌<◌, ◌⊎◌, ◌↔◌, ◌&&◌, ◌||◌, ◌==◌, ℕ, List, [], ◌∷◌, length, slice_get, slice_index_or, Option, Some, None, Bool, false, All}
use Rattle.std.specs.Prelude.{if◌then◌else◌}
use Rattle.rng_model.specs.simple.Table.{Table}
use Rattle.rng_model.specs.simple.TableRules.{IsTable}
use Rattle.rng_model.specs.declared.simple.Simple.{Simple}
use Rattle.rng_rules.specs.declared.names_meet.NamesOf.{NamesOf}
use Rattle.rng_rules.specs.declared.names_meet_sides.Marks.{Marks}
use Rattle.rng_rules.specs.declared.names_meet_sides.Rows as declared
use Rattle.rng_labels.specs.plain.Queues.{IsReachedBy}
use Rattle.rng_rules.specs.plain.NamesMeetReach.{lists}
use Rattle.rng_rules.specs.views.NamesMeetRows.{IsAbove, children_at, part_rows, sides_at}

-- the row is reached from these by going up
abbrev pub Climbs : List (List ℕ) → List ℕ → ℕ → Type 0
Climbs above start k = IsReachedBy (λ j. slice_index_or above j []) start k

-- a row of a part, with its sides
pub record IsJoin (of : NamesOf) (t : Table) (row left right : ℕ) : Type 0 where
  pub pattern : Simple
  pub stands : IsReachedBy (children_at t.patterns) (part_rows t) row
  pub is : slice_get t.patterns row ≡ Some pattern
  pub sides : sides_at of pattern ≡ Some (left, right)

-- such a row has on one side what is reached from the first, and on the other what is reached from the second
pub record MeetBetween (of : NamesOf) (t : Table) (above : List (List ℕ)) (first second : List ℕ) : Type 0 where
  pub row : ℕ
  pub left : ℕ
  pub right : ℕ
  pub join : IsJoin of t row left right
  pub meet : (Climbs above first left × Climbs above second right) ⊎ (Climbs above first right × Climbs above second left)

-- the row climbs to a row of a part between whose sides names must not meet
pub record IsUnder (of : NamesOf) (t : Table) (above : List (List ℕ)) (k : ℕ) : Type 0 where
  pub row : ℕ
  pub left : ℕ
  pub right : ℕ
  pub join : IsJoin of t row left right
  pub climbs : Climbs above (k ∷ []) row

-- the rows of the table are prepared
pub record AreRowsOf (of : NamesOf) (t : Table) (above : List (List ℕ)) (standing : List ℕ) : Type 0 where
  pub valid : IsTable t
  pub is_above : IsAbove t.patterns above
  pub long : length standing ≡ length t.patterns
  pub is_standing : (k : ℕ) → IsReachedBy (children_at t.patterns) (part_rows t) k ↔ (slice_get standing k ≡ Some 1)

abbrev pub AreRows : declared.Rows → Type 0
AreRows rows = AreRowsOf rows.of rows.grammar.now (lists rows.above.items) rows.standing.items

-- the marks of n rows, all of earlier rounds
pub record AreMarks (n round : ℕ) (marks : Marks) : Type 0 where
  pub first_long : length marks.first.items ≡ n
  pub second_long : length marks.second.items ≡ n
  pub first_below : All (λ m. m < round) marks.first.items
  pub second_below : All (λ m. m < round) marks.second.items

-- ---- tests

-- the sides of a row, if it has any
abbrev pub sides_in : NamesOf → Option Simple → Option (ℕ × ℕ)
sides_in of None = None
sides_in of (Some p) = sides_at of p

-- a row that has sides
abbrev pub join_list : ℕ → Option (ℕ × ℕ) → List ℕ
join_list row None = []
join_list row (Some s) = row ∷ []

abbrev pub row_sides : declared.Rows → ℕ → Option (ℕ × ℕ)
row_sides rows row = if slice_index_or rows.standing.items row 0 == 1 then sides_in rows.of (slice_get rows.grammar.now.patterns row) else None

-- the sides have the mark of the round, one among the first and one among the second
abbrev pub are_marked : List ℕ → List ℕ → ℕ → Option (ℕ × ℕ) → Bool
are_marked first second round None = false
are_marked first second round (Some s) =
    ((slice_index_or first s.0 0 == round) && (slice_index_or second s.1 0 == round))
    || ((slice_index_or first s.1 0 == round) && (slice_index_or second s.0 0 == round))
