-- Rows of expressions are written out into rows without counts, one row after the other.
use Rattle.std.specs.Prelude.{ℕ, zero, suc, ◌+◌, ◌-◌, ◌*◌, List, [], ◌∷◌, ◌++◌, length, take, drop}
use Rattle.std.specs.Prelude.{Option, Some, None, if◌then◌else◌, nat_le}
use Rattle.rng_model.specs.regexes.Expressions.{Class}
use Rattle.rng_model.specs.regexes.plain.Postfix.{nothing_row, class_row, both_row, either_row, times_row, Row}
use Rattle.rng_model.specs.regexes.Sizes.{most_copies, most_size}
use Rattle.xsd_positions.specs.declared.drafts.Kind.{Kind}
use Rattle.xsd_positions.specs.declared.drafts.Kind.TheVariants as kind
use Rattle.xsd_positions.specs.declared.drafts.Block.{Block}
use Rattle.xsd_positions.specs.plain.Folds.{folded}

-- What is written so far: rows, the classes in them, and the parts that are not yet a part of another one, the last one
-- first.
pub record Draft : Type 0 where
  pub rows : List Kind
  pub classes : List Class
  pub blocks : List Block

abbrev pub nothing_written : Draft
nothing_written = record { rows = []; classes = []; blocks = [] }

-- the size of all parts
abbrev pub total_of : List Block → ℕ
total_of [] = 0
total_of (b ∷ bs) = b.total

abbrev pub with_block : ℕ → ℕ → Draft → Option Draft
with_block start size d =
    if nat_le (total_of d.blocks + size) most_size
    then Some (record { rows = d.rows; classes = d.classes; blocks = record { start = start; size = size; total = total_of d.blocks + size } ∷ d.blocks })
    else None

abbrev pub with_leaf : Kind → Draft → Option Draft
with_leaf k d = with_block (length d.rows) 1 (record { rows = d.rows ++ k ∷ []; classes = d.classes; blocks = d.blocks })

abbrev pub with_class : Class → Draft → Option Draft
with_class k d =
    if nat_le most_size (length d.classes)
    then None
    else with_leaf (kind.OneOf (length d.classes)) (record { rows = d.rows; classes = d.classes ++ k ∷ []; blocks = d.blocks })

abbrev pub with_pair : Kind → List Block → Draft → Option Draft
with_pair k [] d = None
with_pair k (b ∷ []) d = None
with_pair k (b ∷ a ∷ bs) d = with_block a.start (a.size + b.size) (record { rows = d.rows ++ k ∷ []; classes = d.classes; blocks = bs })

-- so many copies of the rows
unfoldable pub copied : {A : Type 0} → ℕ → List A → List A
copied zero xs = []
copied (suc n) xs = copied n xs ++ xs

-- the rows of a part with the count of a quantifier
abbrev pub rows_counted : ℕ → Option ℕ → List Kind → List Kind
rows_counted n None xs = copied (suc n) xs ++ (kind.Repeated ∷ copied n (kind.Both ∷ []))
rows_counted n (Some m) xs =
    if nat_le n m
    then copied m xs ++ (kind.Nothing ∷ (copied (m - n) (kind.Both ∷ kind.Optional ∷ []) ++ copied n (kind.Both ∷ [])))
    else kind.Never ∷ []

-- the rows from this one on, with the count of a quantifier
abbrev pub counted_from : ℕ → ℕ → Option ℕ → List Kind → List Kind
counted_from start n m rows = take start rows ++ rows_counted n m (drop start rows)

abbrev pub with_count : ℕ → Option ℕ → List Block → Draft → Option Draft
with_count n m [] d = None
with_count n m (a ∷ bs) d =
    with_block a.start (suc (most_copies n m * a.size)) (record { rows = counted_from a.start n m d.rows; classes = d.classes; blocks = bs })

abbrev pub with_row : Row → Draft → Option Draft
with_row nothing_row d = with_leaf kind.Nothing d
with_row (class_row k) d = with_class k d
with_row both_row d = with_pair kind.Both d.blocks d
with_row either_row d = with_pair kind.Either d.blocks d
with_row (times_row n m) d = with_count n m d.blocks d

abbrev pub written : List Row → Draft → Option Draft
written rows d = folded with_row rows d
