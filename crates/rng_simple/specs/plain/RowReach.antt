-- What is reached from a row, through its children, and from an element to the row of its body.
use Rattle.std.specs.Prelude.{ℕ, List, [], ◌∷◌, slice_index_or}
use Rattle.rng_simple.specs.declared.rows.Row.{Row}
use Rattle.rng_simple.specs.declared.rows.Row.TheVariants as row

-- the rows next to a row
abbrev pub nexts : (ℕ → ℕ) → Row → List ℕ
nexts content row.NotAllowed = []
nexts content row.Empty = []
nexts content row.Text = []
nexts content (row.Element k) = content k ∷ []
nexts content (row.Attribute c a) = a ∷ []
nexts content (row.List a) = a ∷ []
nexts content (row.Data d) = []
nexts content (row.DataExcept d a) = a ∷ []
nexts content (row.Value v) = []
nexts content (row.OneOrMore a) = a ∷ []
nexts content (row.Choice a b) = a ∷ (b ∷ [])
nexts content (row.Group a b) = a ∷ (b ∷ [])
nexts content (row.Interleave a b) = a ∷ (b ∷ [])

abbrev pub row_next : List Row → (ℕ → ℕ) → ℕ → List ℕ
row_next rs content i = nexts content (slice_index_or rs i row.Empty)

-- the row of an element's body, or that of empty past the end
abbrev pub content_of : List ℕ → ℕ → ℕ
content_of rows k = slice_index_or rows k 0
