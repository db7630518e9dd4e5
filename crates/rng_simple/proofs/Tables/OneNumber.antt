-- In a table whose rows and labels are distinct, numbers are equal exactly if their trees are.
use Rattle.std.proofs.Common.{◌≡◌, ◌↔◌, refl, ap, sym, ◌∙◌, ℕ, zero, suc, ◌<◌, List, length, Some, arith}
use Rattle.rng_model.specs.simple.Tree.{Simple}
use Rattle.rng_simple.proofs.NumberedGraphs.Graphs.{found}
use Rattle.rng_simple.specs.views.Rows.{Labels, class_at, datatype_at, value_at, row_tree, tree_at, AreChildrenBelow, IsLabelled, AreDistinctRows, AreRows}
use Rattle.rng_simple.specs.declared.rows.Row.{Row}
use Rattle.rng_simple.specs.declared.rows.Row.TheVariants as row
use Rattle.rng_simple.proofs.Tables.RowTrees.{tree_at-over_children}

-- the labels are distinct
pub record AreDistinctLabels (l : Labels) : Type 0 where
  pub classes : (c d : ℕ) → c < length l.classes → d < length l.classes → class_at l c ≡ class_at l d → c ≡ d
  pub datatypes : (c d : ℕ) → c < length l.datatypes → d < length l.datatypes → datatype_at l c ≡ datatype_at l d → c ≡ d
  pub values : (v w : ℕ) → v < length l.values → w < length l.values → (value_at l v).0 ≡ (value_at l w).0 → (value_at l v).1 ≡ (value_at l w).1 → v ≡ w

abbrev TellApart : (ℕ → Simple ℕ) → ℕ → ℕ → Type 0
TellApart of m n = (a b : ℕ) → a < m → b < n → of a ≡ of b → a ≡ b

module _ (l : Labels) (apart : AreDistinctLabels l) where
  -- rows with equal trees are equal, if their children are distinguished by their trees
  same_row : (of : ℕ → Simple ℕ) (m n : ℕ) (r q : Row) → AreChildrenBelow m r → AreChildrenBelow n q → IsLabelled l r → IsLabelled l q → TellApart of m n
      → row_tree l of r ≡ row_tree l of q → r ≡ q
  same_row of m n row.NotAllowed row.NotAllowed x y u v t e = refl
  same_row of m n row.Empty row.Empty x y u v t e = refl
  same_row of m n row.Text row.Text x y u v t e = refl
  same_row of m n (row.Element k) (row.Element j) x y u v t e = let h : k ≡ j = cc in ap row.Element h
  same_row of m n (row.Attribute c a) (row.Attribute d b) x y u v t e =
      let h : of a ≡ of b = cc in
      let i : class_at l c ≡ class_at l d = cc in
      let g = t a b x y h in
      let f = apart.classes c d u v i in cc
  same_row of m n (row.List a) (row.List b) x y u v t e = let h : of a ≡ of b = cc in ap row.List (t a b x y h)
  same_row of m n (row.Data c) (row.Data d) x y u v t e = let i : datatype_at l c ≡ datatype_at l d = cc in ap row.Data (apart.datatypes c d u v i)
  same_row of m n (row.DataExcept c a) (row.DataExcept d b) x y u v t e =
      let h : of a ≡ of b = cc in
      let i : datatype_at l c ≡ datatype_at l d = cc in
      let g = t a b x y h in
      let f = apart.datatypes c d u v i in cc
  same_row of m n (row.Value c) (row.Value d) x y u v t e =
      let i : (value_at l c).0 ≡ (value_at l d).0 = cc in
      let j : (value_at l c).1 ≡ (value_at l d).1 = cc in
      ap row.Value (apart.values c d u v i j)
  same_row of m n (row.OneOrMore a) (row.OneOrMore b) x y u v t e = let h : of a ≡ of b = cc in ap row.OneOrMore (t a b x y h)
  same_row of m n (row.Choice a c) (row.Choice b d) x y u v t e =
      let h : of a ≡ of b = cc in let i : of c ≡ of d = cc in let g = t a b x.0 y.0 h in let f = t c d x.1 y.1 i in cc
  same_row of m n (row.Group a c) (row.Group b d) x y u v t e =
      let h : of a ≡ of b = cc in let i : of c ≡ of d = cc in let g = t a b x.0 y.0 h in let f = t c d x.1 y.1 i in cc
  same_row of m n (row.Interleave a c) (row.Interleave b d) x y u v t e =
      let h : of a ≡ of b = cc in let i : of c ≡ of d = cc in let g = t a b x.0 y.0 h in let f = t c d x.1 y.1 i in cc
  same_row of m n r q x y u v t e = cc

  module _ (rs : List Row) (rows : AreRows l rs) (distinct : AreDistinctRows rs) where
    -- by induction on a bound of the first number
    told_apart : (n : ℕ) (i j : ℕ) → i < n → i < length rs → j < length rs → tree_at l rs i ≡ tree_at l rs j → i ≡ j
    told_apart zero i j m h k e = absurd (omega arith)
    told_apart (suc n) i j m h k e =
        let r = found rs i h in
        let q = found rs j k in
        let same : r.0 ≡ q.0 =
        same_row (tree_at l rs) i j r.0 q.0 (rows.falls i r.0 r.1) (rows.falls j q.0 q.1) (rows.labelled i r.0 r.1) (rows.labelled j q.0 q.1)
        (λ a b x y f. told_apart n a b (omega (arith, x, m)) (omega (arith, x, h)) (omega (arith, y, k)) f)
        (sym (tree_at-over_children l rs i r.0 rows.falls r.1) ∙ e ∙ tree_at-over_children l rs j q.0 rows.falls q.1) in
        distinct i j r.0 r.1 (q.1 ∙ ap (λ z. Some z) (sym same))

    pub one_number : (i j : ℕ) → i < length rs → j < length rs → (tree_at l rs i ≡ tree_at l rs j) ↔ (i ≡ j)
    one_number i j h k = (told_apart (length rs) i j h h k, λ e. ap (tree_at l rs) e)
