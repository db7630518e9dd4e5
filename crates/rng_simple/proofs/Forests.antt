-- The trees of rows, row by row.
use Rattle.std.proofs.Common.{◌≡◌, refl, ap, sym, ◌∙◌, ℕ, ◌+◌, ◌<◌, List, [], ◌∷◌, ◌++◌, length, take, get_or, append-nil}
use Rattle.std.proofs.lemmas.List.{take_more}
use Rattle.std.proofs.lemmas.List.Sums.{fold_push}
use Rattle.rng_model.specs.simple.Tree.{Tree}
use Rattle.rng_model.proofs.ReplacedLists.{with_children}
use Rattle.rng_simple.specs.plain.Graph.{Spot}
use Rattle.rng_simple.specs.views.GraphView.{arity, forest, row_tree, with_row}
use Rattle.rng_simple.specs.declared.graph.parts.GraphRow.{GraphRow}

pub no_rows : forest [] ≡ []
unfolding forest
no_rows = refl

pub row_put : (rows : List GraphRow) (r : GraphRow) → forest (rows ++ r ∷ []) ≡ with_row (forest rows) r
unfolding forest
row_put rows r = fold_push with_row [] rows r

-- the rows up to the next one
pub next_row : (rows : List GraphRow) (i : ℕ) (r : GraphRow) → i < length rows → r ≡ get_or rows i r
    → forest (take (i + 1) rows) ≡ with_row (forest (take i rows)) r
next_row rows i r h e =
    ap forest (take_more rows i r h ∙ ap (λ x. take i rows ++ x ∷ []) (sym e)) ∙ row_put (take i rows) r

-- a row without children
pub leaf_put : (rows more : List GraphRow) (r : GraphRow) → more ≡ rows ++ r ∷ [] → arity r ≡ 0 → forest more ≡ forest rows ++ row_tree r [] ∷ []
leaf_put rows more r e none =
    ap forest e ∙ row_put rows r ∙ ap (λ ts. with_row ts r) (sym (append-nil (forest rows))) ∙ with_children (arity r) (row_tree r) (forest rows) [] none

-- a row around children that were put before it
pub put_around : (rows more : List GraphRow) (r : GraphRow) (ts us : List (Tree Spot)) → more ≡ rows ++ r ∷ [] → forest rows ≡ ts ++ us → arity r ≡ length us
    → forest more ≡ ts ++ row_tree r us ∷ []
put_around rows more r ts us e is long = ap forest e ∙ row_put rows r ∙ ap (λ xs. with_row xs r) is ∙ with_children (arity r) (row_tree r) ts us long
