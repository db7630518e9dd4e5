-- The patterns of rows, row by row.
use Rattle.std.proofs.Common.{◌≡◌, refl, ap, sym, ◌∙◌, ℕ, ◌+◌, ◌<◌, List, [], ◌∷◌, ◌++◌, length, take, get_or, append-nil}
use Rattle.std.proofs.lemmas.List.{take_more}
use Rattle.std.proofs.lemmas.List.Sums.{fold_push}
use Rattle.rng_model.specs.declared.schema_pattern.SchemaPattern.{SchemaPattern}
use Rattle.rng_model.specs.declared.schema_pattern.SchemaRow.{SchemaRow}
use Rattle.rng_model.specs.schema.Patterns.{Pattern}
use Rattle.rng_model.specs.views.SchemaView.{child, patterns_in, row_arity, row_pattern, schema_pattern_of, with_row}
use Rattle.rng_model.proofs.ReplacedLists.{with_children}

pub no_rows : patterns_in [] ≡ []
unfolding patterns_in
no_rows = refl

pub row_put : (rows : List SchemaRow) (r : SchemaRow) → patterns_in (rows ++ r ∷ []) ≡ with_row (patterns_in rows) r
unfolding patterns_in
row_put rows r = fold_push with_row [] rows r

-- the rows up to the next one
pub next_row : (rows : List SchemaRow) (i : ℕ) (r : SchemaRow) → i < length rows → r ≡ get_or rows i r
    → patterns_in (take (i + 1) rows) ≡ with_row (patterns_in (take i rows)) r
next_row rows i r h e =
    ap patterns_in (take_more rows i r h ∙ ap (λ x. take i rows ++ x ∷ []) (sym e)) ∙ row_put (take i rows) r

-- a row without children
pub leaf_put : (rows more : List SchemaRow) (r : SchemaRow) → more ≡ rows ++ r ∷ [] → row_arity r ≡ 0
    → patterns_in more ≡ patterns_in rows ++ row_pattern r [] ∷ []
leaf_put rows more r e none =
    ap patterns_in e ∙ row_put rows r ∙ ap (λ ps. with_row ps r) (sym (append-nil (patterns_in rows)))
    ∙ with_children (row_arity r) (row_pattern r) (patterns_in rows) [] none

-- a row around children that were put before it
pub put_around : (rows more : List SchemaRow) (r : SchemaRow) (ps qs : List Pattern) → more ≡ rows ++ r ∷ [] → patterns_in rows ≡ ps ++ qs
    → row_arity r ≡ length qs → patterns_in more ≡ ps ++ row_pattern r qs ∷ []
put_around rows more r ps qs e is long =
    ap patterns_in e ∙ row_put rows r ∙ ap (λ xs. with_row xs r) is ∙ with_children (row_arity r) (row_pattern r) ps qs long

-- rows that are one pattern
pub pattern_is : (p : SchemaPattern) (none : List SchemaRow) (q : Pattern) → none ≡ [] → patterns_in p.rows.items ≡ patterns_in none ++ q ∷ []
    → schema_pattern_of p ≡ q
pattern_is p none q e is = ap child (is ∙ ap (λ xs. patterns_in xs ++ q ∷ []) e ∙ ap (λ xs. xs ++ q ∷ []) no_rows)
