use Rattle.std.proofs.Common.{◌++◌, ◌∷◌, [], ap, ap₂, sym, ◌∙◌, map, vec_items}
use Rattle.std.proofs.lemmas.List.{map_push, get_or_default}
use Rattle.rng_model.proofs.Places.{one_more_mapped}
use Rattle.rng_simple.specs.plain.RowReach.{content_of, nexts}
use Rattle.rng_simple.proofs.reaching.next_rows.Goals as goal

pub rows-preserved : goal.rows-preserved
rows-preserved c =
    let f = nexts (content_of c.args.contents.now) in
    ap (map vec_items) c.in_ok-push.ensures.items ∙ map_push vec_items c.rows.all.items _
    ∙ ap₂ (λ xs x. xs ++ x ∷ []) c.rows.invariant c.in_ok-rows_next_to.ensures
    ∙ sym (one_more_mapped f c.args.rows.now c.rows.row-index _ c.rows-test.true (get_or_default c.args.rows.now c.rows.row-index _ _ c.rows-test.true))
