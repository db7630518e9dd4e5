use Rattle.std.proofs.Common.{◌≡◌, ◌<◌, ◌∷◌, [], sym, ◌∙◌, length, slice_index_or, vec_items, arith}
use Rattle.std.proofs.lemmas.List.{length-map}
use Rattle.rng_rules.proofs.NamesMeetHeads.{inside_rows, one_item, only_above}
use Rattle.rng_rules.proofs.NamesMeetSearch.{group_at}
use Rattle.rng_rules.proofs.names_meet_heads.only_above.Goals as goal

pub has_equal_sides-requires : goal.has_equal_sides-requires
has_equal_sides-requires c =
    let rows = c.args.rows.now in
    let xs = c.as_slice.result.now in
    let inside : c.args.row < length rows.above.items =
    omega (arith, c.requires.below, c.requires.rows.long, c.requires.rows.is_above.long, length-map rows.above.items vec_items) in
    let one : slice_index_or xs 0 0 ∷ [] ≡ xs = one_item xs c.in-len1.len_at_least c.in-len1.len_below in
    inside_rows rows c.args.row (slice_index_or xs 0 0) c.requires.rows
    (sym (one ∙ c.as_slice.ensures.value ∙ group_at rows.above.items c.args.row c.index.result.now inside c.index.ensures))

pub returns-in-len1 : goal.returns-in-len1
returns-in-len1 c =
    let rows = c.args.rows.now in
    let xs = c.as_slice.result.now in
    let inside : c.args.row < length rows.above.items =
    omega (arith, c.requires.below, c.requires.rows.long, c.requires.rows.is_above.long, length-map rows.above.items vec_items) in
    let one : slice_index_or xs 0 0 ∷ [] ≡ xs = one_item xs c.in-len1.len_at_least c.in-len1.len_below in
    only_above rows c.args.row (slice_index_or xs 0 0) c.requires.rows
    (sym (one ∙ c.as_slice.ensures.value ∙ group_at rows.above.items c.args.row c.index.result.now inside c.index.ensures))
    (sym c.has_equal_sides.ensures ∙ c.if-not-has_equal_sides.true)
