use Rattle.std.proofs.Common.{◌≡◌, ◌∙◌, ◌<◌, ◌∷◌, [], ap, length, slice_index_or, subst, sym, arith}
use Rattle.std.proofs.lemmas.List.{get_or_default}
use Rattle.rng_rules.proofs.NamesMeetHeads.{group_by_head}
use Rattle.rng_rules.proofs.NamesMeetSearch.{if_ok}
use Rattle.rng_rules.proofs.names_meet_search.Search.group_meets.Goals as goal

pub meets_itself-requires-clause-below : goal.meets_itself-requires-clause-below
meets_itself-requires-clause-below c =
    let below = c.requires.below 0 0 (omega (arith, c.in-len1.len_at_least)) in
    let long = c.requires.search.long in
    let row = slice_index_or c.args.group.now 0 0 in
    let inside : row < length c.args.self.now.heads.items = omega (arith, below, long) in
    let is : c.index-head.result.now ≡ slice_index_or c.args.self.now.heads.items row 0 = c.index-head.ensures
    ∙ get_or_default c.args.self.now.heads.items row c.index-head.result.now 0 inside in
    subst (λ k. k < length c.args.rows.now.standing.items) (sym is) (c.requires.search.heads row inside).below

pub returns-in-len1-clause-only : goal.returns-in-len1-clause-only
returns-in-len1-clause-only c =
    let group = c.args.group.now in
    let heads = c.args.self.now.heads.items in
    let below = c.requires.below 0 0 (omega (arith, c.in-len1.len_at_least)) in
    let long = c.requires.search.long in
    let inside : slice_index_or group 0 0 < length heads = omega (arith, below, long) in
    let is : c.index-head.result.now ≡ slice_index_or heads (slice_index_or group 0 0) 0 = c.index-head.ensures
    ∙ get_or_default heads (slice_index_or group 0 0) c.index-head.result.now 0 inside in
    let same = group_by_head c.args.rows.now heads group (c.index-head.result.now ∷ []) c.in-len1.len_at_least c.in-len1.len_below
    c.requires.search.heads inside (ap (λ k. k ∷ []) is) in
    if_ok c.meets_itself.result (λ yes found is. same.1 (found is)) c.meets_itself.ensures.only

pub returns-in-len1-clause-all : goal.returns-in-len1-clause-all
returns-in-len1-clause-all c =
    let group = c.args.group.now in
    let heads = c.args.self.now.heads.items in
    let below = c.requires.below 0 0 (omega (arith, c.in-len1.len_at_least)) in
    let long = c.requires.search.long in
    let inside : slice_index_or group 0 0 < length heads = omega (arith, below, long) in
    let is : c.index-head.result.now ≡ slice_index_or heads (slice_index_or group 0 0) 0 = c.index-head.ensures
    ∙ get_or_default heads (slice_index_or group 0 0) c.index-head.result.now 0 inside in
    let same = group_by_head c.args.rows.now heads group (c.index-head.result.now ∷ []) c.in-len1.len_at_least c.in-len1.len_below
    c.requires.search.heads inside (ap (λ k. k ∷ []) is) in
    if_ok c.meets_itself.result (λ yes found m. found (same.0 m)) c.meets_itself.ensures.all
