use Rattle.std.proofs.Common.{◌≡◌, IsPermutation, List, rules, subst, sym}
use Rattle.std.proofs.lemmas.List.Sorted.{All-permutation}
use Rattle.std.proofs.lemmas.Result.{IfOk-weaker as if_ok}
use Rattle.rng_deriv_table.specs.views.Trees.{tree_of}
use Rattle.rng_deriv_ways.specs.plain.Ways.{AreInside, IsInside, StandFor, ways_by}
use Rattle.rng_deriv_ways.specs.declared.way.LeafWay.{LeafWay}
use Rattle.rng_deriv_ways.proofs.NumberedWays.{stands_itself}
use Rattle.rng_deriv_ways.proofs.JoinedWays.{reordered_stand}
use Rattle.rng_deriv_ways.proofs.filling.joined_ways.Goals as goal

pub returns-then-are_rising-clause-ways : goal.returns-then-are_rising-clause-ways
returns-then-are_rising-clause-ways c =
    let ns = c.args.table.now in
    let ways : List LeafWay = c.args.ways.now in
    if_ok c.copied_ways.result _ _ (λ copy e. subst (λ all. StandFor ns all (λ t. ways_by (tree_of t ns) ways)) (sym e) (stands_itself ns ways c.requires))
    c.copied_ways.ensures

pub joined_runs-requires : goal.joined_runs-requires
joined_runs-requires c =
    let ns = c.args.table.now in
    let made : c.extend_from_slice.new.self.items ≡ c.args.ways.now = search rules in
    subst (AreInside ns) (sym c.as_slice.ensures.value)
    (All-permutation (IsInside ns) _ _ c.sort_by_key.ensures.permutation (subst (AreInside ns) (sym made) c.requires))

pub returns-clause-ways : goal.returns-clause-ways
returns-clause-ways c =
    let old = c.args.table.now in
    let new = c.joined_runs.new.table in
    let ways : List LeafWay = c.args.ways.now in
    let sorted : List LeafWay = c.as_slice.result.now in
    let same : IsPermutation ways sorted = search rules in
    if_ok c.joined_runs.result _ _ (λ all h. reordered_stand old new ways sorted all.items same h) c.joined_runs.ensures.ways
