use Rattle.std.proofs.Common.{◌++◌, List, refl, ap, ◌∙◌, take}
use Rattle.std.proofs.lemmas.List.{append_assoc, take_all}
use Rattle.rng_deriv_laws.specs.plain.Derivatives.{Way, behind}
use Rattle.rng_model.specs.simple.Table.{Table}
use Rattle.rng_deriv_table.specs.views.Trees.{tree_of}
use Rattle.rng_deriv_table.proofs.Trees.{Longer-trans}
use Rattle.rng_deriv_ways.specs.plain.Ways.{filled, ways_by}
use Rattle.rng_deriv_ways.specs.declared.way.LeafWay as numbered
use Rattle.rng_deriv_ways.proofs.AddedWays.{filled_more, filled_stays}
use Rattle.rng_deriv_ways.proofs.NumberedWays.{stands_as, stands_longer, stands_then}
use Rattle.rng_deriv_ways.proofs.filling.add_filled.Goals as goal

pub ways-preserved : goal.ways-preserved
ways-preserved c =
    let first = c.args.table.now in
    let base = c.fill.new.table in
    let new = c.add_way.new.table in
    let ways : List numbered.LeafWay = c.args.ways.now in
    let i = c.ways.way-index in
    let longer = Longer-trans first c.ways.table base c.ways.invariant.longer c.in_ok-rest.ensures.longer in
    let own = c.requires.ways i _ c.ways-test.true in
    let Front : Table → List Way = λ t. ways_by (tree_of t first) c.args.all.now.items in
    let Side : Table → List Way = λ t. behind (filled (tree_of t first) c.args.hole) (ways_by (tree_of t first) (take i ways)) in
    record {
      longer = Longer-trans first base new longer c.in_ok-add_way.ensures.longer;
      ways = stands_as new c.add_way.new.all.items _ _
          (λ t. append_assoc (Front t) (Side t) _ ∙ ap (λ us. Front t ++ us)
          (filled_more t first base c.args.hole ways i _ _ c.in_ok-rest.rest c.ways-test.true longer own refl
          (c.in_ok-rest.ensures.tree.is t ∙ filled_stays t first c.ways.table c.args.hole _ c.ways.invariant.longer c.requires.hole own.1)))
          (stands_then base new c.ways.all.items c.add_way.new.all.items _ (λ t. Front t ++ Side t)
          (stands_longer c.ways.table base c.ways.all.items (λ t. Front t ++ Side t) c.in_ok-rest.ensures.longer c.ways.invariant.ways)
          c.in_ok-add_way.ensures.ways);
    }

pub returns-clause-ways : goal.returns-clause-ways
returns-clause-ways c =
    let first = c.args.table.now in
    stands_as c.ways.table c.ways.all.items _ _
    (λ t. ap (λ ws. ways_by (tree_of t first) c.args.all.now.items ++ behind (filled (tree_of t first) c.args.hole) (ways_by (tree_of t first) ws))
    (take_all c.ways.way-index c.args.ways.now c.ways-test.false)) c.ways.invariant.ways
