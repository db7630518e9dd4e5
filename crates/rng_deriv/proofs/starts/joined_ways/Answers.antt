use Rattle.std.proofs.Common.{subst, List, []}
use Rattle.std.proofs.lemmas.List.{take_all}
use Rattle.rng_model.specs.simple.Table.{Table}
use Rattle.rng_model.specs.declared.type_set.TypeSet.TheVariants.{Profile}
use Rattle.rng_deriv_table.specs.views.Trees.{tree_of}
use Rattle.rng_deriv_table.proofs.Trees.{Longer-trans}
use Rattle.rng_deriv_ways.specs.plain.Ways.{ways_by}
use Rattle.rng_deriv_ways.specs.declared.way.LeafWay as numbered
use Rattle.rng_deriv.specs.views.Starts.{OpensLike}
use Rattle.rng_deriv.proofs.JoinedStarts.{next_joined}
use Rattle.rng_deriv.proofs.starts.joined_ways.Goals as goal

-- that numbers are in the table does not depend on the grammar, so any grammar will do
pub add_way-requires-clause-inside : goal.add_way-requires-clause-inside
add_way-requires-clause-inside c =
    let nothing : Table = record { patterns = []; elements = []; start = record { 0 = 0 }; types = Profile } in
    (c.ways.invariant.joined nothing).inside

pub ways-preserved : goal.ways-preserved
ways-preserved c = record {
  longer = Longer-trans c.args.table.now c.ways.table c.add_way.new.table c.ways.invariant.longer c.in_ok-add_way.ensures.longer;
  joined = λ t. next_joined t c.args.table.now c.ways.table c.add_way.new.table c.args.ways.now c.ways.way-index _ c.ways.joined.items
      c.add_way.new.all.items c.ways-test.true c.requires c.ways.invariant.longer (c.ways.invariant.joined t) (c.in_ok-add_way.ensures.ways t);
}

pub returns-clause-ways : goal.returns-clause-ways
returns-clause-ways c = λ t.
    subst (λ (ws : List numbered.LeafWay). OpensLike t c.ways.table (ways_by (tree_of t c.args.table.now) ws) c.ways.joined.items)
    (take_all c.ways.way-index c.args.ways.now c.ways-test.false) (c.ways.invariant.joined t)
