use Rattle.std.proofs.Common.{◌≡◌, ◌++◌, map}
use Rattle.std.specs.Vec.Iter.{into_iter_items}
use Rattle.rng_deriv_laws.specs.plain.Derivatives.{behind, joined_of}
use Rattle.rng_plain_matcher.specs.views.Trees.{connector_of, tree_of}
use Rattle.rng_plain_matcher.specs.views.Ways.{way_of}
use Rattle.rng_plain_matcher.proofs.ways.before.Given as goal

abbrev pub invariant-ways : goal.invariant-ways
invariant-ways l = record {
  all : l.yielded ++ into_iter_items l.way-iterator ≡ l.fn.ways.items;
  made : map way_of l.all.items ≡ behind (λ rest. joined_of (connector_of l.connector) rest (tree_of l.second)) (map way_of l.yielded);
}
