use Rattle.std.proofs.Common.{◌≡◌, take}
use Rattle.std.specs.List.{list_all, list_any}
use Rattle.rng_model.specs.simple.Table.{Table}
use Rattle.rng_deriv_laws.specs.plain.Derivatives.{has_data, is_nullable}
use Rattle.rng_deriv_table.specs.plain.Facts.{has_subsequences}
use Rattle.rng_deriv_table.specs.plain.Reduced.{has_attribute}
use Rattle.rng_deriv_table.specs.views.Trees.{tree_of}
use Rattle.rng_deriv_table.proofs.KnownFacts.{depth_among, elements_among}
use Rattle.rng_deriv_table.proofs.pattern_table.PatternTable.facts_of_choice.Given as goal

abbrev pub invariant-loop-member : goal.invariant-loop-member
invariant-loop-member l = (t : Table) → record {
  nullable : l.known.nullable ≡ list_any (λ m. is_nullable (tree_of t l.self m.0)) (take l.member-index l.members);
  attributes : l.known.attributes ≡ list_any (λ m. has_attribute (tree_of t l.self m.0)) (take l.member-index l.members);
  tests_strings : l.known.tests_strings ≡ list_any (λ m. has_data (tree_of t l.self m.0)) (take l.member-index l.members);
  subsequences : l.known.subsequences ≡ list_all (λ m. has_subsequences (tree_of t l.self m.0)) (take l.member-index l.members);
  elements : l.known.elements ≡ elements_among (tree_of t l.self) (take l.member-index l.members);
  members : l.known.members ≡ 1;
  depth : l.known.depth ≡ depth_among (tree_of t l.self) (take l.member-index l.members);
}
