use Rattle.std.proofs.Common.{◌↔◌, ◌<◌, ◌+◌, ◌*◌, All, List, length, map, take}
use Rattle.rng_model.specs.matching.Document.{Attribute, Item}
use Rattle.rng_model.specs.simple.Table.{Table}
use Rattle.rng_model.specs.matching.GrammarMatching.{Reading}
use Rattle.rng_deriv_laws.specs.plain.Taking.{Takes}
use Rattle.rng_deriv_laws.specs.plain.Restricted.{HasTexts, MayBeListed}
use Rattle.rng_deriv_laws.specs.plain.Derivatives.{closed}
use Rattle.rng_deriv_laws.proofs.SameWays.{choice_all}
use Rattle.rng_deriv_table.specs.views.Choices.{SomeTakes}
use Rattle.rng_deriv_table.specs.views.PatternTable.{Longer}
use Rattle.rng_deriv_table.specs.views.Trees.{tree_of}
use Rattle.rng_deriv_ways.specs.plain.Closing.{IsBareOfAttributes}
use Rattle.rng_deriv_ways.specs.views.KnownRests.{AreRestsOf}
use Rattle.rng_deriv_ways.proofs.closing.+closing.Given as goal

abbrev pub decreases-rest_of : goal.decreases-rest_of
decreases-rest_of l = 3 * l.number.0 + 2

abbrev pub decreases-close_parts : goal.decreases-close_parts
decreases-close_parts l = 3 * l.number.0 + 1

abbrev pub decreases-close_choice : goal.decreases-close_choice
decreases-close_choice l = 3 * l.number.0

abbrev pub invariant-close_choice-members : goal.invariant-close_choice-members
invariant-close_choice-members l = record {
  longer : Longer l.fn.table l.table;
  known : AreRestsOf l.table l.known;
  inside : All (λ m. m.0 < length l.table) l.closed.items;
  takes : (t : Table) (g : Reading) (xs : List Attribute) (ns : List Item) → SomeTakes g (tree_of t l.table) l.closed.items xs ns
      ↔ Takes g (choice_all (map (λ m. closed (tree_of t l.fn.table m.0)) (take l.member-index l.member-items))) xs ns;
  bare : (t : Table) → All (λ m. HasTexts MayBeListed (tree_of t l.fn.table m.0)) l.member-items
      → All (λ m. IsBareOfAttributes (tree_of t l.table m.0)) l.closed.items;
}
