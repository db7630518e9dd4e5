use Rattle.std.proofs.Common.{◌≡◌, ◌+◌, length, map}
use Rattle.rng_model.specs.datatypes.Texts.{pieces}
use Rattle.rng_model.specs.views.PiecesView.{pieces_left}
use Rattle.rng_model.specs.matching.GrammarMatching.{reading_of}
use Rattle.rng_deriv_laws.specs.plain.Derivatives.{after_piece, in_turn, rests_of}
use Rattle.rng_plain_matcher.specs.plain.First.{takes_first}
use Rattle.rng_plain_matcher.specs.views.Trees.{tree_of}
use Rattle.rng_plain_matcher.specs.views.Ways.{way_of}
use Rattle.rng_plain_matcher.proofs.Ranks.{rank}
use Rattle.rng_plain_matcher.proofs.WayLists.{rests_with}
use Rattle.rng_plain_matcher.proofs.derivatives.+derivatives.Given as goal

abbrev pub decreases-after : goal.decreases-after
decreases-after l = rank l.first + 2

abbrev pub decreases-rests : goal.decreases-rests
decreases-rests l = rank l.first + 1

abbrev pub decreases-takes : goal.decreases-takes
decreases-takes l = rank l.first

abbrev pub decreases-takes_text : goal.decreases-takes_text
decreases-takes_text l = 4

abbrev pub decreases-list_has : goal.decreases-list_has
decreases-list_has l = 3

abbrev pub decreases-takes_attribute : goal.decreases-takes_attribute
decreases-takes_attribute l = 9

abbrev pub decreases-has_text : goal.decreases-has_text
decreases-has_text l = 8

abbrev pub invariant-rests-ways : goal.invariant-rests-ways
invariant-rests-ways l =
    let takes = takes_first (reading_of l.context.grammar.now) l.first in
    rests_with takes (map way_of l.ways.items) (tree_of l.left) ≡ rests_of takes (map way_of l.fn.ways.items)

abbrev pub decreases-rests-ways : goal.decreases-rests-ways
decreases-rests-ways l = length l.ways.items

abbrev pub invariant-list_has-pieces : goal.invariant-list_has-pieces
invariant-list_has-pieces l =
    let next = after_piece (reading_of l.context.grammar.now) in
    in_turn next (tree_of l.left) (pieces_left l.piece-iterator) ≡ in_turn next (tree_of l.fn.body) (pieces l.text)
