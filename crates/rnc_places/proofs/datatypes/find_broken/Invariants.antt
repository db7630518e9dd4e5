use Rattle.std.proofs.Common.{◌≡◌, drop, map}
use Rattle.rnc_grammar.specs.views.Resolved.{scope_view}
use Rattle.rnc_places.specs.plain.BrokenDatatypes.{first_of_all, is_broken}
use Rattle.rnc_places.specs.views.DatatypeUses.{use_of}
use Rattle.rnc_places.proofs.DatatypeSteps.{behind}
use Rattle.rnc_places.proofs.datatypes.find_broken.Given as goal

abbrev pub invariant-loop-index : goal.invariant-loop-index
invariant-loop-index l = first_of_all (is_broken l.types (scope_view l.scope)) (map use_of l.uses)
    ≡ behind l.index (first_of_all (is_broken l.types (scope_view l.scope)) (map use_of (drop l.index l.uses)))
