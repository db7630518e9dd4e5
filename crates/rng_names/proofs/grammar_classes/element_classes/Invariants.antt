use Rattle.std.proofs.Common.{◌≡◌, ◌-◌, length, map, take}
use Rattle.rng_names.specs.views.GrammarClasses.{element_class, seen_class}
use Rattle.rng_names.proofs.grammar_classes.element_classes.Given as goal

abbrev pub invariant-elements : goal.invariant-elements
invariant-elements l = map seen_class l.all.items ≡ take (length (map seen_class l.all.items)) (map element_class l.grammar.elements)

abbrev pub decreases-elements : goal.decreases-elements
decreases-elements l = length l.grammar.elements - length l.all.items
