use Rattle.std.proofs.Common.{◌≡◌, ◌-◌, length, map, take}
use Rattle.rng_names.specs.views.GrammarClasses.{attribute_class, seen_class}
use Rattle.rng_names.proofs.grammar_classes.attribute_classes.Given as goal

abbrev pub invariant-patterns : goal.invariant-patterns
invariant-patterns l = map seen_class l.all.items ≡ take (length (map seen_class l.all.items)) (map attribute_class l.grammar.patterns)

abbrev pub decreases-patterns : goal.decreases-patterns
decreases-patterns l = length l.grammar.patterns - length l.all.items
