use Rattle.std.proofs.Common.{◌≡◌, ◌≤◌, map, Some}
use Rattle.rng_model.specs.names.Names.{NameClass}
use Rattle.rng_names.specs.plain.Written.{longest}
use Rattle.rng_names.specs.views.GrammarClasses.{seen_class}
use Rattle.rng_names.proofs.CollectedNames.{HoldsBefore}
use Rattle.rng_names.proofs.grammar_classes.longest_among.Given as goal

abbrev pub invariant-classes : goal.invariant-classes
invariant-classes l = HoldsBefore (λ o. (c : NameClass) → o ≡ Some c → longest c ≤ l.most) (map seen_class l.classes) l.class-index
