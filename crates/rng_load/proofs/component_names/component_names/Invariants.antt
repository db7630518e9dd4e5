use Rattle.std.proofs.Common.{◌-◌, length, map}
use Rattle.rnc_model.specs.grammar.Syntax.{components_of}
use Rattle.rnc_grammar.specs.views.View.{component_of}
use Rattle.rng_load.specs.plain.ComponentNames.{names_in}
use Rattle.rng_load.specs.views.FilesView.{taken_files_of}
use Rattle.rng_load.proofs.Overriding.GatheredNames.{IsGathering, all_included}
use Rattle.rng_load.proofs.component_names.component_names.Given as goal

abbrev pub invariant-included : goal.invariant-included
invariant-included l = IsGathering (taken_files_of l.trees) (components_of (map component_of l.fn.components)) l.looked (names_in l.names)

abbrev pub decreases-included : goal.decreases-included
decreases-included l = length (all_included (taken_files_of l.trees) (components_of (map component_of l.fn.components))) - l.looked
