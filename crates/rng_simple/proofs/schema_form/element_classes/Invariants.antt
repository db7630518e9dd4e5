use Rattle.std.proofs.Common.{◌≡◌, map, take}
use Rattle.rng_model.specs.names.NameViews.{class_of}
use Rattle.rng_simple.specs.views.GraphView.{classes_of}
use Rattle.rng_simple.proofs.schema_form.element_classes.Given as goal

abbrev pub invariant-elements : goal.invariant-elements
invariant-elements l = map (λ k. class_of k.now) l.classes.items ≡ take l.element-index (classes_of l.graph)
