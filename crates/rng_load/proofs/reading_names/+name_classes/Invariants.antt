use Rattle.std.proofs.Common.{◌≡◌, ◌++◌, map, drop}
use Rattle.rng_model.specs.names.NameViews.{namespace_bytes, class_of}
use Rattle.rnc_model.specs.grammar.Syntax.{classes_of}
use Rattle.rnc_grammar.specs.views.View as file
use Rattle.rnc_model.specs.loading.Places.{classes_in}
use Rattle.rng_load.proofs.reading_names.+name_classes.Given as goal

abbrev pub invariant-name_classes-loop-class : goal.invariant-name_classes-loop-class
invariant-name_classes-loop-class l = classes_in (namespace_bytes l.inherited) (classes_of (map file.class_of l.all)) ≡ map class_of l.classes.items
    ++ classes_in (namespace_bytes l.inherited) (classes_of (map file.class_of (drop l.class-index l.all)))
