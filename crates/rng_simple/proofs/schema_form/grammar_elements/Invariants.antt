use Rattle.std.proofs.Common.{map, take}
use Rattle.rng_model.specs.names.NameViews.{class_of}
use Rattle.rng_simple.specs.views.GrammarElements.{AreElementCopies}
use Rattle.rng_simple.proofs.schema_form.grammar_elements.Given as goal

abbrev pub invariant-listed : goal.invariant-listed
invariant-listed l = AreElementCopies (map (λ k. class_of k.now) l.classes) l.contents l.places (take l.element-index l.listed) l.elements.items
