use Rattle.std.proofs.Common.{◌≡◌, ◌++◌, Some, map}
use Rattle.std.specs.Vec.Iter.{drain_items}
use Rattle.rng_model.specs.documents.EventViews.{attribute_of}
use Rattle.pyx.specs.plain.DocumentReader.{declared_in}
use Rattle.pyx.specs.plain.TagReader.{expanded}
use Rattle.pyx.specs.views.WrittenAttributes.{written_attribute}
use Rattle.pyx.proofs.attributes.fill.Given as goal

abbrev pub invariant-others : goal.invariant-others
invariant-others l = record {
  so_far : expanded (declared_in l.elements.opened) (map written_attribute l.yielded) ≡ Some (map attribute_of l.attrs.items);
  all : l.yielded ++ drain_items l.attribute-iterator ≡ l.fn.others.items;
}
