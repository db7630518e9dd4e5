use Rattle.std.proofs.Common.{◌≡◌, All, map, take}
use Rattle.element_events.specs.views.Told.{attribute_told}
use Rattle.rncv_c_values.specs.views.Attributes.{IsTextAttribute, attribute_of}
use Rattle.rncv_c_values.proofs.attributes.some_attributes.Given as goal

-- the attributes so far are texts, and are copied
abbrev pub invariant-loop-attribute : goal.invariant-loop-attribute
invariant-loop-attribute l = record {
  told : map attribute_told l.told.items ≡ map attribute_of (take l.attribute-index l.attributes);
  texts : All IsTextAttribute (take l.attribute-index l.attributes);
}
