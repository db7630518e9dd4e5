-- The name classes of a grammar in tables, row by row.
use Rattle.std.specs.Prelude.{Option, Some, None, option_map}
use Rattle.std.specs.Borrow.{Bor}
use Rattle.rng_model.specs.names.Names as names
use Rattle.rng_model.specs.names.NameViews.{class_of}
use Rattle.rng_model.specs.declared.name.NameClass.{NameClass}
use Rattle.rng_model.specs.declared.simple.PatternId.{PatternId}
use Rattle.rng_model.specs.declared.simple.Simple.{Simple}
use Rattle.rng_model.specs.declared.simple.Simple.TheVariants as simple

-- the view of an optional class
abbrev pub seen_class : Option (Bor NameClass) → Option names.NameClass
seen_class class = option_map (λ c. class_of c.now) class

-- the class of an element
abbrev pub element_class : NameClass × PatternId → Option names.NameClass
element_class e = Some (class_of e.0)

-- the class of a pattern that is an attribute
abbrev pub attribute_class : Simple → Option names.NameClass
attribute_class simple.NotAllowed = None
attribute_class simple.Empty = None
attribute_class simple.Text = None
attribute_class (simple.Element e) = None
attribute_class (simple.Attribute class body) = Some (class_of class.value)
attribute_class (simple.List body) = None
attribute_class (simple.Data datatype) = None
attribute_class (simple.DataExcept datatype except) = None
attribute_class (simple.Value value) = None
attribute_class (simple.OneOrMore body) = None
attribute_class (simple.Group a b) = None
attribute_class (simple.Interleave a b) = None
attribute_class (simple.Choice a b) = None
