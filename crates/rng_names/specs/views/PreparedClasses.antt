-- Name classes that are prepared for comparisons.
use Rattle.rng_model.specs.declared.name.NameClass.{NameClass}
use Rattle.rng_model.specs.declared.name.NameClass.TheVariants as class
use Rattle.rng_names.specs.views.PlainNames.{IsPlain}
use Rattle.rng_names.specs.declared.prepared_class.Kind.{Kind}
use Rattle.rng_names.specs.declared.prepared_class.Kind.TheVariants as kind

abbrev pub kind_class : Kind → NameClass
kind_class (kind.Name n) = class.Name n.now
kind_class (kind.Table t) = t.value

-- a class with tables is not a name
abbrev pub IsToldApart : Kind → Type 0
IsToldApart (kind.Name n) = Unit {0}
IsToldApart (kind.Table t) = ¬ (IsPlain t.value)
