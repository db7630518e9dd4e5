-- Name classes that are one name.
use Rattle.std.specs.Prelude.{◌≡◌}
use Rattle.rng_model.specs.declared.name.Name as declared
use Rattle.rng_model.specs.declared.name.NameClass.{NameClass, Name}

-- the class is written as a name alone
abbrev pub IsPlain : NameClass → Type 0
IsPlain c = (n : declared.Name) × (c ≡ Name n)
