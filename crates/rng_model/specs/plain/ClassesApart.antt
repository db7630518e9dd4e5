-- Name classes that have no name in common.
use Rattle.rng_model.specs.names.Names.{Name, NameClass, In}

-- no name is in both classes, whatever its bytes
abbrev pub AreApart : NameClass → NameClass → Type 0
AreApart c d = (q : Name) → In c q → ¬ (In d q)
