-- What each fault says of a datatype.
use Rattle.std.specs.Prelude.{is_some, IsTrue}
use Rattle.rng_model.specs.simple.Tree.{Datatype}
use Rattle.rng_model.specs.datatypes.Facets.{named}
use Rattle.rng_model.specs.datatypes.Datatypes.{libraries, type_named, IsKnownDatatype}
use Rattle.rng_types.specs.declared.builtin.TypeFault.{TypeFault}
use Rattle.rng_types.specs.declared.builtin.TypeFault.TheVariants as faults

-- a library has the URI of the datatype's library
abbrev pub HasLibrary : Datatype → Type 0
HasLibrary d = IsTrue (is_some (named d.library libraries))

-- the library has a type of the datatype's name
abbrev pub HasType : Datatype → Type 0
HasType d = IsTrue (is_some (type_named d.library d.name))

-- there is no library; or there is, and no type; or there is a type, which does not take the parameters
abbrev pub HasFault : TypeFault → Datatype → Type 0
HasFault faults.UnknownLibrary d = ¬ (HasLibrary d)
HasFault faults.UnknownType d = HasLibrary d × ¬ (HasType d)
HasFault faults.BadParameter d = HasType d × ¬ (IsKnownDatatype d)
