-- The lookup of a datatype: the library, then the name in it, then the parameters.
use Rattle.std.specs.Prelude.{ℕ, List, Option, Some, None, Result, Ok, Err}
use Rattle.rng_model.specs.datatypes.Facets.{Parameter, named}
use Rattle.rng_model.specs.datatypes.Datatypes.{Meaning, Maker, libraries}
use Rattle.rng_types.specs.declared.builtin.TypeFault.{TypeFault}
use Rattle.rng_types.specs.declared.builtin.TypeFault.TheVariants as faults

-- the value made of the parameters, or the fault that they are bad
abbrev pub or_bad : {A : Type 0} → Option A → Result A TypeFault
or_bad None = Err faults.BadParameter
or_bad (Some x) = Ok x

-- the type of a name, with the parameters
abbrev pub chosen : Option Maker → List Parameter → Result Meaning TypeFault
chosen None ps = Err faults.UnknownType
chosen (Some make) ps = or_bad (make ps)

-- the type of that name in a library
abbrev pub chosen_in : Option (List (List ℕ × Maker)) → List ℕ → List Parameter → Result Meaning TypeFault
chosen_in None name ps = Err faults.UnknownLibrary
chosen_in (Some types) name ps = chosen (named name types) ps

-- the type of this library and name with these parameters, or the first fault
unfoldable pub find_type : List ℕ → List ℕ → List Parameter → Result Meaning TypeFault
find_type uri name ps = chosen_in (named uri libraries) name ps
