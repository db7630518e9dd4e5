-- What a search for a datatype returns.
use Rattle.std.specs.Prelude.{◌≡◌, ℕ, List, Option, Some, None, Result, Ok, Err, is_some, IsTrue, ⊤}
use Rattle.rng_model.specs.datatypes.Facets.{Parameter, named}
use Rattle.rng_model.specs.xsd.Datatypes.{complete_types}
use Rattle.rng_model.specs.plain.NamedTypes.{meaning_named}
use Rattle.xsd_types.specs.declared.fault.TypeFault.{TypeFault}
use Rattle.xsd_types.specs.declared.fault.TypeFault.TheVariants as faults

-- a fault of a search for this name with these parameters holds
abbrev pub HasFault : TypeFault → List ℕ → List Parameter → Type 0
HasFault faults.UnknownType name ps = named name complete_types ≡ None
HasFault faults.BadParameter name ps = IsTrue (is_some (named name complete_types)) × (meaning_named name ps ≡ None)
HasFault faults.Memory name ps = ⊤

-- the result is what is made of the parameters, if it is made, or the fault that it is not
module _ {X Y : Type 0} (view : X → Y) where
  abbrev pub IsMade : Option Y → Result X TypeFault → Type 0
  IsMade made (Ok x) = made ≡ Some (view x)
  IsMade made (Err faults.UnknownType) = ⊥
  IsMade made (Err faults.BadParameter) = made ≡ None
  IsMade made (Err faults.Memory) = ⊤

  -- the result is this value, or out of memory
  abbrev pub IsMadeOf : Y → Result X TypeFault → Type 0
  IsMadeOf y (Ok x) = view x ≡ y
  IsMadeOf y (Err faults.UnknownType) = ⊥
  IsMadeOf y (Err faults.BadParameter) = ⊥
  IsMadeOf y (Err faults.Memory) = ⊤
