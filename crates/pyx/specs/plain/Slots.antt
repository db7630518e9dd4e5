-- Slots of the names of attributes.
use Rattle.std.specs.Prelude.{◌≡◌, List, Bool, true}
use Rattle.std.specs.List.{AllByRecursion}
use Rattle.rng_model.specs.matching.Document.{Attribute}
use Rattle.pyx.specs.plain.NamespacesSlots.{is_met}

-- the slots of all names are set
abbrev pub AreMet : List Bool → List Attribute → Type 0
AreMet slots attrs = AllByRecursion (λ a. is_met slots a.name.local ≡ true) attrs
