-- What a datatype of the code is, without its place in memory.
use Rattle.std.specs.Prelude.{ℕ, List, map, String, string_bytes}
use Rattle.rng_model.specs.declared.datatype.Datatype.{Datatype}
use Rattle.rng_model.specs.simple.Tree as tree

-- the name and the value of a parameter
abbrev pub parameter_of : {Z : Type 0} → String Z × String Z → List ℕ × List ℕ
parameter_of p = (string_bytes p.0, string_bytes p.1)

abbrev pub datatype_of : Datatype → tree.Datatype
datatype_of d = record { library = string_bytes d.library; name = string_bytes d.name; parameters = map parameter_of d.parameters.items }
