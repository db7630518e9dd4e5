-- The views of the datatypes of the code.
use Rattle.std.specs.Prelude.{ℕ, List, map, String, Result, Ok, Err}
use Rattle.rng_model.specs.simple.Tree.{Datatype}
use Rattle.rng_model.specs.datatypes.DatatypeViews.{parameter_of}
use Rattle.rng_model.specs.datatypes.Facets as facets
use Rattle.rng_model.specs.datatypes.Datatypes.{Meaning, plain_string, plain_token, xsd_string, xsd_token, xsd_ncname, xsd_nmtoken, xsd_boolean, xsd_integer}
use Rattle.rng_types.specs.declared.lengths.Lengths.{Lengths}
use Rattle.rng_types.specs.declared.numerals.Bounds.{Bounds}
use Rattle.rng_types.specs.declared.builtin.Builtin.{Builtin}
use Rattle.rng_types.specs.declared.builtin.Builtin.TheVariants as types
use Rattle.rng_types.specs.declared.builtin.TypeFault.{TypeFault}

abbrev pub lengths_of : Lengths → facets.Lengths
lengths_of l = record { least = l.min; greatest = l.max }

abbrev pub bounds_of : Bounds → facets.Bounds
bounds_of b = record { least = b.min; greatest = b.max }

-- the values of texts in a datatype
abbrev pub meaning_by : Builtin → Meaning
meaning_by (types.PlainString d) = plain_string
meaning_by (types.PlainToken d) = plain_token
meaning_by (types.XsdString d) = xsd_string (lengths_of d.lengths)
meaning_by (types.XsdToken d) = xsd_token (lengths_of d.lengths)
meaning_by (types.NcName d) = xsd_ncname (lengths_of d.lengths)
meaning_by (types.NmToken d) = xsd_nmtoken (lengths_of d.lengths)
meaning_by (types.Boolean d) = xsd_boolean
meaning_by (types.Integer d) = xsd_integer (bounds_of d.bounds)

-- the datatype of this library and name, with these parameters
abbrev pub datatype_at : {Z : Type 0} → List ℕ → List ℕ → List (String Z × String Z) → Datatype
datatype_at library name parameters = record { library = library; name = name; parameters = map parameter_of parameters }

-- a result, under a view of its value
abbrev pub seen : {X Y : Type 0} → (X → Y) → Result X TypeFault → Result Y TypeFault
seen view (Ok x) = Ok (view x)
seen view (Err f) = Err f
