-- A use of a datatype in the code, without its place in memory.
use Rattle.std.specs.Prelude.{map}
use Rattle.rnc_model.specs.declarations.TokenUses.{Use, data_of, value_of}
use Rattle.rnc_places.specs.declared.datatype_uses.DatatypeUse.{DatatypeUse}
use Rattle.rnc_places.specs.declared.datatype_uses.DatatypeUse.TheVariants as uses
use Rattle.rnc_syntax.specs.views.SyntaxView.{parameter_of, text_of, type_of}

abbrev pub use_of : DatatypeUse → Use
use_of (uses.Data d ps) = data_of (type_of d) (map parameter_of ps.now)
use_of (uses.Value d v) = value_of (type_of d) (text_of v.now)
