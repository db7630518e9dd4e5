-- A prefix of the code, without its place in memory.
use Rattle.rnc_model.specs.declarations.DeclarationRules.{Declarable, datatype_prefix, namespace_prefix}
use Rattle.rnc_places.specs.declared.prefixes.Prefix.{Prefix}
use Rattle.rnc_places.specs.declared.prefixes.Prefix.TheVariants as prefixes

abbrev pub prefix_view : Prefix → Declarable
prefix_view (prefixes.Namespace p) = namespace_prefix p.now
prefix_view (prefixes.Datatypes p) = datatype_prefix p.now
