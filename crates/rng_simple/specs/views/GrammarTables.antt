-- The tables of a simple grammar, as the code makes them, with a set of datatypes.
use Rattle.rng_model.specs.simple.Table.{Table}
use Rattle.rng_model.specs.declared.type_set.TypeSet.{TypeSet}
use Rattle.rng_simple.specs.declared.schema_form.GrammarTables.{GrammarTables}

abbrev pub table_of : TypeSet → GrammarTables → Table
table_of types t = record { patterns = t.patterns.items; elements = t.elements.items; start = t.start; types = types }
