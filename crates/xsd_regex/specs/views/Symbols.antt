-- The symbols that values of the code stand for.
use Rattle.xsd_regex.specs.declared.symbol.Symbol.{Symbol}
use Rattle.xsd_regex.specs.declared.symbol.Symbol.TheVariants as symbols
use Rattle.rng_model.specs.regexes.Symbols as spec
use Rattle.rng_model.specs.regexes.Symbols.{char, escaped, class}
use Rattle.xsd_regex.specs.views.Classes.{leaf_class}

abbrev pub symbol_of : Symbol → spec.Symbol
symbol_of (symbols.Char c) = char c
symbol_of (symbols.Escaped c) = escaped c
symbol_of (symbols.Class l) = class (leaf_class l)
