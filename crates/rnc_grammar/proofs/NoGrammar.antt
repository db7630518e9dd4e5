-- Patterns that are no grammar.
use Rattle.std.proofs.Common.{◌≡◌, List, Option, Some, None, refl}
use Rattle.rng_model.specs.simple.Tree.{Connector}
use Rattle.rnc_model.specs.grammar.Syntax.{applied, PatternAt, members}
use Rattle.rnc_model.specs.declarations.FileTree.{pattern_file, grammar_components}
use Rattle.rnc_grammar.specs.views.View.{data_of}
use Rattle.rnc_grammar.specs.declared.file_tree.Datatype.{Datatype}

pub joined_is_none : (k : Connector) (ps : List (PatternAt applied)) → grammar_components (pattern_file (members k ps)) ≡ None
joined_is_none k ps = refl

pub data_is_none : (d : Datatype) (e : Option (PatternAt applied)) → grammar_components (pattern_file (data_of d e)) ≡ None
data_is_none d None = refl
data_is_none d (Some p) = refl
