-- The grammars that files are.
use Rattle.std.specs.Prelude.{Option, None, Some}
use Rattle.rnc_model.specs.grammar.Syntax as tree
use Rattle.rnc_model.specs.grammar.Syntax.{applied}
use Rattle.rnc_model.specs.declarations.FileTree.{FileTree, grammar_components}
use Rattle.rnc_model.specs.loading.Loading.{TakenFiles, tree_in}
use Rattle.rnc_model.specs.loading.SchemaFile.{FileName}

abbrev pub grammar_if : Option FileTree → Option (tree.ComponentsAt applied)
grammar_if None = None
grammar_if (Some t) = grammar_components t

-- the components of the grammar that the file of this name is
abbrev pub grammar_in : TakenFiles → FileName → Option (tree.ComponentsAt applied)
grammar_in read f = grammar_if (tree_in read f)
