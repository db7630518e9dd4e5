-- Views of the files of the code, without their place in memory.
use Rattle.std.specs.Prelude.{List, map, string_bytes, String}
use Rattle.std.specs.Global.{Global}
use Rattle.indexmap.specs.IndexMap.{IndexMap}
use Rattle.indexmap.specs.IndexSet.{IndexSet}
use Rattle.rnc_grammar.specs.declared.file_tree.FileTree as declared
use Rattle.rnc_grammar.specs.views.View.{file_of}
use Rattle.rnc_model.specs.loading.Loading.{TakenFiles}
use Rattle.rnc_model.specs.loading.SchemaFile.{FileName}

module _ {S : Type 0} where
  abbrev pub taken_files_of : IndexMap (String Global) declared.FileTree S → TakenFiles
  taken_files_of trees = map (λ e. (string_bytes e.0, file_of e.1)) trees.entries

  -- names, in order
  abbrev pub names_of : IndexSet (String Global) S → List FileName
  names_of names = map string_bytes names.keys
