-- Views of what the code reads from the patterns of files, without its place in memory.
use Rattle.std.specs.Prelude.{ℕ, List, map, Option}
use Rattle.rng_model.specs.names.NameViews.{namespace_bytes}
use Rattle.rng_model.specs.views.SchemaView.{place_of}
use Rattle.rnc_model.specs.grammar.Syntax.{components_of}
use Rattle.rnc_model.specs.declarations.FileTree.{FileTree}
use Rattle.rnc_grammar.specs.views.View.{component_of}
use Rattle.rng_load.specs.declared.reading_patterns.NestedGrammar.{NestedGrammar}
use Rattle.rng_load.specs.declared.reading_patterns.TreeReader.{TreeReader}
use Rattle.rng_load.specs.views.FilesView.{taken_files_of}
use Rattle.rnc_model.specs.loading.Loading.{tree_in}
use Rattle.rnc_model.specs.loading.Places.{Nested}

abbrev pub nested_of : NestedGrammar → Nested
nested_of g = record { place = place_of g.place; uri = namespace_bytes g.uri.now; components = components_of (map component_of g.components.now) }

-- the trees by name
abbrev pub files_in : TreeReader → List ℕ → Option FileTree
files_in r = tree_in (taken_files_of r.trees.now)
