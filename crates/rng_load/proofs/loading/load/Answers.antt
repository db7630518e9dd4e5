use Rattle.std.proofs.Common.{◌∙◌, ap, sym, option_map}
use Rattle.rnc_grammar.specs.views.View.{file_of}
use Rattle.rnc_model.specs.loading.SchemaFile.{named_files}
use Rattle.rng_load.specs.views.FilesView.{taken_files_of}
use Rattle.rng_load.proofs.Overriding.BrokenIncludes.{tree_of_name}
use Rattle.rng_load.proofs.LoadedFiles.{can_be_read, found_some, main_is_there}
use Rattle.rng_load.proofs.loading.load.Goals as goal

pub unwrap-tree-requires : goal.unwrap-tree-requires
unwrap-tree-requires c =
    let found = tree_of_name c.in_ok-trees.trees.entries c.args.main.now c.get.result c.get.ensures.value in
    let there = main_is_there (named_files c.args.files.now) c.args.main.now (taken_files_of c.in_ok-trees.trees) c.in_ok-trees.ensures in
    found_some c.get.result there.0 (found ∙ there.1)

pub schema_of_files-requires : goal.schema_of_files-requires
schema_of_files-requires c =
    let found = tree_of_name c.in_ok-trees.trees.entries c.args.main.now c.get.result c.get.ensures.value in
    let is = sym found ∙ ap (option_map (λ t. file_of t.now)) c.unwrap-tree.ensures in
    record {
      readable = can_be_read (named_files c.args.files.now) c.args.main.now (taken_files_of c.in_ok-trees.trees) c.in_ok-trees.ensures
          (file_of c.unwrap-tree.result.now) is;
    }

pub returns : goal.returns
returns c =
    let found = tree_of_name c.in_ok-trees.trees.entries c.args.main.now c.get.result c.get.ensures.value in
    let is = sym found ∙ ap (option_map (λ t. file_of t.now)) c.unwrap-tree.ensures in (
      taken_files_of c.in_ok-trees.trees,
      c.in_ok-trees.ensures,
      record {
        tree = file_of c.unwrap-tree.result.now;
        main_file = is;
        is = c.in_ok-schema_of_files.ensures;
      },
    )
