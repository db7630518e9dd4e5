use Rattle.rng_model.specs.views.SchemaView.{place_of}
use Rattle.rnc_grammar.specs.views.View.{file_of}
use Rattle.rng_load.specs.views.FilesView.{taken_files_of}
use Rattle.rnc_model.specs.loading.Loading.{tree_in}
use Rattle.rng_load.specs.views.PlacedGrammars.{grammars_of}
use Rattle.rng_load.proofs.Places.ReaderEnds.{whole}
use Rattle.rng_load.proofs.Places.WellPlaced.{well_placed}
use Rattle.rng_load.proofs.schema_reader.schema_of_files.Goals as goal

pub returns : goal.returns
returns c =
    whole (tree_in (taken_files_of c.args.trees.now)) (file_of c.args.main.now) c.requires.readable (place_of c.main.result)
    (grammars_of c.in_ok-grammars.field-0) c.main.ensures c.in_ok-grammars.ensures

pub invariant_of-result : goal.invariant_of-result
invariant_of-result c =
    well_placed _ _ _
    (whole (tree_in (taken_files_of c.args.trees.now)) (file_of c.args.main.now) c.requires.readable (place_of c.main.result)
    (grammars_of c.in_ok-grammars.field-0) c.main.ensures c.in_ok-grammars.ensures)
