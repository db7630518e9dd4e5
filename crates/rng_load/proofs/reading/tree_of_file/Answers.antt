use Rattle.rng_load.proofs.LoadOrder.HandedIn.{is_too_large, is_not, all_small}
use Rattle.rnc_model.specs.loading.SchemaFile.{named_files}
use Rattle.rng_load.proofs.reading.tree_of_file.Goals as goal

pub returns-then-is_too_large : goal.returns-then-is_too_large
returns-then-is_too_large c =
    is_too_large (named_files c.args.files.now) c.args.main.now c.args.name.now c.in-Some.bytes.now c.in-Some.ensures
    (c.is_too_large.ensures.0 c.if-is_too_large.true)

pub returns : goal.returns
returns c =
    all_small (named_files c.args.files.now) c.args.main.now c.args.name.now c.in-Some.bytes.now c.in-Some.ensures
    (λ l. is_not c.if-is_too_large.false (c.is_too_large.ensures.1 l)) c.tree_of_content.result c.tree_of_content.ensures
