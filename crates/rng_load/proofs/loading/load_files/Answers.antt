use Rattle.rnc_model.specs.loading.SchemaFile.{named_files}
use Rattle.rng_load.specs.views.FilesView.{taken_files_of}
use Rattle.rng_load.proofs.FilesVerdict.{file_first, mentions_first, includes_next, none_broken}
use Rattle.rng_load.proofs.LoadOrder.HandedIn.{is_not}
use Rattle.rng_load.proofs.loading.load_files.Goals as goal

pub returns-in-Err-File : goal.returns-in-Err-File
returns-in-Err-File c = rw c.in-Err-File.field-0-is
    (file_first (named_files c.args.files.now) c.args.main.now _ _ (rw c.in-Err-File.field-0-is at c.in-Err-File.ensures))

pub returns-then-branch : goal.returns-then-branch
returns-then-branch c =
    mentions_first (named_files c.args.files.now) c.args.main.now (taken_files_of c.in-Ok.trees) c.in-Ok.ensures
    (c.in_ok-breaks_mentions.ensures.0 c.if-branch.true)

pub returns-then-branch-2 : goal.returns-then-branch-2
returns-then-branch-2 c =
    includes_next (named_files c.args.files.now) c.args.main.now (taken_files_of c.in-Ok.trees) c.in-Ok.ensures
    (λ b. is_not c.if-branch.false (c.in_ok-breaks_mentions.ensures.1 b)) (c.in_ok-breaks_includes.ensures.0 c.if-branch-2.true)

pub returns : goal.returns
returns c =
    none_broken (named_files c.args.files.now) c.args.main.now (taken_files_of c.in-Ok.trees) c.in-Ok.ensures
    (λ b. is_not c.if-branch.false (c.in_ok-breaks_mentions.ensures.1 b)) (λ b. is_not c.if-branch-2.false (c.in_ok-breaks_includes.ensures.1 b))
