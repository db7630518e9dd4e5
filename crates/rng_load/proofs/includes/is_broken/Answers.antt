use Rattle.std.proofs.Common.{subst, sym, IfOk, ◌↔◌}
use Rattle.std.specs.Bool.{IsTrue}
use Rattle.rnc_grammar.specs.views.View.{mentioned_file_of}
use Rattle.rng_load.specs.views.FilesView.{taken_files_of}
use Rattle.rnc_model.specs.loading.Loading.{IsBrokenInclude}
use Rattle.rng_load.proofs.includes.is_broken.Goals as goal

pub returns-in-Included : goal.returns-in-Included
returns-in-Included c =
    subst (λ f. IfOk c.breaks_include.result (λ broken. IsTrue broken ↔ IsBrokenInclude (taken_files_of c.args.trees.now) (mentioned_file_of f)))
    (sym c.in-Included.is) c.breaks_include.ensures
