use Rattle.std.proofs.Common.{rules, ◌≡◌, ◌<◌, ◌∙◌, subst, refl, ap, length, map}
use Rattle.rnc_model.specs.loading.Mentions.{mentions_of}
use Rattle.rnc_grammar.specs.views.View.{file_of, mentioned_file_of}
use Rattle.rng_load.specs.views.FilesView.{taken_files_of}
use Rattle.rnc_model.specs.loading.Loading.{IsBrokenInclude}
use Rattle.rng_load.proofs.Overriding.BrokenIncludes.{OneOf, met, passed}
use Rattle.rng_load.proofs.LoadOrder.HandedIn.{is_not}
use Rattle.rng_load.proofs.includes.has_broken_include.Goals as goal

pub returns-then-branch : goal.returns-then-branch
returns-then-branch c =
    let within : c.loop-file.file-index < length c.deref-file-items.result.now = search rules in
    let all : map mentioned_file_of c.deref-file-items.result.now ≡ mentions_of (file_of c.args.tree.now) = ap
    (map mentioned_file_of) c.deref-file-items.ensures.value ∙ c.in_ok-mentioned.ensures in (
      λ t. subst (OneOf (IsBrokenInclude (taken_files_of c.args.trees.now))) all
          (met (IsBrokenInclude (taken_files_of c.args.trees.now)) mentioned_file_of c.deref-file-items.result.now c.loop-file.file-index within
          c.file-item.result c.file-item.result c.file-item.is
          (c.in_ok-is_broken.ensures.0 c.if-branch.true)),
      λ b. refl,
    )

pub loop-file-preserved : goal.loop-file-preserved
loop-file-preserved c =
    let within : c.loop-file.file-index < length c.deref-file-items.result.now = search rules in
    passed (IsBrokenInclude (taken_files_of c.args.trees.now)) mentioned_file_of c.deref-file-items.result.now c.loop-file.file-index within
    c.file-item.result c.file-item.result c.file-item.is
    c.loop-file.invariant (λ b. is_not c.if-branch.false (c.in_ok-is_broken.ensures.1 b))
