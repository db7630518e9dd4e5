use Rattle.std.proofs.Common.{rules, ◌≡◌, ◌<◌, ◌≤◌, ◌∙◌, sym, subst, refl, length, map}
use Rattle.std.specs.Map.{values_of}
use Rattle.rnc_grammar.specs.views.View.{file_of}
use Rattle.rng_load.specs.views.FilesView.{taken_files_of}
use Rattle.rnc_model.specs.loading.Loading.{HasBrokenInclude}
use Rattle.rng_load.proofs.Overriding.BrokenIncludes.{OneOf, met, passed, all_passed, of_a_tree, of_a_file}
use Rattle.rng_load.proofs.LoadOrder.HandedIn.{is_not}
use Rattle.rng_load.proofs.includes.breaks_includes.Goals as goal

pub returns-then-branch : goal.returns-then-branch
returns-then-branch c =
    let within : c.loop-tree.tree-index < length c.as_slice-tree-items.result.now = search rules in
    let all : c.as_slice-tree-items.result.now ≡ values_of c.args.trees.now.entries = c.as_slice-tree-items.ensures ∙ c.values.ensures.rest in (
      λ t. of_a_tree c.args.trees.now.entries (HasBrokenInclude (taken_files_of c.args.trees.now)) (subst (λ ts. OneOf (HasBrokenInclude
          (taken_files_of c.args.trees.now)) (map file_of ts)) all
          (met (HasBrokenInclude (taken_files_of c.args.trees.now)) file_of c.as_slice-tree-items.result.now c.loop-tree.tree-index within
          c.tree-item.result c.tree-item.result c.tree-item.is
          (c.in_ok-has_broken_include.ensures.0 c.if-branch.true))),
      λ b. refl,
    )

pub loop-tree-preserved : goal.loop-tree-preserved
loop-tree-preserved c =
    let within : c.loop-tree.tree-index < length c.as_slice-tree-items.result.now = search rules in
    passed (HasBrokenInclude (taken_files_of c.args.trees.now)) file_of c.as_slice-tree-items.result.now c.loop-tree.tree-index within
    c.tree-item.result c.tree-item.result c.tree-item.is
    c.loop-tree.invariant (λ b. is_not c.if-branch.false (c.in_ok-has_broken_include.ensures.1 b))

pub returns : goal.returns
returns c =
    let over : length c.as_slice-tree-items.result.now ≤ c.loop-tree.tree-index = search rules in
    let all : c.as_slice-tree-items.result.now ≡ values_of c.args.trees.now.entries = c.as_slice-tree-items.ensures ∙ c.values.ensures.rest in
    let none = all_passed (HasBrokenInclude
    (taken_files_of c.args.trees.now)) file_of c.as_slice-tree-items.result.now c.loop-tree.tree-index over c.loop-tree.invariant in (
      λ t. absurd (is_not refl t),
      λ b. absurd (none (subst (λ ts. OneOf (HasBrokenInclude (taken_files_of c.args.trees.now)) (map file_of ts)) (sym all)
          (of_a_file c.args.trees.now.entries (HasBrokenInclude (taken_files_of c.args.trees.now)) b))),
    )
