use Rattle.std.proofs.Common.{rules, ◌∙◌, ◌≤◌, length}
use Rattle.rnc_grammar.specs.views.View.{file_of}
use Rattle.rng_load.proofs.Overriding.MentionedNames.{all_hrefs}
use Rattle.rng_load.proofs.mentioned.hrefs.Goals as goal

pub returns : goal.returns
returns c =
    let over : length c.deref-file-items.result.now ≤ c.loop-file.file-index = search rules in
    c.loop-file.invariant ∙ all_hrefs _ _ _ over c.deref-file-items.ensures.value (file_of c.args.tree.now) c.in_ok-mentioned.ensures
