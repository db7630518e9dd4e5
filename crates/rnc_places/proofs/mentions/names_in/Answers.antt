use Rattle.std.proofs.Common.{rules, ◌∙◌, ◌≤◌, length}
use Rattle.rnc_grammar.specs.views.View.{file_of}
use Rattle.rnc_places.proofs.MentionedNames.{all_names}
use Rattle.rnc_places.proofs.mentions.names_in.Goals as goal

pub returns : goal.returns
returns c =
    let over : length c.deref-file-items.result.now ≤ c.loop-file.file-index = search rules in
    c.loop-file.invariant ∙ all_names _ _ _ over c.deref-file-items.ensures.value (file_of c.args.tree.now) c.in_ok-mentioned.ensures
