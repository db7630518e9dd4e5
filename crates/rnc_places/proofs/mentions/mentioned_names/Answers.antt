use Rattle.rnc_grammar.specs.views.View.{file_of}
use Rattle.rnc_places.proofs.mentions.mentioned_names.Goals as goal

pub returns-clause-names : goal.returns-clause-names
returns-clause-names c = (file_of c.in_ok-tree.tree, c.in_ok-tree.ensures.tree, c.in_ok-names_in.ensures)
