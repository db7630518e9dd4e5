-- Views of file trees: a choice of name classes.
use Rattle.std.proofs.Common.{◌≡◌, map, rules, Vec, Global}
use Rattle.rnc_grammar.specs.declared.file_tree.NameClass.{NameClass, the_lemmas as class_lemmas}
use Rattle.rnc_grammar.specs.declared.file_tree.NameClass.TheVariants as classes
use Rattle.rnc_model.specs.grammar.Syntax as tree
use Rattle.rnc_grammar.specs.views.View as files

pub choice_class : (all : Vec NameClass Global) → files.class_of (classes.Choice all) ≡ tree.choice_of (map files.class_of all.items)
choice_class all = search (rules, class_lemmas)
