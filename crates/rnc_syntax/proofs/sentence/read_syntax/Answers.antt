use Rattle.std.proofs.Common.{subst}
use Rattle.rnc_model.specs.tokens.CutTokens.{tokens_of}
use Rattle.rng_model.specs.plain.Answers.{Gives}
use Rattle.rnc_syntax.specs.views.Fault.{unless_memory}
use Rattle.rnc_model.specs.tokens.Cut.{lexemes}
use Rattle.rnc_model.specs.grammar.Sentence.{nesting_limit}
use Rattle.rnc_syntax.specs.views.SyntaxView.{file_of}
use Rattle.rnc_syntax.proofs.FaultNumberFiles.{stuck}
use Rattle.rnc_syntax.proofs.SyntaxTrees.{is_fault, is_tree, fault_given, only_grammar, only_tree, tree_given}
use Rattle.rnc_syntax.proofs.sentence.read_syntax.Goals as goal

pub returns-then-nests_within_limit-clause-tree : goal.returns-then-nests_within_limit-clause-tree
returns-then-nests_within_limit-clause-tree c = tree_given _ _ _ (is_tree _ c.if-nests_within_limit.ensures) c.read.ensures

pub returns-then-nests_within_limit-clause-fault : goal.returns-then-nests_within_limit-clause-fault
returns-then-nests_within_limit-clause-fault c =
    let ts = lexemes (tokens_of c.args.tokens.now) in
    fault_given ts _ _ (is_fault ts c.if-nests_within_limit.ensures (stuck nesting_limit ts)) c.read.ensures

pub returns-then-nests_within_limit-clause-only : goal.returns-then-nests_within_limit-clause-only
returns-then-nests_within_limit-clause-only c = λ f is. subst (Gives unless_memory file_of c.read.result) (only_tree _ c.if-nests_within_limit.ensures f is)
    c.read.ensures

pub returns-then-nests_within_limit-clause-grammar : goal.returns-then-nests_within_limit-clause-grammar
returns-then-nests_within_limit-clause-grammar c = λ is.
    let at = only_grammar _ c.if-nests_within_limit.ensures is in
    (at.0, subst (Gives unless_memory file_of c.read.result) at.1 c.read.ensures)
