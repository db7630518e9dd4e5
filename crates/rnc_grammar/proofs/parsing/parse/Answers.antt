use Rattle.std.proofs.lemmas.Result.{err_from_is_err_and}
use Rattle.rnc_model.specs.tokens.Cut.{lexemes}
use Rattle.rnc_model.specs.tokens.CutTokens.{tokens_of}
use Rattle.rnc_grammar.proofs.ParsingAnswers.{fault_given, fault_told, grammar_told, mentions_given, nesting_told, no_fault, no_tree, one_tree}
use Rattle.rnc_grammar.proofs.ParsingAnswers.{only_declarations, only_tree, tree_given}
use Rattle.rnc_grammar.proofs.parsing.parse.Goals as goal

-- ---- no syntax tree

pub returns-in_err-file-clause-fault : goal.returns-in_err-file-clause-fault
returns-in_err-file-clause-fault c =
    let p = err_from_is_err_and c.from_residual.result c.from_residual.ensures.1 in
    rw (p.1, p.2) (fault_told (lexemes (tokens_of c.args.tokens.now)) c.in_err-file.field-0.0 c.in_err-file.ensures.fault)

pub returns-in_err-file-clause-only : goal.returns-in_err-file-clause-only
returns-in_err-file-clause-only c = λ t is.
    let p = err_from_is_err_and c.from_residual.result c.from_residual.ensures.1 in
    rw (p.1, p.2) (no_tree c.in_err-file.field-0.0 _ is.file (c.in_err-file.ensures.only is.file (record { nesting = is.nesting; sentence = is.sentence })))

pub returns-in_err-file-clause-declarations : goal.returns-in_err-file-clause-declarations
returns-in_err-file-clause-declarations c = λ is.
    let p = err_from_is_err_and c.from_residual.result c.from_residual.ensures.1 in
    rw (p.1, p.2) (no_tree c.in_err-file.field-0.0 _ is.file (c.in_err-file.ensures.only is.file (record { nesting = is.nesting; sentence = is.sentence })))

pub returns-in_err-file-clause-nesting : goal.returns-in_err-file-clause-nesting
returns-in_err-file-clause-nesting c = λ is.
    let p = err_from_is_err_and c.from_residual.result c.from_residual.ensures.1 in
    rw (p.1, p.2) (nesting_told c.in_err-file.field-0.0 (c.in_err-file.ensures.nesting is))

pub returns-in_err-file-clause-grammar : goal.returns-in_err-file-clause-grammar
returns-in_err-file-clause-grammar c = λ is.
    let p = err_from_is_err_and c.from_residual.result c.from_residual.ensures.1 in
    let at = c.in_err-file.ensures.grammar is in
    (at.0, rw (p.1, p.2) (grammar_told c.in_err-file.field-0.0 at.0 at.1))

pub returns-in_err-file-clause-one : goal.returns-in_err-file-clause-one
returns-in_err-file-clause-one c = one_tree (lexemes (tokens_of c.args.tokens.now)) c.in_err-file.ensures.one

-- ---- a syntax tree

pub returns-clause-tree : goal.returns-clause-tree
returns-clause-tree c = tree_given _ _ c.in_ok-file.ensures.tree _ c.resolve.ensures.tree

pub returns-clause-mentions : goal.returns-clause-mentions
returns-clause-mentions c = mentions_given (tokens_of c.args.tokens.now) _ (tree_given _ _ c.in_ok-file.ensures.tree _ c.resolve.ensures.tree)

pub returns-clause-fault : goal.returns-clause-fault
returns-clause-fault c = fault_given _ _ c.in_ok-file.ensures.tree _ c.resolve.ensures.fault

pub returns-clause-only : goal.returns-clause-only
returns-clause-only c = only_tree _ c.in_ok-file.file c.in_ok-file.ensures.only _ c.resolve.ensures.only

pub returns-clause-declarations : goal.returns-clause-declarations
returns-clause-declarations c = only_declarations _ c.in_ok-file.file c.in_ok-file.ensures.only _ c.resolve.ensures.declarations

pub returns-clause-nesting : goal.returns-clause-nesting
returns-clause-nesting c = λ is. absurd (no_fault c.in_ok-file.file _ (c.in_ok-file.ensures.nesting is))

pub returns-clause-grammar : goal.returns-clause-grammar
returns-clause-grammar c = λ is. absurd (no_fault c.in_ok-file.file _ (c.in_ok-file.ensures.grammar is).1)

pub returns-clause-one : goal.returns-clause-one
returns-clause-one c = one_tree (lexemes (tokens_of c.args.tokens.now)) c.in_ok-file.ensures.one
