use Rattle.std.proofs.Common.{Vec, Global, Ok, Err}
use Rattle.std.proofs.lemmas.Result.{err_from_is_err_and}
use Rattle.rnc_model.specs.tokens.CutTokens.{tokens_of}
use Rattle.rnc_model.specs.tokens.Cut.{lexemes}
use Rattle.rnc_model.specs.declared.token.Token.{Token}
use Rattle.rnc_grammar.specs.views.Fault.{fault_of}
use Rattle.rnc_grammar.proofs.ParsingAnswers.{fault_given, fault_told, no_tree, only_declarations, only_tree, tree_given}
use Rattle.rng_load.proofs.FileContent.{Lexed, decoded, text_fault, tokenized, tokens_fault, lexed, parse_fault, parsed}
use Rattle.rng_load.proofs.reading.tree_of_content.Goals as goal

pub returns-in_err-text : goal.returns-in_err-text
returns-in_err-text c =
    let p = err_from_is_err_and c.from_residual.result c.from_residual.ensures.1 in
    let e = c.in_err-text.ensures in
    rw (p.1, p.2) (text_fault c.args.bytes.now c.in_err-text.field-0.0 e.fault e.only e.broken)

pub returns-in_err-tokens : goal.returns-in_err-tokens
returns-in_err-tokens c =
    let p = err_from_is_err_and c.from_residual-in_err-tokens.result c.from_residual-in_err-tokens.ensures.1 in
    let t = c.in_ok-text.ensures in
    let e = c.in_err-tokens.ensures in
    rw (p.1, p.2) (tokens_fault (λ (v : Vec Token Global). tokens_of v.items) c.args.bytes.now c.in_ok-text.text c.in_err-tokens.field-0.0
    (decoded c.args.bytes.now c.in_ok-text.text t.found t.only t.broken) e.fault e.only)

pub returns-in_err-file : goal.returns-in_err-file
returns-in_err-file c =
    let p = err_from_is_err_and c.from_residual-in_err-file.result c.from_residual-in_err-file.ensures.1 in
    let t = c.in_ok-text.ensures in
    let k = c.in_ok-tokens.ensures in
    let known : Lexed c.args.bytes.now (tokens_of c.as_slice.result.now) = rw (c.as_slice.ensures.value, c.shrink_to_fit.ensures.items) (
    lexed c.args.bytes.now c.in_ok-text.text (tokens_of c.in_ok-tokens.tokens.items) (decoded c.args.bytes.now c.in_ok-text.text t.found t.only t.broken)
    (tokenized (λ (v : Vec Token Global). tokens_of v.items) c.in_ok-text.text c.in_ok-tokens.tokens k.found k.only k.broken)) in
    let e = c.in_err-file.ensures in
    let ts = lexemes (tokens_of c.as_slice.result.now) in
    rw (p.1, p.2) (parse_fault c.args.bytes.now (tokens_of c.as_slice.result.now) (fault_of c.in_err-file.field-0.0) known
    (fault_told ts c.in_err-file.field-0.0 e.fault)
    (λ t is. no_tree c.in_err-file.field-0.0 _ is.file (e.only is.file (record { nesting = is.nesting; sentence = is.sentence }))))

pub returns-in_err-resolve : goal.returns-in_err-resolve
returns-in_err-resolve c =
    let p = err_from_is_err_and c.from_residual-in_err-resolve.result c.from_residual-in_err-resolve.ensures.1 in
    let t = c.in_ok-text.ensures in
    let k = c.in_ok-tokens.ensures in
    let known : Lexed c.args.bytes.now (tokens_of c.as_slice.result.now) = rw (c.as_slice.ensures.value, c.shrink_to_fit.ensures.items) (
    lexed c.args.bytes.now c.in_ok-text.text (tokens_of c.in_ok-tokens.tokens.items) (decoded c.args.bytes.now c.in_ok-text.text t.found t.only t.broken)
    (tokenized (λ (v : Vec Token Global). tokens_of v.items) c.in_ok-text.text c.in_ok-tokens.tokens k.found k.only k.broken)) in
    let file = c.in_ok-file.ensures in
    let e = c.in_err-resolve.ensures in
    let x = c.in_err-resolve.field-0.0 in
    rw (p.1, p.2) (parse_fault c.args.bytes.now (tokens_of c.as_slice.result.now) x known (fault_given _ _ file.tree (Err x) e.fault)
    (only_tree _ c.in_ok-file.file file.only (Err x) e.only))

pub returns : goal.returns
returns c =
    let t = c.in_ok-text.ensures in
    let k = c.in_ok-tokens.ensures in
    let known : Lexed c.args.bytes.now (tokens_of c.as_slice.result.now) = rw (c.as_slice.ensures.value, c.shrink_to_fit.ensures.items) (
    lexed c.args.bytes.now c.in_ok-text.text (tokens_of c.in_ok-tokens.tokens.items) (decoded c.args.bytes.now c.in_ok-text.text t.found t.only t.broken)
    (tokenized (λ (v : Vec Token Global). tokens_of v.items) c.in_ok-text.text c.in_ok-tokens.tokens k.found k.only k.broken)) in
    let file = c.in_ok-file.ensures in
    let e = c.in_ok-resolve.ensures in
    let x = c.in_ok-resolve.field-0 in
    parsed c.args.bytes.now (tokens_of c.as_slice.result.now) x known (tree_given _ _ file.tree (Ok x) e.tree)
    (only_tree _ c.in_ok-file.file file.only (Ok x) e.only) (only_declarations _ c.in_ok-file.file file.only (Ok x) e.declarations)
