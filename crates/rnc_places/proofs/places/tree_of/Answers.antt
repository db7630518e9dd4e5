use Rattle.std.proofs.Common.{Vec, Global, Ok, Err, ap, subst, sym, length}
use Rattle.rnc_grammar.specs.views.ParsingFaults.{IsFaultOf, unless_memory}
use Rattle.rnc_grammar.specs.views.View.{file_of}
use Rattle.rnc_model.specs.declarations.FileTree.{FileTree}
use Rattle.rnc_model.specs.loading.SchemaFile.{IsFileTree}
use Rattle.rnc_model.specs.declared.token.Token.{Token}
use Rattle.rnc_model.specs.loading.FaultPlaces.{IsPlaceOfToken}
use Rattle.rnc_model.specs.tokens.CutTokens.{tokens_of}
use Rattle.rnc_model.specs.tokens.Cut.{lexemes}
use Rattle.rng_model.specs.plain.Answers.{Gives}
use Rattle.rnc_places.specs.views.Mentions.{BreaksOnlyAt}
use Rattle.rnc_places.specs.views.Told.{IsNumberOf}
use Rattle.rng_load.proofs.FileContent.{Lexed, decoded, lexed, parsed, tokenized}
use Rattle.rnc_places.proofs.ToldPlaces.{told_of_cut, told_of_text, told_of_tokens}
use Rattle.rnc_places.proofs.places.tree_of.Goals as goal

pub returns-in-Err-At-clause-fault : goal.returns-in-Err-At-clause-fault
returns-in-Err-At-clause-fault c =
    let e = c.in-Err-At.ensures in
    let p = c.place_at-place.ensures in
    subst (λ k. BreaksOnlyAt c.args.file.now k c.place_at-place.result) (sym c.in-Err-At.clause-is)
    (told_of_text c.args.file.now c.in-Err-At.field-0 c.in-Err-At.clause c.in-Err-At.offset c.place_at-place.result _ (sym c.in-Err-At.offset-is)
    c.in-Err-At.field-0-is e.fault e.only e.broken p.utf8 p.characters p.offset)

pub returns-in-Err-At-tokens-clause-fault : goal.returns-in-Err-At-tokens-clause-fault
returns-in-Err-At-tokens-clause-fault c =
    let t = c.in-Ok.ensures in
    let e = c.in-Err-At-tokens.ensures in
    subst (λ k. BreaksOnlyAt c.args.file.now k c.place_of_decoded-place.result) (sym c.in-Err-At-tokens.clause-is)
    (told_of_cut (λ (v : Vec Token Global). tokens_of v.items) c.args.file.now c.in-Ok.text c.in-Err-At-tokens.field-0 c.in-Err-At-tokens.clause
    c.in-Err-At-tokens.offset c.place_of_decoded-place.result _ (sym c.in-Err-At-tokens.offset-is) c.in-Err-At-tokens.field-0-is
    (decoded c.args.file.now c.in-Ok.text t.found t.only t.broken) e.fault e.only c.place_of_decoded-place.ensures)

pub returns-in-Ok-parse-clause-tree : goal.returns-in-Ok-parse-clause-tree
returns-in-Ok-parse-clause-tree c =
    let t = c.in-Ok.ensures in
    let k = c.in-Ok-tokens.ensures in
    let known : Lexed c.args.file.now (tokens_of c.as_slice.result.now) = rw (c.as_slice.ensures.value) (
    lexed c.args.file.now c.in-Ok.text (tokens_of c.in-Ok-tokens.tokens.items) (decoded c.args.file.now c.in-Ok.text t.found t.only t.broken)
    (tokenized (λ (v : Vec Token Global). tokens_of v.items) c.in-Ok.text c.in-Ok-tokens.tokens k.found k.only k.broken)) in
    let e = c.in-Ok-parse.ensures in
    parsed c.args.file.now (tokens_of c.as_slice.result.now) c.in-Ok-parse.tree known e.tree e.only e.declarations

pub returns-clause-fault : goal.returns-clause-fault
returns-clause-fault c =
    let t = c.in-Ok.ensures in
    let k = c.in-Ok-tokens.ensures in
    let known : Lexed c.args.file.now (tokens_of c.in-Ok-tokens.tokens.items) =
    lexed c.args.file.now c.in-Ok.text (tokens_of c.in-Ok-tokens.tokens.items) (decoded c.args.file.now c.in-Ok.text t.found t.only t.broken)
    (tokenized (λ (v : Vec Token Global). tokens_of v.items) c.in-Ok.text c.in-Ok-tokens.tokens k.found k.only k.broken) in
    let e = c.in-Err.ensures in
    let same = c.as_slice.ensures.value in
    let again = c.as_slice-2.ensures.value in
    let fault : IsFaultOf (lexemes (tokens_of c.in-Ok-tokens.tokens.items)) c.in-Err.fault = rw (sym same) e.fault in
    let only : (t : FileTree) → IsFileTree (lexemes (tokens_of c.in-Ok-tokens.tokens.items)) t → Gives unless_memory file_of (Err c.in-Err.fault) (Ok t) =
    rw (sym same) e.only in
    let number : IsNumberOf (lexemes (tokens_of c.in-Ok-tokens.tokens.items)) c.in-Err.fault (c.in_ok-clause.clause, c.in_ok-clause.number) =
    rw (sym again) (c.in_ok-clause.ensures (rw again fault)) in
    let at : IsPlaceOfToken c.args.file.now (tokens_of c.in-Ok-tokens.tokens.items) c.in_ok-clause.number c.place_of_token-place.result =
    rw (sym c.as_slice-3.ensures.value) (c.place_of_token-place.ensures c.in-Ok.text t.found (rw c.as_slice-3.ensures.value k.found)
    (ap length (sym c.as_str-end.ensures))) in
    told_of_tokens c.args.file.now (tokens_of c.in-Ok-tokens.tokens.items) c.in-Err.fault c.in_ok-clause.clause c.in_ok-clause.number
    c.place_of_token-place.result known fault only number at
