use Rattle.std.proofs.Common.{◌≡◌, ◌∙◌, Some, sym, ap, refl}
use Rattle.std.proofs.lemmas.Bool.{eqb-true}
use Rattle.std.proofs.lemmas.List.{map-append}
use Rattle.rnc_model.specs.tokens.CutTokens.{token_of, tokens_of}
use Rattle.rnc_text.specs.plain.Cursors.{told}
use Rattle.rnc_text.proofs.OneDecoding.{not_empty}
use Rattle.rnc_text.proofs.OneCut.{cut_none, cut_gap, cut_token, cut_done, cut_stops, shorter_rest}
use Rattle.rnc_text.proofs.cutting.cut.Goals as goal

pub pieces-init : goal.pieces-init
pieces-init c = rw c.new-tokens.ensures.items (cut_none _ _ c.new-cursor.ensures.characters c.new-cursor.ensures.bytes c.new-cursor.ensures.whole)

pub returns-in_default-clause-fault : goal.returns-in_default-clause-fault
returns-in_default-clause-fault c =
    let some = not_empty c.pieces.cursor.rest.now (sym c.is_at_end.ensures ∙ c.pieces-test.true) in
    rw c.offset.ensures (refl, cut_stops _ _ _ c.pieces.invariant some c.in_default.ensures)

pub pieces-smaller-in_ok-push : goal.pieces-smaller-in_ok-push
pieces-smaller-in_ok-push c = shorter_rest _ _ _ c.in-Some.ensures

pub pieces-preserved-in_ok-push : goal.pieces-preserved-in_ok-push
pieces-preserved-in_ok-push c =
    let said : told c.in-Some.part ≡ Some (c.in-Token.kind, c.in-Token.says.now) = ap told c.in-Token.is in
    cut_token _ _ _ _ c.in-Some.after c.in-Some.part c.in-Token.kind c.in-Token.says.now
    c.offset-in-Token.result c.offset-in-Token-2.result c.pieces.invariant said c.in-Some.ensures c.offset-in-Token.ensures c.offset-in-Token-2.ensures
    (ap tokens_of c.in_ok-push.ensures.items ∙ map-append token_of c.pieces.tokens.items _)

pub pieces-smaller : goal.pieces-smaller
pieces-smaller c = shorter_rest _ _ _ c.in-Some.ensures

pub pieces-preserved : goal.pieces-preserved
pieces-preserved c = cut_gap _ _ _ c.in-Some.after c.in-Some.part c.pieces.invariant (ap told c.in_default-part.is) c.in-Some.ensures

pub returns-clause-found : goal.returns-clause-found
returns-clause-found c = cut_done _ _ _ c.pieces.invariant (eqb-true _ _ (sym c.is_at_end.ensures ∙ c.pieces-test.false))
