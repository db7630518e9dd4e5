use Rattle.std.proofs.Common.{◌≡◌, ◌++◌, map, ◌∷◌, [], refl}
use Rattle.std.proofs.lemmas.Result.{err_from_is_err_and}
use Rattle.std.proofs.lemmas.List.{map_push}
use Rattle.rnc_syntax.specs.views.SyntaxView.{declaration_of}
use Rattle.rnc_syntax.proofs.FirstTokens.{declaration_starts, declaration_stops}
use Rattle.rnc_syntax.proofs.ReadItems.{goes_on, stops, is_done}
use Rattle.rnc_syntax.proofs.TakenItems.{fewer, declaration_taken}
use Rattle.rnc_syntax.proofs.reading.Reader.declarations.Goals as goal

pub returns-in_err-next : goal.returns-in_err-next
returns-in_err-next c =
    let p = err_from_is_err_and c.from_residual.result c.from_residual.ensures.1 in
    rw (p.1, p.2) (stops _ _ _ _ _ c.in_err-next.field-0.0 _ (declaration_starts _ _ c.begins_declaration.ensures c.loop-self-test.true)
    c.in_err-next.ensures refl c.loop-self.invariant)

pub loop-self-preserved : goal.loop-self-preserved
loop-self-preserved c =
    let e : map declaration_of c.push.new.self.items ≡ map declaration_of c.loop-self.all.items ++ declaration_of c.in_ok-next.next ∷ [] =
    rw c.in_ok-push.ensures.items (map_push _ c.loop-self.all.items c.in_ok-next.next) in
    rw (e, c.onward-rest.ensures) (goes_on _ _ _ _ _ _ _ _ (declaration_starts _ _ c.begins_declaration.ensures c.loop-self-test.true)
    c.in_ok-next.ensures
    (declaration_taken _ _ _ (declaration_starts _ _ c.begins_declaration.ensures c.loop-self-test.true) c.in_ok-next.ensures) c.loop-self.invariant)

pub loop-self-smaller : goal.loop-self-smaller
loop-self-smaller c = rw c.onward-rest.ensures (fewer c.args.self.count c.in_ok-next.after.now c.loop-self.rest.now
    (declaration_taken _ _ _ (declaration_starts _ _ c.begins_declaration.ensures c.loop-self-test.true) c.in_ok-next.ensures))

pub returns : goal.returns
returns c = is_done _ _ _ _ _ (declaration_stops _ _ c.begins_declaration.ensures c.loop-self-test.false) c.loop-self.invariant
