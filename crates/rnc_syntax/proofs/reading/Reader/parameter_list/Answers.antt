use Rattle.std.proofs.Common.{◌≡◌, ◌++◌, map, ◌∷◌, [], refl}
use Rattle.std.proofs.lemmas.Result.{err_from_is_err_and}
use Rattle.std.proofs.lemmas.List.{map_push}
use Rattle.rnc_syntax.specs.views.SyntaxView.{parameter_of}
use Rattle.rnc_syntax.proofs.ReadItems.{goes_on, stops, is_done}
use Rattle.rnc_syntax.proofs.TakenItems.{fewer, parameter_taken}
use Rattle.rnc_syntax.proofs.reading.Reader.parameter_list.Goals as goal

pub returns-in_err-next : goal.returns-in_err-next
returns-in_err-next c =
    let p = err_from_is_err_and c.from_residual.result c.from_residual.ensures.1 in
    rw (p.1, p.2) (stops _ _ _ _ _ c.in_err-next.field-0.0 _ (rw c.loop-self-test.true at (c.begins_parameter.ensures c.args.self.count))
    c.in_err-next.ensures refl c.loop-self.invariant)

pub loop-self-preserved : goal.loop-self-preserved
loop-self-preserved c =
    let e : map parameter_of c.push.new.self.items ≡ map parameter_of c.loop-self.parameters.items ++ parameter_of c.in_ok-next.next ∷ [] =
    rw c.in_ok-push.ensures.items (map_push _ c.loop-self.parameters.items c.in_ok-next.next) in
    rw (e, c.onward-rest.ensures) (goes_on _ _ _ _ _ _ _ _ (rw c.loop-self-test.true at (c.begins_parameter.ensures c.args.self.count))
    c.in_ok-next.ensures
    (parameter_taken _ _ _ (rw c.loop-self-test.true at (c.begins_parameter.ensures c.args.self.count)) c.in_ok-next.ensures) c.loop-self.invariant)

pub loop-self-smaller : goal.loop-self-smaller
loop-self-smaller c = rw c.onward-rest.ensures (fewer c.args.self.count c.in_ok-next.after.now c.loop-self.rest.now
    (parameter_taken _ _ _ (rw c.loop-self-test.true at (c.begins_parameter.ensures c.args.self.count)) c.in_ok-next.ensures))

pub returns : goal.returns
returns c = is_done _ _ _ _ _ (rw c.loop-self-test.false at (c.begins_parameter.ensures c.args.self.count)) c.loop-self.invariant
