use Rattle.std.proofs.Common.{◌≡◌, ◌++◌, map, ◌∷◌, [], sym, refl}
use Rattle.std.proofs.lemmas.Result.{err_from_is_err_and}
use Rattle.std.proofs.lemmas.List.{map_push}
use Rattle.rnc_syntax.specs.views.SyntaxView.{class_of}
use Rattle.rnc_syntax.proofs.ReadItems.{goes_on, stops, is_done}
use Rattle.rnc_syntax.proofs.TakenItems.{fewer, class_taken}
use Rattle.rnc_syntax.proofs.reading.Reader.+classes.Goals as goal

pub more_classes-returns-in_err-next : goal.more_classes-returns-in_err-next
more_classes-returns-in_err-next t c =
    let p = err_from_is_err_and c.from_residual.result c.from_residual.ensures.1 in
    rw (p.1, p.2) (stops _ _ _ _ _ c.in_err-next.field-0.0 _ (sym c.in-Some.ensures) c.in_err-next.ensures refl c.loop-after.invariant)

pub more_classes-loop-after-preserved : goal.more_classes-loop-after-preserved
more_classes-loop-after-preserved t c =
    let e : map class_of c.push.new.self.items ≡ map class_of c.loop-after.all.items ++ class_of c.in_ok-next.next ∷ [] =
    rw c.in_ok-push.ensures.items (map_push _ c.loop-after.all.items c.in_ok-next.next) in
    rw (e, c.onward-rest.ensures) (goes_on _ _ _ _ _ _ _ _ (sym c.in-Some.ensures) c.in_ok-next.ensures
    (class_taken _ _ _ _ (sym c.in-Some.ensures) c.in_ok-next.ensures) c.loop-after.invariant)

pub more_classes-loop-after-smaller : goal.more_classes-loop-after-smaller
more_classes-loop-after-smaller t c = rw c.onward-rest.ensures (fewer c.args.self.count c.in_ok-next.after.now c.loop-after.rest.now
    (class_taken _ _ _ _ (sym c.in-Some.ensures) c.in_ok-next.ensures))

pub more_classes-returns : goal.more_classes-returns
more_classes-returns t c = is_done _ _ _ _ _ (sym c.in_default.ensures) c.loop-after.invariant
