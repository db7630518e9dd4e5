use Rattle.std.proofs.Common.{◌≡◌, ◌++◌, map, ◌∷◌, [], sym, refl}
use Rattle.std.proofs.lemmas.Result.{err_from_is_err_and}
use Rattle.std.proofs.lemmas.List.{map_push}
use Rattle.rnc_syntax.proofs.ReadItems.{goes_on, stops, is_done}
use Rattle.rnc_syntax.proofs.TakenItems.{fewer, segment_taken}
use Rattle.rnc_syntax.proofs.reading.Reader.more_segments.Goals as goal

pub returns-in_err-next : goal.returns-in_err-next
returns-in_err-next c =
    let p = err_from_is_err_and c.from_residual.result c.from_residual.ensures.1 in
    rw (p.1, p.2) (stops _ _ _ _ _ c.in_err-next.field-0.0 _ (sym c.in-Some.ensures) c.in_err-next.ensures refl c.loop-after.invariant)

pub loop-after-preserved : goal.loop-after-preserved
loop-after-preserved c =
    let e : map (λ s. s.now) c.push.new.self.items ≡ map (λ s. s.now) c.loop-after.segments.items ++ c.in_ok-next.next.now ∷ [] =
    rw c.in_ok-push.ensures.items (map_push _ c.loop-after.segments.items c.in_ok-next.next) in
    rw (e, c.onward-rest.ensures) (goes_on _ _ _ _ _ _ _ _ (sym c.in-Some.ensures) c.in_ok-next.ensures
    (segment_taken _ _ _ (sym c.in-Some.ensures) c.in_ok-next.ensures) c.loop-after.invariant)

pub loop-after-smaller : goal.loop-after-smaller
loop-after-smaller c = rw c.onward-rest.ensures (fewer c.args.self.count c.in_ok-next.after.now c.loop-after.rest.now
    (segment_taken _ _ _ (sym c.in-Some.ensures) c.in_ok-next.ensures))

pub returns : goal.returns
returns c = is_done _ _ _ _ _ (sym c.in_default.ensures) c.loop-after.invariant
