use Rattle.std.proofs.Common.{◌≡◌, ◌++◌, map, ◌∷◌, [], sym, subst, refl}
use Rattle.std.proofs.lemmas.Result.{err_from_is_err_and}
use Rattle.rng_model.specs.plain.Answers.{Gives}
use Rattle.rnc_syntax.specs.views.Fault.{stop_of}
use Rattle.rnc_syntax.specs.views.SyntaxView.{pattern_of, component_of}
use Rattle.rnc_syntax.proofs.FirstTokens.{component_starts, component_stops}
use Rattle.rnc_syntax.proofs.JoinedRest.{from_is, rest_ends, rest_stops}
use Rattle.rnc_syntax.proofs.FirstPrimaries.{excludes_behind, goes_on_behind, primary_stops}
use Rattle.rnc_syntax.proofs.ReadItems.{goes_on, stops, is_done}
use Rattle.rnc_syntax.proofs.TakenItems.{fewer, particle_taken, component_taken}
use Rattle.rnc_syntax.proofs.reading.Reader.+patterns.Goals as goal

pub more-returns-in_err-after : goal.more-returns-in_err-after
more-returns-in_err-after t c =
    let p = err_from_is_err_and c.from_residual-in_err-after.result c.from_residual-in_err-after.ensures.1 in
    rw (p.1, p.2) (rest_stops _ _ _ _ c.in_err-after.field-0.0 (stops _ _ _ _ _ c.in_err-after.field-0.0 _ (sym c.in-Some.ensures) c.in_err-after.ensures refl
    c.loop-after.invariant))

pub more-loop-after-preserved : goal.more-loop-after-preserved
more-loop-after-preserved t c =
    let e : map pattern_of c.append_pattern-in-Some.new.all.items ≡ map pattern_of c.loop-after.all.items ++ pattern_of c.particle.new.place ∷ [] =
    c.in_ok-append_pattern-2.ensures in
    rw (e, c.onward-rest.ensures) (goes_on _ _ _ _ _ _ _ _ (sym c.in-Some.ensures) c.in_ok-after.ensures
    (particle_taken _ _ _ _ _ (sym c.in-Some.ensures) c.in_ok-after.ensures) c.loop-after.invariant)

pub more-loop-after-smaller : goal.more-loop-after-smaller
more-loop-after-smaller t c = rw c.onward-rest.ensures (fewer c.args.self.count c.in_ok-after.after.now c.loop-after.rest.now
    (particle_taken _ _ _ _ _ (sym c.in-Some.ensures) c.in_ok-after.ensures))

pub more-returns : goal.more-returns
more-returns t c = rw c.put_joined.ensures (rest_ends _ _ _ _ _ _ (is_done _ _ _ _ _ (sym c.in_default.ensures) c.loop-after.invariant))

pub pattern_from-returns-in-Some : goal.pattern_from-returns-in-Some
pattern_from-returns-in-Some t c = subst (Gives stop_of _ c.more.result)
    (sym (from_is _ _ _ _ _ c.in_ok-rest.ensures (sym c.in-Some.ensures))) c.more.ensures

pub more_components-returns-in_err-after : goal.more_components-returns-in_err-after
more_components-returns-in_err-after t c =
    let p = err_from_is_err_and c.from_residual-in_err-after.result c.from_residual-in_err-after.ensures.1 in
    rw (p.1, p.2) (stops _ _ _ _ _ c.in_err-after.field-0.0 _ (component_starts _ _ _ c.begins_component.ensures c.loop-self-test.true)
    c.in_err-after.ensures refl c.loop-self.invariant)

pub more_components-loop-self-preserved : goal.more_components-loop-self-preserved
more_components-loop-self-preserved t c =
    let held : c.deref_mut-in-loop-self.result.now ≡ c.component.new.place = c.deref_mut-in-loop-self.ensures.value in
    let grown : map component_of c.append_component.new.all.items ≡ map component_of c.loop-self.all.items
    ++ component_of c.deref_mut-in-loop-self.result.now ∷ [] = c.in_ok-append_component.ensures in
    let e : map component_of c.append_component.new.all.items ≡ map component_of c.loop-self.all.items ++ component_of c.component.new.place ∷ [] =
    rw held at grown in
    rw (e, c.onward-rest.ensures) (goes_on _ _ _ _ _ _ _ _ (component_starts _ _ _ c.begins_component.ensures c.loop-self-test.true)
    c.in_ok-after.ensures
    (component_taken _ _ _ _ _ (component_starts _ _ _ c.begins_component.ensures c.loop-self-test.true) c.in_ok-after.ensures) c.loop-self.invariant)

pub more_components-loop-self-smaller : goal.more_components-loop-self-smaller
more_components-loop-self-smaller t c = rw c.onward-rest.ensures (fewer c.args.self.count c.in_ok-after.after.now c.loop-self.rest.now
    (component_taken _ _ _ _ _ (component_starts _ _ _ c.begins_component.ensures c.loop-self-test.true) c.in_ok-after.ensures))

pub more_components-returns : goal.more_components-returns
more_components-returns t c = is_done _ _ _ _ _ (component_stops _ _ _ c.begins_component.ensures c.loop-self-test.false) c.loop-self.invariant

pub bare_pattern-returns-in_err-rest : goal.bare_pattern-returns-in_err-rest
bare_pattern-returns-in_err-rest t c =
    let p = err_from_is_err_and c.from_residual.result c.from_residual.ensures.1 in
    rw (p.1, p.2) (primary_stops _ _ c.in_err-rest.field-0.0 c.in_err-rest.ensures)

pub bare_pattern-returns-in-None : goal.bare_pattern-returns-in-None
bare_pattern-returns-in-None t c = subst (Gives stop_of _ c.pattern_from.result)
    (sym (goes_on_behind _ _ _ _ c.in_ok-rest.ensures (sym c.in-None.ensures))) c.pattern_from.ensures

pub bare_pattern-returns-in-Some : goal.bare_pattern-returns-in-Some
bare_pattern-returns-in-Some t c = subst (Gives stop_of _ c.excluded.result)
    (sym (excludes_behind _ _ _ _ _ c.in_ok-rest.ensures (sym c.in-Some.ensures))) c.excluded.ensures
