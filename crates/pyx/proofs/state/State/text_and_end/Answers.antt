use Rattle.std.proofs.Common.{◌≡◌, ◌∙◌, ◌∷◌, ◌+◌, [], Err, None, arith, false, refl, sym, true}
use Rattle.std.proofs.lemmas.Result.{err_from_is_err_and}
use Rattle.pyx.specs.plain.DocumentReader.{fault, is_outside}
use Rattle.rng_model.specs.declared.pyx_fault.PyxFault.TheVariants as pyx
use Rattle.pyx.specs.views.View.{state_of}
use Rattle.pyx.proofs.Input.LineCounts.{tag_ended_keeps}
use Rattle.pyx.proofs.Input.LineTurns.{hands_nothing}
use Rattle.pyx.proofs.States.TextInPlace.{inside, outside, plain_end_line, plain_text_line, tag_fails, takes_after}
use Rattle.pyx.proofs.state.State.text_and_end.Goals as goal

pub returns-in_err-end_tag : goal.returns-in_err-end_tag
returns-in_err-end_tag g c =
    let p = err_from_is_err_and c.from_residual.result c.from_residual.ensures.1 in
    rw (p.1, p.2) (tag_fails (Unit {0}) g.E.Events.stands c.args.events.now c.end_tag.new.events (state_of c.args.self.now) (state_of c.end_tag.new.self)
    c.args.text.now c.args.name.now c.in_err-end_tag.field-0.0 c.in_err-end_tag.ensures.turn)

pub overflow_add-self : goal.overflow_add-self
overflow_add-self g c =
    let k = tag_ended_keeps (45 ∷ []) (state_of c.args.self.now) (state_of c.end_tag.new.self) c.in_ok-end_tag.ensures.turn.0 in
    let e : c.end_tag.new.self.lines ≡ c.args.self.now.lines = k.0 in omega (arith, e, c.requires.lines)

pub returns-then-is_empty : goal.returns-then-is_empty
returns-then-is_empty g c =
    let s = state_of c.args.self.now in
    let u = state_of c.end_tag.new.self in
    let free : u.tag ≡ None = rw (c.in_ok-end_tag.ensures.ended refl) refl in
    let out : is_outside u ≡ true = sym c.is_empty.ensures ∙ c.if-is_empty.true in
    rw c.fault.ensures (takes_after (Unit {0}) g.E.Events.stands c.args.events.now c.end_tag.new.events c.end_tag.new.events _
    (fault 9 (u.count + 1)) _ (record u { count = u.count + 1 }) (Err (pyx.At 9 (u.count + 1)))
    (outside s u c.args.text.now c.args.name.now c.in_ok-end_tag.ensures.turn.0 free c.requires.alone c.requires.literal c.requires.short.0
    (plain_text_line c.args.text.now c.utf8.text c.requires.plain_text c.requires.short.0)
    (plain_end_line c.args.name.now c.utf8.name c.requires.plain_end c.requires.short.1) out)
    c.in_ok-end_tag.ensures.turn.1 (refl, hands_nothing g.E.Events.stands c.end_tag.new.events))

pub overflow_add-self-2 : goal.overflow_add-self-2
overflow_add-self-2 g c =
    let k = tag_ended_keeps (45 ∷ []) (state_of c.args.self.now) (state_of c.end_tag.new.self) c.in_ok-end_tag.ensures.turn.0 in
    let e : c.end_tag.new.self.lines ≡ c.args.self.now.lines = k.0 in omega (arith, e, c.requires.lines)

pub returns : goal.returns
returns g c =
    let s = state_of c.args.self.now in
    let u = state_of c.end_tag.new.self in
    let free : u.tag ≡ None = rw (c.in_ok-end_tag.ensures.ended refl) refl in
    let inner : is_outside u ≡ false = sym c.is_empty.ensures ∙ c.if-is_empty.false in
    takes_after (Unit {0}) g.E.Events.stands c.args.events.now c.end_tag.new.events c.end.new.events _ _ _ (state_of c.end.new.self) c.end.result
    (inside s u c.args.text.now c.args.name.now c.in_ok-end_tag.ensures.turn.0 free c.requires.alone c.requires.literal c.requires.short.0
    (plain_text_line c.args.text.now c.utf8.text c.requires.plain_text c.requires.short.0)
    (plain_end_line c.args.name.now c.utf8.name c.requires.plain_end c.requires.short.1) _ inner)
    c.in_ok-end_tag.ensures.turn.1 c.end.ensures
