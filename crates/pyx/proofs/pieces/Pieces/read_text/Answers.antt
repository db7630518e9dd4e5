use Rattle.std.proofs.Common.{◌≡◌, ◌∷◌, ℕ, List, Some, Ok, Err, arith, length, rules, ap, subst, sym, true, ◌∙◌}
use Rattle.std.specs.List.{list_all}
use Rattle.pyx.specs.plain.PlainBytes.{is_plain}
use Rattle.std.proofs.lemmas.Result.{err_from_is_err_and}
use Rattle.pyx.specs.plain.Pieces.{line_taken, rest_taken}
use Rattle.rng_model.specs.documents.EventViews.{Hands}
use Rattle.pyx.specs.plain.Cuts.{at_byte}
use Rattle.pyx.specs.views.View.{progress_of, state_of}
use Rattle.pyx.proofs.Input.FirstLines.{halves}
use Rattle.pyx.proofs.Input.LinesOfPieces.{read_line, read_rest}
use Rattle.pyx.proofs.Input.PieceCounts.{line_counts}
use Rattle.pyx.proofs.Input.LineTurns.{goes_on, fails, ends}
use Rattle.pyx.proofs.States.TextInPlace.{piece_takes, read_two, two, two_keep, two_taken}
use Rattle.pyx.proofs.pieces.Pieces.read_text.Goals as goal

pub returns-in_err-text_line : goal.returns-in_err-text_line
returns-in_err-text_line g c =
    let p = err_from_is_err_and c.from_residual-in_err-text_line.result c.from_residual-in_err-text_line.ensures.1 in
    rw (p.1, p.2) (fails (Unit {0}) g.E.Events.stands _ c.lines.events _ _ (line_taken c.in-Some.front.now (progress_of c.lines.self)) c.lines.rest.now
    c.in-Some.after.now
    (progress_of c.lines.self) _ c.in_err-text_line.field-0.0 (read_line c.lines.rest.now c.in-Some.front.now c.in-Some.after.now (progress_of c.lines.self)
    c.in-Some.ensures.parts c.lines.invariant.begun)
    c.lines.invariant.goes c.in_err-text_line.ensures)

pub lines-preserved : goal.lines-preserved
lines-preserved g c =
    let n = line_counts c.in-Some.front.now (progress_of c.lines.self) (progress_of c.text_line.new.self) c.in_ok-text_line.ensures.0 c.lines.invariant.begun in
    record {
      goes = goes_on g.E.Events.stands _ c.lines.events _ _ (line_taken c.in-Some.front.now (progress_of c.lines.self)) c.lines.rest.now c.in-Some.after.now
          (progress_of c.lines.self) _
          (read_line c.lines.rest.now c.in-Some.front.now c.in-Some.after.now (progress_of c.lines.self) c.in-Some.ensures.parts c.lines.invariant.begun)
          c.lines.invariant.goes c.in_ok-text_line.ensures;
      utf8 = search rules;
      plain = (halves c.lines.rest.now c.in-Some.front.now c.in-Some.after.now c.in-Some.ensures.parts c.lines.invariant.plain).after_plain;
      begun = omega (arith, n.0);
      room = omega (
        arith,
        n.1,
        (halves c.lines.rest.now c.in-Some.front.now c.in-Some.after.now c.in-Some.ensures.parts c.lines.invariant.plain).shorter,
        c.lines.invariant.room,
      );
    }

pub returns : goal.returns
returns g c = ends (Unit {0}) g.E.Events.stands _ c.lines.events _ _ (rest_taken c.as_bytes.result.now (progress_of c.lines.self)) c.lines.rest.now
    (progress_of c.lines.self) _ c.keep.result
    (read_rest c.lines.rest.now (progress_of c.lines.self) c.in_default.ensures.parts c.lines.invariant.begun
    ∙ ap (λ r. rest_taken r (progress_of c.lines.self)) (sym c.as_bytes.ensures.value)) c.lines.invariant.goes c.keep.ensures

pub text_line-requires-clause-plain : goal.text_line-requires-clause-plain
text_line-requires-clause-plain g c =
    (halves c.lines.rest.now c.in-Some.front.now c.in-Some.after.now c.in-Some.ensures.parts c.lines.invariant.plain).front_plain

pub lines-smaller : goal.lines-smaller
lines-smaller g c = omega (arith, (halves c.lines.rest.now c.in-Some.front.now c.in-Some.after.now c.in-Some.ensures.parts c.lines.invariant.plain).shorter)

-- ---- a text in its place

pub text_and_end-requires-clause-plain_text : goal.text_and_end-requires-clause-plain_text
text_and_end-requires-clause-plain_text g c =
    subst (λ (t : List ℕ). list_all is_plain t ≡ true) c.in-Some-text_in_place.ensures.text.0
    (halves c.lines.rest.now c.in-Some.front.now c.in-Some.after.now c.in-Some.ensures.parts c.lines.invariant.plain).front_plain

pub text_and_end-requires-clause-plain_end : goal.text_and_end-requires-clause-plain_end
text_and_end-requires-clause-plain_end g c =
    let h = halves c.lines.rest.now c.in-Some.front.now c.in-Some.after.now c.in-Some.ensures.parts c.lines.invariant.plain in
    (halves c.in-Some.after.now (41 ∷ c.in-Some-text_in_place.name.now) c.in-Some-text_in_place.behind.now (sym c.in-Some-text_in_place.ensures.end)
    h.after_plain).front_plain

pub returns-in_err-text_and_end : goal.returns-in_err-text_and_end
returns-in_err-text_and_end g c =
    let x = c.in-Some-text_in_place in
    let p = progress_of c.lines.self in
    let line : List ℕ = 45 ∷ x.text.now in
    let end : List ℕ = 41 ∷ x.name.now in
    let step = read_two c.lines.rest.now line c.in-Some.after.now end x.behind.now p
    (subst (λ (t : List ℕ). Some (t, c.in-Some.after.now) ≡ at_byte 10 c.lines.rest.now) x.ensures.text.0 c.in-Some.ensures.parts)
    x.ensures.end x.ensures.alone.0 (omega (arith, x.ensures.short.0)) (omega (arith, x.ensures.short.1)) in
    let e = err_from_is_err_and c.from_residual.result c.from_residual.ensures.1 in
    rw (e.1, e.2) (fails (Unit {0}) g.E.Events.stands _ c.lines.events _ _ (two_taken p line end) c.lines.rest.now x.behind.now p _
    c.in_err-text_and_end.field-0.0 step c.lines.invariant.goes
    (piece_takes (Unit {0}) _ (two p line end) c.lines.self.begun.items (state_of c.text_and_end.new.self) (Err c.in_err-text_and_end.field-0.0)
    x.ensures.alone.0 c.in_err-text_and_end.ensures))

pub lines-smaller-in-Some-text_in_place : goal.lines-smaller-in-Some-text_in_place
lines-smaller-in-Some-text_in_place g c =
    let h = halves c.lines.rest.now c.in-Some.front.now c.in-Some.after.now c.in-Some.ensures.parts c.lines.invariant.plain in
    omega (
      arith,
      h.shorter,
      (halves c.in-Some.after.now (41 ∷ c.in-Some-text_in_place.name.now) c.in-Some-text_in_place.behind.now (sym c.in-Some-text_in_place.ensures.end)
          h.after_plain).shorter,
    )

pub lines-preserved-in-Some-text_in_place : goal.lines-preserved-in-Some-text_in_place
lines-preserved-in-Some-text_in_place g c =
    let x = c.in-Some-text_in_place in
    let p = progress_of c.lines.self in
    let line : List ℕ = 45 ∷ x.text.now in
    let end : List ℕ = 41 ∷ x.name.now in
    let step = read_two c.lines.rest.now line c.in-Some.after.now end x.behind.now p
    (subst (λ (t : List ℕ). Some (t, c.in-Some.after.now) ≡ at_byte 10 c.lines.rest.now) x.ensures.text.0 c.in-Some.ensures.parts)
    x.ensures.end x.ensures.alone.0 (omega (arith, x.ensures.short.0)) (omega (arith, x.ensures.short.1)) in
    let first = halves c.lines.rest.now c.in-Some.front.now c.in-Some.after.now c.in-Some.ensures.parts c.lines.invariant.plain in
    let second = halves c.in-Some.after.now end x.behind.now (sym x.ensures.end) first.after_plain in
    let k = two_keep p line end (state_of c.text_and_end.new.self) c.in_ok-text_and_end.ensures.0 in
    record {
      goes = goes_on g.E.Events.stands _ c.lines.events _ _ (two_taken p line end) c.lines.rest.now x.behind.now p _ step c.lines.invariant.goes
          (piece_takes (Unit {0}) (Hands g.E.Events.stands c.lines.events c.text_and_end.new.events) (two p line end) c.lines.self.begun.items
          (state_of c.text_and_end.new.self) (Ok tt) x.ensures.alone.0 c.in_ok-text_and_end.ensures);
      begun = c.lines.invariant.begun;
      utf8 = search rules;
      plain = second.after_plain;
      room = omega (arith, k.0, k.1, first.shorter, second.shorter, ap length x.ensures.text.0, c.lines.invariant.room);
    }
