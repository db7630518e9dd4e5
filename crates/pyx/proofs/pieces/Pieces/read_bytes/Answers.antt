use Rattle.std.proofs.Common.{arith}
use Rattle.std.proofs.lemmas.Result.{err_from_is_err_and}
use Rattle.pyx.specs.plain.Pieces.{line_taken, rest_taken}
use Rattle.pyx.specs.views.View.{progress_of}
use Rattle.pyx.proofs.Input.LinesOfPieces.{read_line, read_rest}
use Rattle.pyx.proofs.Input.PieceCounts.{line_counts}
use Rattle.pyx.proofs.Input.LineTurns.{goes_on, fails, ends}
use Rattle.pyx.proofs.pieces.Pieces.read_bytes.Goals as goal

pub returns-in_err-line : goal.returns-in_err-line
returns-in_err-line g c =
    let p = err_from_is_err_and c.from_residual.result c.from_residual.ensures.1 in
    rw (p.1, p.2) (fails (Unit {0}) g.E.Events.stands _ c.lines.events _ _ (line_taken c.in-Some.front.now (progress_of c.lines.self)) c.lines.rest.now
    c.in-Some.after.now
    (progress_of c.lines.self) _ c.in_err-line.field-0.0 (read_line c.lines.rest.now c.in-Some.front.now c.in-Some.after.now (progress_of c.lines.self)
    c.in-Some.ensures.parts c.lines.invariant.begun)
    c.lines.invariant.goes c.in_err-line.ensures)

pub lines-preserved : goal.lines-preserved
lines-preserved g c =
    let n = line_counts c.in-Some.front.now (progress_of c.lines.self) (progress_of c.line.new.self) c.in_ok-line.ensures.0 c.lines.invariant.begun in
    record {
      goes = goes_on g.E.Events.stands _ c.lines.events _ _ (line_taken c.in-Some.front.now (progress_of c.lines.self)) c.lines.rest.now c.in-Some.after.now
          (progress_of c.lines.self) _
          (read_line c.lines.rest.now c.in-Some.front.now c.in-Some.after.now (progress_of c.lines.self) c.in-Some.ensures.parts c.lines.invariant.begun)
          c.lines.invariant.goes c.in_ok-line.ensures;
      begun = omega (arith, n.0);
      room = omega (arith, n.1, c.in-Some.ensures.shorter, c.lines.invariant.room);
    }

pub returns : goal.returns
returns g c = ends (Unit {0}) g.E.Events.stands _ c.lines.events _ _ (rest_taken c.lines.rest.now (progress_of c.lines.self)) c.lines.rest.now
    (progress_of c.lines.self) _ c.keep.result
    (read_rest c.lines.rest.now (progress_of c.lines.self) c.in_default.ensures.parts c.lines.invariant.begun) c.lines.invariant.goes c.keep.ensures
