use Rattle.std.proofs.Common.{◌≡◌, ◌++◌, refl, arith, ap, length, ◌∙◌}
use Rattle.std.proofs.lemmas.List.{length-append}
use Rattle.std.proofs.lemmas.Result.{err_from_is_err_and}
use Rattle.pyx.specs.plain.DocumentReader.{followed}
use Rattle.pyx.specs.plain.Pieces.{read}
use Rattle.pyx.specs.views.View.{progress_of}
use Rattle.pyx.proofs.Input.PieceCounts.{read_counts}
use Rattle.pyx.proofs.Input.LineTurns.{starts, goes_on, fails, ends, read_append}
use Rattle.pyx.proofs.pieces.Pieces.read.Goals as goal

pub returns-in_err-read_bytes : goal.returns-in_err-read_bytes
returns-in_err-read_bytes g c =
    let e = err_from_is_err_and c.from_residual.result c.from_residual.ensures.1 in
    let xs = c.parts.result.0.now in
    let rest = c.parts.result.1.now ++ c.parts.result.2.now in
    let p = progress_of c.args.self.now in
    let cut : read c.args.piece.now p ≡ followed (read xs p) (read rest) = ap (λ b. read b p) c.parts.ensures ∙ read_append xs rest p in
    let start = starts g.E.Events.stands c.args.events.now c.args.piece.now p in
    rw (e.1, e.2) (fails (Unit {0}) g.E.Events.stands c.args.events.now c.args.events.now _ (read c.args.piece.now p) (read xs p) c.args.piece.now rest p _
    c.in_err-read_bytes.field-0.0 cut start c.in_err-read_bytes.ensures)

pub read_lines-requires-clause-begun : goal.read_lines-requires-clause-begun
read_lines-requires-clause-begun g c =
    let n = read_counts c.parts.result.0.now (progress_of c.args.self.now) (progress_of c.read_bytes.new.self) c.in_ok-read_bytes.ensures.0 c.requires.begun in
    n.0

pub read_lines-requires-clause-weight : goal.read_lines-requires-clause-weight
read_lines-requires-clause-weight g c =
    let n = read_counts c.parts.result.0.now (progress_of c.args.self.now) (progress_of c.read_bytes.new.self) c.in_ok-read_bytes.ensures.0 c.requires.begun in
    omega (
      arith,
      n.1,
      c.requires.weight,
      ap length c.parts.ensures,
      length-append c.parts.result.0.now (c.parts.result.1.now ++ c.parts.result.2.now),
      length-append c.parts.result.1.now c.parts.result.2.now,
    )

pub returns-in_err-read_lines : goal.returns-in_err-read_lines
returns-in_err-read_lines g c =
    let e = err_from_is_err_and c.from_residual-in_err-read_lines.result c.from_residual-in_err-read_lines.ensures.1 in
    let xs = c.parts.result.0.now in
    let rest = c.parts.result.1.now ++ c.parts.result.2.now in
    let p = progress_of c.args.self.now in
    let cut : read c.args.piece.now p ≡ followed (read xs p) (read rest) = ap (λ b. read b p) c.parts.ensures ∙ read_append xs rest p in
    let start = starts g.E.Events.stands c.args.events.now c.args.piece.now p in
    let q = progress_of c.read_bytes.new.self in
    let gone = goes_on g.E.Events.stands c.args.events.now c.args.events.now c.read_bytes.new.events (read c.args.piece.now p) (read xs p) c.args.piece.now
    rest p q cut start c.in_ok-read_bytes.ensures in
    let body = c.parts.result.1.now in
    let tail = c.parts.result.2.now in
    rw (e.1, e.2) (fails (Unit {0}) g.E.Events.stands c.args.events.now c.read_bytes.new.events _ (read c.args.piece.now p) (read body q) rest tail q _
    c.in_err-read_lines.field-0.0 (read_append body tail q) gone c.in_err-read_lines.ensures)

pub read_bytes-requires-2-clause-begun : goal.read_bytes-requires-2-clause-begun
read_bytes-requires-2-clause-begun g c =
    let n = read_counts c.parts.result.0.now (progress_of c.args.self.now) (progress_of c.read_bytes.new.self) c.in_ok-read_bytes.ensures.0 c.requires.begun in
    let m = read_counts c.parts.result.1.now (progress_of c.read_bytes.new.self) (progress_of c.read_lines.new.self) c.in_ok-read_lines.ensures.0
    n.0 in
    m.0

pub read_bytes-requires-2-clause-weight : goal.read_bytes-requires-2-clause-weight
read_bytes-requires-2-clause-weight g c =
    let n = read_counts c.parts.result.0.now (progress_of c.args.self.now) (progress_of c.read_bytes.new.self) c.in_ok-read_bytes.ensures.0 c.requires.begun in
    let m = read_counts c.parts.result.1.now (progress_of c.read_bytes.new.self) (progress_of c.read_lines.new.self) c.in_ok-read_lines.ensures.0
    n.0 in
    omega (
      arith,
      n.1,
      m.1,
      c.requires.weight,
      ap length c.parts.ensures,
      length-append c.parts.result.0.now (c.parts.result.1.now ++ c.parts.result.2.now),
      length-append c.parts.result.1.now c.parts.result.2.now,
    )

pub returns : goal.returns
returns g c =
    let xs = c.parts.result.0.now in
    let rest = c.parts.result.1.now ++ c.parts.result.2.now in
    let p = progress_of c.args.self.now in
    let cut : read c.args.piece.now p ≡ followed (read xs p) (read rest) = ap (λ b. read b p) c.parts.ensures ∙ read_append xs rest p in
    let start = starts g.E.Events.stands c.args.events.now c.args.piece.now p in
    let q = progress_of c.read_bytes.new.self in
    let gone = goes_on g.E.Events.stands c.args.events.now c.args.events.now c.read_bytes.new.events (read c.args.piece.now p) (read xs p) c.args.piece.now
    rest p q cut start c.in_ok-read_bytes.ensures in
    let body = c.parts.result.1.now in
    let tail = c.parts.result.2.now in
    let r = progress_of c.read_lines.new.self in
    let further = goes_on g.E.Events.stands c.args.events.now c.read_bytes.new.events c.read_lines.new.events (read c.args.piece.now p) (read body q) rest
    tail q r (read_append body tail q) gone c.in_ok-read_lines.ensures in
    ends (Unit {0}) g.E.Events.stands c.args.events.now c.read_lines.new.events _ (read c.args.piece.now p) (read tail r) tail r _ c.read_bytes-2.result
    refl further c.read_bytes-2.ensures
