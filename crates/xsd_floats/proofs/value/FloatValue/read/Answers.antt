use Rattle.std.proofs.Common.{None, sym, ap, ◌∙◌}
use Rattle.rng_model.specs.xsd.primitives.Floats.{float_of}
use Rattle.rng_types.proofs.OnePiece.{collapse-only, collapse-other}
use Rattle.xsd_floats.specs.views.Values.{format_of}
use Rattle.xsd_floats.proofs.WrittenNumbers.{float-empty, float-spaced}
use Rattle.xsd_floats.proofs.value.FloatValue.read.Goals as goal

pub returns-in-Some : goal.returns-in-Some
returns-in-Some c =
    c.read_piece.ensures ∙ ap (float_of (format_of c.args.kind)) (sym (collapse-only c.args.text.now c.in-Some.piece.now c.in-Some.ensures))

pub returns-in-None : goal.returns-in-None
returns-in-None c =
    let format = format_of c.args.kind in
    sym (collapse-other (float_of format) None c.args.text.now (float-empty format) (λ v w utf8. float-spaced format v w) c.utf8.text c.in-None.ensures)
