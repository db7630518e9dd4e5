use Rattle.std.proofs.Common.{None, ap, ◌∙◌, sym}
use Rattle.std.specs.Option.{option_and_then}
use Rattle.rng_model.specs.xsd.Numbers.{integer_of, counted_from}
use Rattle.rng_types.proofs.OnePiece.{collapse-only, collapse-other}
use Rattle.xsd_types.proofs.Signs.{integer-empty, integer-spaced}
use Rattle.xsd_types.proofs.counts.count.Goals as goal

pub returns-in-Some : goal.returns-in-Some
returns-in-Some c =
    c.count_in.ensures
    ∙ ap (λ t. option_and_then (counted_from c.args.least) (integer_of t)) (sym (collapse-only c.args.text.now c.in-Some.piece.now c.in-Some.ensures))

pub returns-in-None : goal.returns-in-None
returns-in-None c =
    ap (option_and_then (counted_from c.args.least))
    (sym (collapse-other integer_of None c.args.text.now integer-empty (λ v w utf8. integer-spaced v w) c.utf8.text c.in-None.ensures))
