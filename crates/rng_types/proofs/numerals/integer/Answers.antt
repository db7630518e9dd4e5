use Rattle.std.proofs.Common.{ap, sym, ◌∙◌, None}
use Rattle.rng_model.specs.datatypes.Facets.{short_integer_of}
use Rattle.rng_types.proofs.OnePiece.{collapse-only, collapse-other}
use Rattle.rng_types.proofs.Decimals.{integer-spaced, integer-empty}
use Rattle.rng_types.proofs.numerals.integer.Goals as goal

pub returns-in-Some : goal.returns-in-Some
returns-in-Some c = c.integer_in.ensures ∙ ap short_integer_of (sym (collapse-only c.args.text.now c.in-Some.piece.now c.in-Some.ensures))

pub returns-in-None : goal.returns-in-None
returns-in-None c = sym (collapse-other short_integer_of None c.args.text.now integer-empty (λ v w utf8. integer-spaced v w) c.utf8.text c.in-None.ensures)
