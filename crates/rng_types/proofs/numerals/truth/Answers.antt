use Rattle.std.proofs.Common.{ap, sym, ◌∙◌, None}
use Rattle.rng_model.specs.datatypes.Facets.{truth_of}
use Rattle.rng_types.proofs.OnePiece.{collapse-only, collapse-other}
use Rattle.rng_types.proofs.Decimals.{truth-spaced, truth-empty}
use Rattle.rng_types.proofs.numerals.truth.Goals as goal

pub returns-in-Some : goal.returns-in-Some
returns-in-Some c = c.truth_in.ensures ∙ ap truth_of (sym (collapse-only c.args.text.now c.in-Some.piece.now c.in-Some.ensures))

pub returns-in-None : goal.returns-in-None
returns-in-None c = sym (collapse-other truth_of None c.args.text.now truth-empty (λ v w utf8. truth-spaced v w) c.utf8.text c.in-None.ensures)
