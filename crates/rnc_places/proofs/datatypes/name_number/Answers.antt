use Rattle.std.proofs.Common.{◌∙◌, ap, arith, length, sym}
use Rattle.rnc_model.specs.tokens.Cut.{lexeme_at}
use Rattle.rnc_syntax.specs.plain.Reading.{lexemes_in}
use Rattle.rnc_places.proofs.DatatypeSteps.{name_later, no_name_left}
use Rattle.rnc_places.proofs.FaultSteps.{depth_grows}
use Rattle.rnc_places.proofs.datatypes.name_number.Goals as goal

pub tokens-preserved : goal.tokens-preserved
tokens-preserved c =
    let same = ap length c.onward-rest.ensures in
    let shorter = c.in-Some.ensures.shorter in
    record {
      number = λ total. name_later c.tokens.depth c.tokens.part (lexemes_in total c.tokens.rest.now) _ _ (c.in-Some.ensures.reads total)
          (length c.args.tokens.now) (length c.tokens.rest.now) _ c.tokens.left (c.tokens.invariant.number total) (length c.onward-rest.result.now)
          (omega (arith, same, shorter)) c.tokens.invariant.within c.is_name_at-is_name.result (c.is_name_at-is_name.ensures total _ _)
          (sym c.is_last.ensures ∙ c.if-is_last.false) c.depth_after-depth.result c.part_at-part.result (lexemes_in total c.onward-rest.result.now)
          c.left_after-left.result (c.depth_after-depth.ensures _ _) (c.part_at-part.ensures _ _) (ap (lexemes_in total) c.onward-rest.ensures)
          c.left_after-left.ensures;
      depth = omega (
        arith,
        same,
        shorter,
        c.tokens.invariant.depth,
        c.depth_after-depth.ensures c.in-Some.token.text.now 0,
        depth_grows c.tokens.depth (lexeme_at c.in-Some.token.kind c.in-Some.token.text.now 0),
      );
      within = omega (arith, same, shorter, c.tokens.invariant.within);
    }

pub returns-clause-number : goal.returns-clause-number
returns-clause-number c = λ total.
    no_name_left c.tokens.depth c.tokens.part total c.tokens.left c.tokens.rest.now (length c.args.tokens.now) _ (c.in_default.ensures.reads total)
    (c.tokens.invariant.number total)
