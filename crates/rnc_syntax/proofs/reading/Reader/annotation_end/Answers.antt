use Rattle.std.proofs.Common.{◌∙◌, length, sym, ap, arith}
use Rattle.rnc_syntax.proofs.AnnotationSteps.{opens, stays, closes_last, closes_inner, is_foreign, ends, stuck}
use Rattle.rnc_syntax.proofs.reading.Reader.annotation_end.Goals as goal
use Rattle.rnc_syntax.proofs.reading.Reader.annotation_end.Goals.{in-Opens, in-Closes-2, in-Content}

pub returns-in-Closes : goal.returns-in-Closes
returns-in-Closes c = sym c.loop-role.invariant.whole ∙ closes_last _ _ _ _ c.in-Some.ensures.reads c.in-Closes.is c.if-open-eq0.true

pub returns-in-Foreign : goal.returns-in-Foreign
returns-in-Foreign c = stuck _ _ _ c.unexpected.ensures
    (sym c.loop-role.invariant.whole ∙ is_foreign _ _ _ _ c.in-Some.ensures.reads c.in-Foreign.is)

pub loop-role-preserved : goal.loop-role-preserved
loop-role-preserved c =
    let shorter = c.in-Some.ensures.shorter in
    elim c.match-role.branch [
      | in-Opens w ↦
          record {
            whole = rw (c.onward-rest.ensures, w.open-is) (opens _ _ _ _ c.in-Some.ensures.reads w.in-Opens.is ∙ c.loop-role.invariant.whole);
            few = omega (arith, shorter, ap length c.onward-rest.ensures, w.open-is, c.loop-role.invariant.few);
          }
      | in-Closes-2 w ↦
          record {
            whole = rw (c.onward-rest.ensures, w.open-is) (closes_inner _ _ _ _ c.in-Some.ensures.reads w.in-Closes.is w.if-open-eq0.false
                ∙ c.loop-role.invariant.whole);
            few = omega (arith, shorter, ap length c.onward-rest.ensures, w.open-is, c.loop-role.invariant.few);
          }
      | in-Content w ↦
          record {
            whole = rw (c.onward-rest.ensures, w.open-is) (stays _ _ _ _ c.in-Some.ensures.reads w.in-Content.is ∙ c.loop-role.invariant.whole);
            few = omega (arith, shorter, ap length c.onward-rest.ensures, w.open-is, c.loop-role.invariant.few);
          }
    ]

pub returns : goal.returns
returns c = stuck _ _ _ c.unexpected-2.ensures (sym c.loop-role.invariant.whole ∙ ends _ _ c.in_default.ensures.reads)
