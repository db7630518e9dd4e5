use Rattle.std.proofs.Common.{Bool, IfOk, List, ap, subst, sym}
use Rattle.rng_model.specs.documents.PyxTrees.{Event}
use Rattle.rng_deriv_events.specs.views.Basis.{reading_by}
use Rattle.rng_deriv_events.specs.views.NextEnds.{TellsEnd}
use Rattle.rng_deriv_events.specs.views.Positions.{IsKnown}
use Rattle.rng_deriv_events.specs.declared.left.Left.{Left}
use Rattle.rng_deriv_events.specs.declared.progress.Progress.{Progress}
use Rattle.rng_deriv_events.proofs.NextEnds.{going_tells}
use Rattle.rng_deriv_events.proofs.next_end.may_end.Goals as goal

pub returns-in-Going-clause-ends : goal.returns-in-Going-clause-ends
returns-in-Going-clause-ends g c =
    let d = c.args.derivatives.now in
    let reading = reading_by (g.D.Derivatives.basis d) in
    let trees = g.D.Derivatives.trees d in
    subst (λ (p : Progress). IfOk c.may_end_at.result (λ told. (es : List Event) → IsKnown reading trees p es → TellsEnd reading p told es)) (sym c.in-Going.is)
    (going_tells reading trees c.in-Going.position.value c.in-Going.line c.may_end_at.result c.may_end_at.ensures.ends)

pub returns-in-Failed-clause-ends : goal.returns-in-Failed-clause-ends
returns-in-Failed-clause-ends g c =
    let d = c.args.derivatives.now in
    let reading = reading_by (g.D.Derivatives.basis d) in
    let trees = g.D.Derivatives.trees d in
    let left = c.in-Failed.left.value in
    let told = ap (λ (l : Left). l.may_end) (sym c.deref.ensures) in
    subst (λ (b : Bool). (es : List Event) → IsKnown reading trees c.args.progress.now es → TellsEnd reading c.args.progress.now b es) told
    (subst (λ (p : Progress). (es : List Event) → IsKnown reading trees p es → TellsEnd reading p left.may_end es) (sym c.in-Failed.is) (λ es w. (w.fails, w.ends)))
