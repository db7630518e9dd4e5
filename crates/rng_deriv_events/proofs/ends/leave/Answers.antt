use Rattle.std.proofs.Common.{rules, ◌≡◌, subst, sym, slice_get, slice_index_or, Some}
use Rattle.std.proofs.lemmas.Option.{slice_get-get_or}
use Rattle.rng_deriv_table.specs.declared.pattern.PatternNumber.{PatternNumber}
use Rattle.rng_deriv_events.specs.views.Basis.{reading_by}
use Rattle.rng_deriv_events.specs.views.Levels.{LeavesBy}
use Rattle.rng_deriv_events.proofs.EndedElements.{leaves_rest}
use Rattle.rng_deriv_events.proofs.Numbers.{set_lent}
use Rattle.rng_deriv_events.proofs.ends.leave.Goals as goal

pub returns-clause-leaves : goal.returns-clause-leaves
returns-clause-leaves g c =
    let trees = g.D.Derivatives.trees in
    let reading = reading_by (g.D.Derivatives.basis c.args.derivatives.now) in
    let old = trees c.args.derivatives.now in
    let new = trees c.joined.new.derivatives in
    let items = c.args.outside.now.items in
    let place = c.args.link.outer in
    let none : PatternNumber = record { 0 = 0 } in
    let around = slice_index_or c.deref.result.now place none in
    let joined = c.in_ok-joined.joined in
    let at = subst (λ ns. slice_get items place ≡ Some (slice_index_or ns place none)) (sym c.deref.ensures)
    (slice_get-get_or items place none c.requires.link.0) in
    subst (LeavesBy reading c.args.good.now old new c.args.link items) (sym (set_lent items c.deref_mut.result.now place joined c.deref_mut.ensures.value))
    (leaves_rest reading c.args.good.now old new c.args.link items around joined (c.is_good.ensures.0 (search rules)) c.requires.outside at
    c.in_ok-joined.ensures.choice)
