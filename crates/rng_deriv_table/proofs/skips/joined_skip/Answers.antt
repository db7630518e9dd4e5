use Rattle.std.proofs.Common.{◌≡◌, ◌∙◌, Some, ap, slice_get, subst, sym}
use Rattle.std.proofs.lemmas.Option.{slice_get-get_or}
use Rattle.rng_deriv_table.specs.views.Skips.{IsSkip}
use Rattle.rng_deriv_table.proofs.MemberSkips.{joined_made}
use Rattle.rng_deriv_table.proofs.skips.joined_skip.Goals as goal

pub returns-clause-skip : goal.returns-clause-skip
returns-clause-skip c = λ ns ms all.
    let skips = c.args.skips.now in
    let first = c.in_ok-first.first.now in
    let second = c.in_ok-second.second.now in
    let one = c.in_ok-first.ensures.lookup in
    let two = c.in_ok-second.ensures.lookup in
    let found : slice_get skips c.args.position ≡ Some first = slice_get-get_or skips c.args.position first one.3.0 ∙ ap Some (sym one.1) in
    let next : slice_get skips first.behind ≡ Some second = slice_get-get_or skips first.behind second two.3.0 ∙ ap Some (sym two.1) in
    subst (λ e. IsSkip ns ms c.args.position (record { elements = e; behind = second.behind })) (sym c.joined.ensures)
    (joined_made ns ms c.args.position first second (all c.args.position first found) (all first.behind second next))
