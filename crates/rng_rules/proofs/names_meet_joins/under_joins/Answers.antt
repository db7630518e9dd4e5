use Rattle.std.proofs.Common.{◌<◌, sym, subst, length, All}
use Rattle.rng_labels.specs.plain.Queues.{IsReachedBy, at_start}
use Rattle.rng_rules.specs.plain.NamesMeetReach.{lists}
use Rattle.rng_rules.specs.views.NamesMeetRows.{children_at}
use Rattle.rng_rules.proofs.NamesMeetJoins.{goes_under}
use Rattle.rng_rules.proofs.NamesMeetSearch.{if_ok}
use Rattle.rng_rules.proofs.names_meet_joins.under_joins.Goals as goal

pub within-requires : goal.within-requires
within-requires c =
    let t = c.args.rows.now.grammar.now in
    subst (λ n. All (λ k. k < n) c.as_slice.result.now) c.requires.long
    (subst (All (λ k. k < length c.args.rows.now.standing.items)) (sym c.as_slice.ensures.value) c.in_ok-joins.ensures.below)

pub returns-clause-all : goal.returns-clause-all
returns-clause-all c =
    let rows = c.args.rows.now in
    let t = rows.grammar.now in
    if_ok c.within.result (λ marks exact k u. (exact k).0 (subst (λ xs. IsReachedBy (children_at t.patterns) xs k) (sym c.as_slice.ensures.value)
    (goes_under t c.requires.valid (lists rows.above.items) c.requires.is_above c.in_ok-joins.joins.items u.climbs
    (at_start (c.in_ok-joins.ensures.all u.row u.left u.right u.join))))) c.within.ensures.exact
