use Rattle.std.proofs.Common.{rules, ◌≡◌, ◌↔◌, ◌<◌, sym, subst, ℕ, length, slice_get, Some, All, IfOk}
use Rattle.rng_labels.specs.plain.Queues.{IsReachedBy}
use Rattle.rng_rules.specs.views.NamesMeetRows.{children_at, part_rows}
use Rattle.rng_rules.proofs.NamesMeetTables.{parts_in_table}
use Rattle.rng_rules.proofs.names_meet_rows.standing.Goals as goal

pub within-requires : goal.within-requires
within-requires c =
    let t = c.args.grammar.now in
    let parts : c.as_slice.result.now ≡ part_rows t = search rules in
    subst (All (λ k. k < length t.patterns)) (sym parts) (parts_in_table t c.start.ensures.valid)

pub returns-clause-exact : goal.returns-clause-exact
returns-clause-exact c =
    let t = c.args.grammar.now in
    let parts : c.as_slice.result.now ≡ part_rows t = search rules in
    subst (λ start. IfOk c.within.result (λ marks. (k : ℕ) → IsReachedBy (children_at t.patterns) start k ↔ (slice_get marks.items k ≡ Some 1))) parts
    c.within.ensures.exact
