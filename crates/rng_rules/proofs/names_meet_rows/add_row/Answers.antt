use Rattle.std.proofs.Common.{rules, ◌≡◌, ◌∷◌, [], slice_index_or, Contains}
use Rattle.std.proofs.lemmas.Result.{on_ok_weaker}
use Rattle.rng_rules.specs.plain.NamesMeetReach.{lists}
use Rattle.rng_rules.specs.views.NamesMeetRows.{passed}
use Rattle.rng_rules.proofs.NamesMeetTables.{one_passed, two_passed}
use Rattle.rng_rules.proofs.names_meet_rows.add_row.Goals as goal

pub returns-in-OneOrMore-clause-exact : goal.returns-in-OneOrMore-clause-exact
returns-in-OneOrMore-clause-exact c =
    let same : c.in-OneOrMore.a.0 ∷ [] ≡ passed c.args.pattern.now = search rules in
    on_ok_weaker c.add_above.result (one_passed (λ k p. Contains (slice_index_or (lists c.args.all.now.items) k []) p)
    (λ k p. Contains (slice_index_or (lists c.add_above.new.all.items) k []) p) (λ k p. Contains (slice_index_or (lists c.add_above.new.all.items) k []) p) c.args.row c.in-OneOrMore.a.0 c.in-OneOrMore.a.0 (passed c.args.pattern.now) same)
    c.add_above.ensures.exact

pub returns-in_ok-add_above-in-Choice-clause-exact : goal.returns-in_ok-add_above-in-Choice-clause-exact
returns-in_ok-add_above-in-Choice-clause-exact c =
    let same : c.in-Choice.a.0 ∷ (c.in-Choice.b.0 ∷ []) ≡ passed c.args.pattern.now = search rules in
    on_ok_weaker c.add_above-in-Choice-2.result (two_passed (λ k p. Contains (slice_index_or (lists c.args.all.now.items) k []) p)
    (λ k p. Contains (slice_index_or (lists c.add_above-in-Choice.new.all.items) k []) p) (λ k p. Contains (slice_index_or (lists c.add_above-in-Choice-2.new.all.items) k []) p)
    c.args.row c.in-Choice.a.0 c.in-Choice.b.0 (passed c.args.pattern.now) same c.in_ok-add_above-in-Choice.ensures.exact)
    c.add_above-in-Choice-2.ensures.exact
