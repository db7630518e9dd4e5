use Rattle.std.proofs.Common.{rules, ◌≡◌, ◌⊎◌, ◌↔◌, ℕ, Contains, slice_index_or, ◌+◌, ◌∷◌, ◌++◌, [], ap, sym, ◌∙◌, subst, length, length-append, Some, slice_get, vec_items, arith}
use Rattle.std.proofs.lemmas.List.{map_push, length-map}
use Rattle.rng_rules.specs.plain.NamesMeetReach.{lists}
use Rattle.rng_rules.specs.views.NamesMeetRows.{passed}
use Rattle.rng_rules.proofs.NamesMeetTables.{IsAboveOfFirst, above_more, above_all}
use Rattle.rng_rules.proofs.names_meet_rows.above.Goals as goal

pub rows-preserved : goal.rows-preserved
rows-preserved c =
    let ps = c.args.grammar.now.patterns in
    let n = length c.rows.all.items in
    let row : c.len-row.result ≡ n = search rules in
    let at : Some c.in-Some.pattern.now ≡ slice_get ps n = search rules in
    let added : (k p : ℕ) → Contains (slice_index_or (lists c.add_row.new.all.items) k []) p
    ↔ (Contains (slice_index_or (lists c.rows.all.items) k []) p ⊎ ((p ≡ n) × Contains (passed c.in-Some.pattern.now) k)) =
    subst (λ r. (k p : ℕ) → Contains (slice_index_or (lists c.add_row.new.all.items) k []) p
    ↔ (Contains (slice_index_or (lists c.rows.all.items) k []) p ⊎ ((p ≡ r) × Contains (passed c.in-Some.pattern.now) k))) row c.in_ok-add_row.ensures.exact in
    let more : lists c.push.new.self.items ≡ lists c.add_row.new.all.items ++ [] ∷ [] =
    ap lists c.in_ok-push.ensures.items ∙ map_push vec_items c.add_row.new.all.items c.new.result ∙ ap (λ xs. lists c.add_row.new.all.items ++ xs ∷ []) c.new.ensures.items in
    let long : length c.push.new.self.items ≡ n + 1 = omega (arith, ap length c.in_ok-push.ensures.items, length-append c.add_row.new.all.items (c.new.result ∷ []), c.in_ok-add_row.ensures.long) in
    subst (λ k. IsAboveOfFirst ps k (lists c.push.new.self.items)) (sym long)
    (above_more ps n c.in-Some.pattern.now at (lists c.rows.all.items) (lists c.add_row.new.all.items) (lists c.push.new.self.items) c.rows.invariant
    (length-map c.add_row.new.all.items vec_items ∙ c.in_ok-add_row.ensures.long ∙ sym (length-map c.rows.all.items vec_items)) added more)

pub returns : goal.returns
returns c = above_all c.args.grammar.now.patterns (length c.rows.all.items) (lists c.rows.all.items) (search rules) c.rows.invariant
