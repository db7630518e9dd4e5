use Rattle.std.proofs.Common.{◌≡◌, ◌↔◌, ◌++◌, ◌∷◌, [], ap, sym, ◌∙◌, subst, ℕ, Contains, slice_index_or, vec_items}
use Rattle.std.proofs.lemmas.List.{map_push}
use Rattle.rng_rules.specs.plain.NamesMeetReach.{lists}
use Rattle.rng_rules.proofs.NamesMeetTables.{in_longer}
use Rattle.rng_rules.proofs.names_meet_groups.make_room.Goals as goal

pub returns-in_ok-push-clause-same : goal.returns-in_ok-push-clause-same
returns-in_ok-push-clause-same c =
    let old = lists c.args.rows.now.items in
    let more : lists c.push.new.self.items ≡ old ++ [] ∷ [] =
    ap lists c.in_ok-push.ensures.items ∙ map_push vec_items c.args.rows.now.items c.new.result ∙ ap (λ xs. old ++ xs ∷ []) c.new.ensures.items in
    subst (λ xs. (k p : ℕ) → Contains (slice_index_or xs k []) p ↔ Contains (slice_index_or old k []) p) (sym more) (in_longer old)
