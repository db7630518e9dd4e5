use Rattle.std.proofs.Common.{◌≡◌, ◌⊎◌, ◌↔◌, ◌∷◌, ◌++◌, [], ap, sym, ◌∙◌, subst, ℕ, set, get_or, slice_set, slice_index_or, Contains, vec_items, arith}
use Rattle.std.proofs.lemmas.List.{map-set, get_or-map, length-map}
use Rattle.rng_rules.specs.plain.NamesMeetReach.{lists}
use Rattle.rng_rules.proofs.NamesMeetTables.{row_added}
use Rattle.rng_rules.proofs.names_meet_rows.add_above.Goals as goal

pub returns-clause-exact : goal.returns-clause-exact
returns-clause-exact c =
    let items = c.args.all.now.items in
    let own : c.push.new.self.items ≡ get_or (lists items) c.args.child [] ++ c.args.row ∷ [] =
    c.in_ok-push.ensures.items
    ∙ ap (λ xs. xs ++ c.args.row ∷ []) (ap vec_items c.index_mut.ensures.value ∙ sym (get_or-map vec_items items c.args.child c.index_mut.result.now [] c.requires)) in
    let all : lists (slice_set items c.args.child c.push.new.self) ≡ set (lists items) c.args.child (get_or (lists items) c.args.child [] ++ c.args.row ∷ []) =
    map-set vec_items items c.args.child c.push.new.self ∙ ap (set (lists items) c.args.child) own in
    subst (λ xs. (k p : ℕ) → Contains (slice_index_or xs k []) p ↔ (Contains (slice_index_or (lists items) k []) p ⊎ ((p ≡ c.args.row) × (k ≡ c.args.child)))) (sym all)
    (row_added (lists items) c.args.child c.args.row (omega (arith, c.requires, length-map items vec_items)))
