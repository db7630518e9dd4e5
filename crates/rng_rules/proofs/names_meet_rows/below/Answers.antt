use Rattle.std.proofs.Common.{rules, ◌≡◌, ◌∷◌, ◌++◌, [], ap, sym, ◌∙◌, length, map, take, None, Some, slice_get, vec_items}
use Rattle.std.proofs.lemmas.List.{map_push, length-map}
use Rattle.rng_rules.specs.plain.NamesMeetReach.{lists}
use Rattle.rng_rules.specs.views.NamesMeetRows.{children}
use Rattle.rng_model.proofs.MadeLists.{made_more, made_all}
use Rattle.rng_rules.proofs.names_meet_rows.below.Goals as goal

pub rows-preserved : goal.rows-preserved
rows-preserved c =
    let ps = c.args.grammar.now.patterns in
    let at : Some c.in-Some.pattern.now ≡ slice_get ps (length c.rows.all.items) = search rules in
    let more : lists c.push.new.self.items ≡ lists c.rows.all.items ++ children c.in-Some.pattern.now ∷ [] =
    ap lists c.in_ok-push.ensures.items ∙ map_push vec_items c.rows.all.items _ ∙ ap (λ xs. lists c.rows.all.items ++ xs ∷ []) c.in_ok-children.ensures in
    made_more children ps (length c.rows.all.items) c.in-Some.pattern.now (lists c.rows.all.items) (lists c.push.new.self.items) at
    (sym (length-map c.rows.all.items vec_items))
    (c.rows.invariant ∙ ap (λ k. take k (map children ps)) (length-map c.rows.all.items vec_items)) more

pub returns : goal.returns
returns c =
    let at : None ≡ slice_get c.args.grammar.now.patterns (length c.rows.all.items) = search rules in
    made_all children c.args.grammar.now.patterns (length c.rows.all.items) (lists c.rows.all.items) at (sym (length-map c.rows.all.items vec_items)) c.rows.invariant
