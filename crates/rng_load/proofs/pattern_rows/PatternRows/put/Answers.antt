use Rattle.std.proofs.Common.{◌≡◌, ◌∙◌, sym, ap, ap₂, subst, map, reverse, length}
use Rattle.rng_model.specs.views.SchemaView.{row_arity}
use Rattle.rng_load.specs.plain.OpenPatterns.{finished, with_read}
use Rattle.rng_load.specs.views.PatternRows.{Fits, made_of, open_of, opens, read_head}
use Rattle.rng_load.specs.views.ReadPatterns.{nested_of}
use Rattle.rng_load.proofs.Patterns.OpenPatterns.{external_made, leaf_made, opened, reverse_pushed, views_pushed}
use Rattle.rng_load.proofs.pattern_rows.PatternRows.put.Goals as goal

pub returns-in_ok-push-in-Leaf : goal.returns-in_ok-push-in-Leaf
returns-in_ok-push-in-Leaf c = λ files.
    let way = reverse c.args.way.now.items in
    let made = made_of c.args.self.now in
    let fits : row_arity c.in-Leaf.row ≡ 0 = subst Fits c.in-Leaf.is c.requires in
    ap (finished files (opens c.args.self.now) way)
    (leaf_made c.args.self.now.rows.items c.push.new.self.items c.in-Leaf.row (map nested_of c.args.self.now.grammars.items)
    c.in_ok-push-in-Leaf.ensures.items fits ∙ ap (λ h. with_read made (read_head files way h)) (sym c.in-Leaf.is))

pub returns-in_ok-push-in-External-2 : goal.returns-in_ok-push-in-External-2
returns-in_ok-push-in-External-2 c = λ files.
    let way = reverse c.args.way.now.items in
    let made = made_of c.args.self.now in
    let fits : row_arity c.in-External.row ≡ 0 = subst Fits c.in-External.is c.requires in
    ap (finished files (opens c.args.self.now) way)
    (external_made c.args.self.now.rows.items c.push-in-External.new.self.items c.push-in-External-2.new.self.items c.in-External.row
    (map nested_of c.args.self.now.grammars.items) c.in_ok-push-in-External.ensures.items c.in_ok-push-in-External-2.ensures.items fits
    ∙ ap (λ h. with_read made (read_head files way h)) (sym c.in-External.is))

pub returns-in_ok-push-in-Open-2 : goal.returns-in_ok-push-in-Open-2
returns-in_ok-push-in-Open-2 c = λ files.
    let way = reverse c.args.way.now.items in
    let made = made_of c.args.self.now in
    let o = open_of c.in-Open.open in
    let fits : row_arity o.row ≡ length o.left = subst Fits c.in-Open.is c.requires in
    ap₂ (λ os x. finished files os x made)
    (views_pushed open_of c.args.self.now.open.items c.push-in-Open-2.new.self.items c.in-Open.open c.in_ok-push-in-Open-2.ensures.items)
    (reverse_pushed c.args.way.now.items c.push-in-Open.new.self.items 0 c.in_ok-push-in-Open.ensures.items)
    ∙ opened files o (opens c.args.self.now) way made fits
    ∙ ap (λ h. finished files (opens c.args.self.now) way (with_read made (read_head files way h))) (sym c.in-Open.is)
