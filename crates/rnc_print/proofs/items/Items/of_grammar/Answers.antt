use Rattle.std.proofs.Common.{◌≡◌, ◌∙◌, ◌<◌, [], length, map, ap, get_or, rules}
use Rattle.rng_model.specs.simple.Table.{tree_at}
use Rattle.rncv_model.specs.printed.Items.{and_new, named_item, same_item}
use Rattle.rnc_print.specs.views.Items.{item_at}
use Rattle.rnc_print.proofs.ItemLines.{none_yet, one_line}
use Rattle.rnc_print.proofs.items.Items.of_grammar.Goals as goal

pub lines-init : goal.lines-init
lines-init c =
    let t = c.args.grammar.now in
    none_yet t c.add_written.new.self c.in_ok-add_written.ensures.items
    (c.in_ok-add_written.ensures.added
    ∙ ap (λ xs. and_new same_item (map (item_at t) xs) (named_item (tree_at t.patterns c.start-start.result))) c.new.ensures.items
    ∙ ap (λ id. and_new same_item [] (named_item (tree_at t.patterns id))) c.start-start.ensures.start)

pub lines-preserved : goal.lines-preserved
lines-preserved c =
    let long : c.lines.lines < length c.lines.found.all.items = search rules in
    let at : get_or c.lines.found.all.items c.lines.lines c.index-item.result.now ≡ c.index-item.result.now = search rules in
    one_line c.args.grammar.now c.lines.found c.add_mentions.new.self c.lines.lines c.index-item.result.now c.lines.invariant long at
    c.in_ok-add_mentions.ensures.items
    c.in_ok-add_mentions.ensures.added
