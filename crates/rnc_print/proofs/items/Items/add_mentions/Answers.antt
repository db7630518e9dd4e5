use Rattle.std.proofs.Common.{◌≡◌, ◌∙◌, sym, ap, subst}
use Rattle.std.specs.Prelude.{OnOk}
use Rattle.rng_model.specs.simple.Table.{grammar_of}
use Rattle.rncv_model.specs.printed.Items.{and_new, named_item, mentions, same_item}
use Rattle.rnc_print.specs.views.Items.{item_at, items_seen}
use Rattle.rnc_print.proofs.ItemTables.{body_inside, element_is, element_none}
use Rattle.rnc_print.proofs.items.Items.add_mentions.Goals as goal

pub add_written-requires-clause-inside : goal.add_written-requires-clause-inside
add_written-requires-clause-inside c = body_inside c.args.grammar.now c.requires.items.table c.in-Element.id.0 c.in-Some.field-0.now (sym c.in-Some.ensures)

pub returns-in-Some-clause-added : goal.returns-in-Some-clause-added
returns-in-Some-clause-added c =
    let body = ap (λ e. named_item e.1) (element_is c.args.grammar.now c.in-Element.id.0 c.in-Some.field-0.now (sym c.in-Some.ensures)) in
    let line = ap (λ i. mentions (grammar_of c.args.grammar.now) (item_at c.args.grammar.now i)) c.in-Element.is ∙ body in
    subst (λ is. OnOk c.add_written.result
    (items_seen c.args.grammar.now c.add_written.new.self ≡ and_new same_item (items_seen c.args.grammar.now c.args.self.now) is))
    (sym line) c.add_written.ensures.added

pub returns-in-None-clause-added : goal.returns-in-None-clause-added
returns-in-None-clause-added c =
    let body = ap (λ e. named_item e.1) (element_none c.args.grammar.now c.in-Element.id.0 (sym c.in-None.ensures)) in
    let line = ap (λ i. mentions (grammar_of c.args.grammar.now) (item_at c.args.grammar.now i)) c.in-Element.is ∙ body in
    ap (and_new same_item (items_seen c.args.grammar.now c.args.self.now)) (sym line)
